use Rattle.std.proofs.Common.{arith, ◌≡◌, sym, append-nil, ◌+◌, ◌*◌, length}
use Rattle.terms.specs.Rows.{first_rows, flat}
use Rattle.terms.proofs.RowsLaws.{row_fits}
use Rattle.blocks.proofs.RowLaws.{compact_more}
use Rattle.blocks.proofs.rows.copy_ends.Goals as goal

pub loop-row-init : goal.loop-row-init
unfolding first_rows flat
loop-row-init c =
    let none : c.args.to + 0 * c.args.rest ≡ c.args.to = omega arith in
    rw none (sym (append-nil _))

pub loop-row-preserved : goal.loop-row-preserved
loop-row-preserved c =
    let a = c.args in
    let l = c.loop-row in
    let target = row_fits l.row a.count a.rest (a.count * a.rest) (omega arith) (omega arith) in
    let source = row_fits (a.first.0 + l.row) (a.first.0 + a.count) a.n (length a.out.now) (omega arith) (omega arith) in
    compact_more a.n a.rest a.first.0 l.row a.to a.out.now l.bytes c.copy_from.new.bytes a.bytes.now
    (omega arith) (omega arith) (omega (arith, l.auto.bytes)) l.invariant c.copy_from.ensures
