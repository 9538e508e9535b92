use Rattle.std.proofs.Common.{arith, ◌≡◌, ◌+◌, ◌-◌, ◌*◌, ◌≤◌, length}
use Rattle.terms.proofs.RowsLaws.{row_fits}
use Rattle.blocks.proofs.RowLaws.{columned_start, column_more}
use Rattle.blocks.proofs.rows.set_column.Goals as goal

pub loop-row-init : goal.loop-row-init
loop-row-init c =
    let a = c.args in
    let none : a.first.0 - a.first.0 ≡ 0 = omega arith in
    rw none (columned_start a.out.now a.n (a.i.0 - 1) a.first.0 a.e)

pub loop-row-preserved : goal.loop-row-preserved
loop-row-preserved c =
    let a = c.args in
    let l = c.loop-row in
    let passed : a.first.0 + (l.row - a.first.0) ≡ l.row = omega arith in
    let more : l.row + 1 - a.first.0 ≡ l.row - a.first.0 + 1 = omega arith in
    let lies : l.row * a.n + a.n ≤ length a.out.now = row_fits l.row (a.first.0 + a.count) a.n (length a.out.now) (omega arith) (omega arith) in
    let fits : (a.first.0 + (l.row - a.first.0)) * a.n + a.n ≤ length a.out.now = rw passed lies in
    rw more (rw passed at (column_more a.out.now a.n (a.i.0 - 1) a.first.0 a.e l.out (l.row - a.first.0) fits (omega arith) l.invariant))
