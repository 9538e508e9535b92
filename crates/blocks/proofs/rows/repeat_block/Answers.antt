use Rattle.std.proofs.Common.{arith, ◌≡◌, ◌∙◌, Some, ap, sym, append-nil, suc, ◌+◌, ◌*◌, ◌-◌, ◌≤◌, length, drop}
use Rattle.terms.specs.Rows.{flat}
use Rattle.terms.proofs.RowsLaws.{length_first_rows}
use Rattle.blocks.specs.Bytes.{part, copies}
use Rattle.blocks.proofs.RowLaws.{repeat_more, copies_next, repeat_beyond}
use Rattle.blocks.proofs.BufferLaws.{fit_within}
use Rattle.blocks.proofs.rows.repeat_block.Goals as goal

pub loop-head-init : goal.loop-head-init
unfolding copies flat
loop-head-init c =
    let none : c.args.last + 1 - suc c.args.last ≡ 0 = omega arith in
    rw none (omega arith, omega arith, sym (append-nil _), omega arith)

pub returns-then-out-end : goal.returns-then-out-end
returns-then-out-end c =
    let a = c.args in
    let l = c.loop-head in
    let count = a.stop.0 - a.first.0 in
    let block = part a.n count (a.first.0 * a.n) a.out.now in (
      repeat_beyond a.n (length a.out.now) (a.i.0 - 1) (suc a.last) a.a l.head a.stop.0 count l.end block (omega arith) (omega arith)
          (length_first_rows a.n count (drop (a.first.0 * a.n) a.out.now)) l.invariant.1 (omega (arith, l.auto.out)),
      tt,
    )

pub loop-head-preserved : goal.loop-head-preserved
loop-head-preserved c =
    let a = c.args in
    let l = c.loop-head in
    let count = a.stop.0 - a.first.0 in
    let block = part a.n count (a.first.0 * a.n) a.out.now in
    let rows = length_first_rows a.n count (drop (a.first.0 * a.n) a.out.now) in (
      omega (arith, c.copy_block.auto.out),
      omega (arith, copies_next (a.i.0 - 1) (suc a.last) l.head count block (omega arith) rows),
      repeat_more a.n (a.i.0 - 1) a.first.0 count a.stop.0 (suc a.last) l.head l.end l.out c.copy_block.new.out a.out.now
          (omega arith) (omega arith) (omega arith) (omega (arith, l.auto.out)) (omega arith) l.invariant.2 c.copy_block.ensures,
      omega arith,
    )

pub returns : goal.returns
returns c =
    let a = c.args in
    let l = c.loop-head in
    let heads : l.head - suc a.last ≡ a.a - suc a.last = omega arith in
    let fits : l.end * a.n ≤ length a.out.now = omega (arith, l.auto.out) in
    let end = rw heads at l.invariant.1 in
    (ap Some end ∙ sym (fit_within a.n (length a.out.now) _ (rw end at fits)), rw heads at l.invariant.2)
