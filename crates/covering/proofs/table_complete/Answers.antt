-- One row that fails decides; where each passes down to row 0, the test of the table holds.
use native.Mathlib.Omega.{arith}
use mathlib.Core.Path.{◌≡◌}
use Prim.Native.Nat.{suc, ◌-◌, ◌<◌}
use lib.ListN.{length}
use Rattle.terms.specs.Rows.{rows_of}
use Rattle.marking.proofs.InOrderLaws.{ascending_order, last_in_order, carried_asks, carried_marks}
use Rattle.covering.proofs.RowTestLaws.{row_asks, last_complete, turn_fails, turn_goes_on, complete_whole, complete_none}
use Rattle.covering.proofs.table_complete.Goals as goal

pub returns-then-count-eq0 : goal.returns-then-count-eq0
returns-then-count-eq0 c = complete_none c.args.table.n (rows_of c.args.table) (omega (arith, c.row_count-count.ensures, c.if-count-eq0.true))

pub loop-k-init : goal.loop-k-init
loop-k-init c =
    let n = c.args.table.n in
    let G = rows_of c.args.table in
    let k = c.row_count-count.result - 1 in
    let last : suc k ≡ length G = omega (arith, c.row_count-count.ensures, c.if-count-eq0.false) in
    record {
      within = omega arith;
      next = c.row_at-next.ensures;
      marks = last_in_order n G (λ x. x) (ascending_order G c.requires.0.ascends) k _ last c.marks_last-marks.ensures;
      behind = last_complete n G c.requires.0.ascends k last;
    }

pub marks_by_next-marks-requires : goal.marks_by_next-marks-requires
marks_by_next-marks-requires c =
    let t = c.args.table in
    let l = c.loop-k.invariant in
    let order = ascending_order (rows_of t) c.requires.0.ascends in
    carried_asks t.n t.bytes.now c.requires.0.six (λ x. x) order c.loop-k.k c.loop-k-test.true l.within _ _ c.row_at-row.ensures l.next

pub row_complete-requires : goal.row_complete-requires
row_complete-requires c =
    let t = c.args.table in
    let l = c.loop-k.invariant in
    let order = ascending_order (rows_of t) c.requires.0.ascends in
    let marked = carried_marks t.n t.bytes.now c.requires.0.six (λ x. x) order c.loop-k.k c.loop-k-test.true l.within
    _ _ c.row_at-row.ensures l.next _ _ l.marks c.marks_by_next-marks.ensures in
    row_asks t.n t.bytes.now (c.loop-k.k - 1) (omega (arith, l.within)) _ c.row_at-row.ensures _ c.requires.0 c.requires.1 marked

pub returns-then-not-row_complete : goal.returns-then-not-row_complete
returns-then-not-row_complete c =
    let t = c.args.table in
    let k = c.loop-k.k - 1 in
    let within : k < length (rows_of t) = omega (arith, c.loop-k.invariant.within) in
    turn_fails t.n t.bytes.now k within _ c.row_at-row.ensures _ c.row_complete.ensures c.if-not-row_complete.true

pub loop-k-preserved : goal.loop-k-preserved
loop-k-preserved c =
    let t = c.args.table in
    let l = c.loop-k.invariant in
    let k = c.loop-k.k in
    let order = ascending_order (rows_of t) c.requires.0.ascends in
    let back : suc (k - 1) ≡ k = omega arith in
    let within : k - 1 < length (rows_of t) = omega (arith, l.within) in
    record {
      within = within;
      next = c.row_at-row.ensures;
      marks = carried_marks t.n t.bytes.now c.requires.0.six (λ x. x) order k c.loop-k-test.true l.within
          _ _ c.row_at-row.ensures l.next _ _ l.marks c.marks_by_next-marks.ensures;
      behind = turn_goes_on t.n t.bytes.now (k - 1) within _ c.row_at-row.ensures _ c.row_complete.ensures c.if-not-row_complete.false
          (rw back l.behind);
    }

pub returns : goal.returns
returns c =
    let e : c.loop-k.k ≡ 0 = omega arith in
    complete_whole c.args.table.n (rows_of c.args.table) (rw e at c.loop-k.invariant.behind)
