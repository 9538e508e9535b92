-- The last row in order has every mark; the row before a place has its marks from the row at it. Each row has a place, so all are marked.
use native.Mathlib.Omega.{arith}
use mathlib.Core.Path.{◌≡◌}
use Prim.Native.Nat.{◌-◌, suc}
use lib.ListN.{length}
use Rattle.terms.specs.Rows.{rows_of}
use Rattle.marking.proofs.InOrderLaws.{last_in_order, read_at, carried_asks, carried_marks}
use Rattle.marking.proofs.WritingLaws.{written_last, written_step, written_all, none_marked}
use Rattle.marking.proofs.mark_rows.Goals as goal

pub returns-then-count-eq0 : goal.returns-then-count-eq0
returns-then-count-eq0 g c = none_marked c.args.table.n (rows_of c.args.table) c.args.buffer.now (omega (arith, c.row_count-count.ensures))

pub loop-k-init : goal.loop-k-init
loop-k-init g c =
    let a = c.args in
    let o = c.requires.1 in
    let k = c.row_count-count.result - 1 in
    let G = rows_of a.table in
    let last : suc k ≡ length G = omega (arith, c.row_count-count.ensures, c.if-count-eq0.false) in
    let place = o.given k _ c.number_at-last.ensures in
    let marks = last_in_order a.table.n G o.number o.order k _ last c.marks_last-marks.ensures in (
      o,
      record {
        within = omega arith;
        next = read_at a.table.n G c.row_at-next.ensures place;
        marks = marks;
        written = written_last a.table.n G o.number o.order a.buffer.now c.requires.0.room k _ _ last place marks;
      },
    )

pub marks_by_next-marks-requires : goal.marks_by_next-marks-requires
marks_by_next-marks-requires g c =
    let a = c.args in
    let l = c.loop-k.invariant in
    let o = l.0 in
    let read = read_at a.table.n (rows_of a.table) c.row_at-row.ensures (o.given (c.loop-k.k - 1) _ c.number_at-number.ensures) in
    carried_asks a.table.n a.table.bytes.now c.requires.0.six o.number o.order c.loop-k.k c.loop-k-test.true l.1.within _ _ read l.1.next

pub loop-k-preserved : goal.loop-k-preserved
loop-k-preserved g c =
    let a = c.args in
    let l = c.loop-k.invariant in
    let o = l.0 in
    let k = c.loop-k.k in
    let G = rows_of a.table in
    let place = o.given (k - 1) _ c.number_at-number.ensures in
    let read = read_at a.table.n G c.row_at-row.ensures place in
    let marks = carried_marks a.table.n a.table.bytes.now c.requires.0.six o.number o.order k c.loop-k-test.true l.1.within _ _ read l.1.next
    _ _ l.1.marks c.marks_by_next-marks.ensures in (
      o,
      record {
        within = omega (arith, l.1.within);
        next = read;
        marks = marks;
        written = written_step a.table.n G o.number o.order a.buffer.now c.requires.0.room c.loop-k.buffer k _ _
            c.loop-k-test.true l.1.within place marks l.1.written;
      },
    )

pub returns : goal.returns
returns g c =
    let a = c.args in
    let l = c.loop-k.invariant in
    let e : c.loop-k.k ≡ 0 = omega arith in
    written_all a.table.n (rows_of a.table) l.0.number l.0.order a.buffer.now c.requires.0.room c.loop-k.buffer (rw e at l.1.written)
