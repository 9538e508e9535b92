-- Rows in ascending order are not equal; what is left is whether there is room.
use native.Mathlib.Omega.{arith}
use Rattle.terms.specs.Rows.{rows_of}
use Rattle.marking.proofs.InOrderLaws.{order_distinct}
use Rattle.marking.proofs.OperationLaws.{marks_short, marks_done}
use Rattle.marking.proofs.marks_in_order.Goals as goal

pub returns-then-buffer-row_count : goal.returns-then-buffer-row_count
returns-then-buffer-row_count g c =
    let t = c.args.table in
    let o = c.requires.1 in
    marks_short t.n t.bytes.now c.args.buffer.now c.requires.0 (order_distinct t.n (rows_of t) o.number o.order) (omega arith)

pub returns : goal.returns
returns g c =
    let t = c.args.table in
    let o = c.requires.1 in
    marks_done t.n t.bytes.now c.args.buffer.now c.requires.0 (order_distinct t.n (rows_of t) o.number o.order) (omega arith) _ c.mark_rows.ensures
