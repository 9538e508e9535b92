-- A refusal is passed on; otherwise the marks stand at the front of the array.
use mathlib.Core.Path.{sym}
use Rattle.summing.proofs.PassLaws.{marked_front}
use Rattle.counting.proofs.OperationLaws.{can_mark}
use Rattle.counting.proofs.checked_marks.Goals as goal

pub mark_ascending-requires : goal.mark_ascending-requires
mark_ascending-requires c = let t = c.args.table in can_mark t.n t.bytes.now c.args.s.0 (sym c.in_ok-check_count.ensures)

pub returns : goal.returns
returns c =
    let t = c.args.table in
    record { number = c.in_ok-check_count.ensures; marks = marked_front t.n t.bytes.now _ _ c.mark_ascending.ensures }
