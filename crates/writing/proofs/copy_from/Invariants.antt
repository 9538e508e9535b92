-- `copy_from` meets its contract. The loop has written the first i bytes of the copy.
use Rattle.writing.proofs.CopyLaws.{Copied}
use Rattle.writing.proofs.copy_from.Given as goal

abbrev pub invariant-loop-i : goal.invariant-loop-i
invariant-loop-i l = Copied l.initial.bytes l.other l.from l.to l.count l.i l.bytes
