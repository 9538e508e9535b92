-- `copy_within` meets its contract. The loop has written the first i bytes of the copy; the bytes that it reads stand before those that it writes.
use Rattle.writing.proofs.CopyLaws.{Copied}
use Rattle.writing.proofs.copy_within.Given as goal

abbrev pub invariant-loop-i : goal.invariant-loop-i
invariant-loop-i l = Copied l.initial.bytes l.initial.bytes l.from l.to l.count l.i l.bytes
