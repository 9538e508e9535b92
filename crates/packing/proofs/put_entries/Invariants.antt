-- `put_entries` meets its contract. What is written and the entries that are left are the entries of all tables.
use Rattle.packing.proofs.LoopLaws.{Entered}
use Rattle.packing.proofs.put_entries.Given as goal

abbrev pub invariant-loop-rows : goal.invariant-loop-rows
invariant-loop-rows l = Entered l.n l.counts l.initial.buffer l.place l.at l.rows-index l.buffer
