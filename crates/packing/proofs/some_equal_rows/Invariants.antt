-- The tables from the one at hand on decide, and what is left are their rows.
use Rattle.packing.proofs.SearchLaws.{Looked}
use Rattle.packing.proofs.some_equal_rows.Given as goal

abbrev pub invariant-loop-count : goal.invariant-loop-count
invariant-loop-count l = Looked l.n l.counts l.tables l.count-index l.left
