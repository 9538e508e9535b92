-- It is the largest of the entries before the one at hand.
use lib.ListN.{take}
use Rattle.terms.specs.Monomials.{LargestOf}
use Rattle.terms.proofs.largest_of.Given as goal

abbrev pub invariant-loop-entry : goal.invariant-loop-entry
invariant-loop-entry l = LargestOf (take l.entry-index l.bytes) l.largest
