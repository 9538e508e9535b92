-- The rows before row k ascend, and `before` is the number of the last of them.
use Prim.Native.Nat.{◌-◌, ◌≤◌}
use lib.ListN.{length}
use Rattle.terms.proofs.KeyLaws.{Front}
use Rattle.terms.proofs.ascending_front.Given as goal

abbrev pub invariant-loop-at : goal.invariant-loop-at
invariant-loop-at l = (l.k ≤ l.at) × Front l.n l.bytes l.before l.k l.at

abbrev pub decreases-loop-at : goal.decreases-loop-at
decreases-loop-at l = length l.bytes - l.at
