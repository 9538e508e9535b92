-- No exponent before the one at hand exceeds q's; the first that does is the answer.
use Prim.Native.Nat.{ℕ, ◌≤◌}
use Rattle.terms.specs.Monomials.{◌!◌}
use Rattle.terms.proofs.first_failure.Given as goal

abbrev pub invariant-loop-i : goal.invariant-loop-i
invariant-loop-i l = (j : ℕ) → j ≤ l.i → l.u.exponents ! j ≤ l.q.exponents ! j
