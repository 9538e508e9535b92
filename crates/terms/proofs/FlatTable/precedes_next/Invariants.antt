-- The two rows are equal before the exponent at hand; the first difference decides, and without one neither precedes.
use mathlib.Core.Path.{◌≡◌}
use Prim.Native.Nat.{ℕ, suc, ◌≤◌}
use Rattle.terms.specs.Monomials.{◌!◌, row_at}
use Rattle.terms.specs.Rows.{rows}
use Rattle.terms.proofs.FlatTable.precedes_next.Given as goal

abbrev pub invariant-loop-i : goal.invariant-loop-i
invariant-loop-i l = (j : ℕ) → j ≤ l.i → row_at (rows l.self.n l.self.bytes.now) l.fn.k.0 ! j ≡ row_at (rows l.self.n l.self.bytes.now) (suc l.fn.k.0) ! j
