-- Cones and divisors (rules 3 and 4) over any division, so that Janet's is one among others.
--
--   Division         an assignment of marks: of a table, one of its rows and a variable, whether the row has a mark there
--   Cone Marked u q  q is in the cone of u whose marked variables are `Marked` (rule 3)
--   Divisor M G u q  u is a row of G, and q is in the cone that the marks M give it (rule 3)
--   DivisorAt M G r q   the same of row number r
--   Disjoint M G     no monomial is in the cones of two row numbers
--   Covers M n G     each monomial of the ideal of G is in the cone of some row number
--   CompleteBy M n G   rule 4, read with the marks M
use Rattle.std.specs.Prelude.{◌≡◌, ℕ, ◌≤◌, ◌<◌, length}
use Rattle.terms.specs.Monomials.{Monomial, Table, ◌!◌, ◌∈◌, row_at, times}
use Rattle.terms.specs.Ideal.{Divides, Inside}

abbrev pub Division : Type 1
Division = Table → Monomial → ℕ → Type 0

-- Rule 3: u divides q, and q exceeds u only in marked variables.
pub record Cone (Marked : ℕ → Type 0) (u q : Monomial) : Type 0 where
  pub divides : Divides u q
  pub only : (i : ℕ) → u ! i < q ! i → Marked i

pub record Divisor (M : Division) (G : Table) (u q : Monomial) : Type 0 where
  pub member : u ∈ G
  pub cone : Cone (M G u) u q

pub record DivisorAt (M : Division) (G : Table) (r : ℕ) (q : Monomial) : Type 0 where
  pub within : r < length G
  pub cone : Cone (M G (row_at G r)) (row_at G r) q

abbrev pub Disjoint : Division → Table → Type 0
Disjoint M G = (r s : ℕ) → (r ≡ s → ⊥) → (q : Monomial) → DivisorAt M G r q → DivisorAt M G s q → ⊥

abbrev pub Covers : Division → ℕ → Table → Type 0
Covers M n G = (q : Monomial) → length q ≡ n → Inside G q → (r : ℕ) × DivisorAt M G r q

-- Rule 4: for every row and every variable of it without a mark, the row times that variable has a divisor in the table.
abbrev pub CompleteBy : Division → ℕ → Table → Type 0
CompleteBy M n G = (u : Monomial) → u ∈ G → (i : ℕ) → 0 < i → i ≤ n → (M G u i → ⊥) → (v : Monomial) × Divisor M G v (times u i 1)
