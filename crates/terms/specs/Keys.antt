-- Rows as numbers: in the order of rows the number of an earlier row is smaller.
--
--   row_key u i      the number whose digits to base 256 are the first i exponents of u
--   FrontAscends n table k   the first k rows of the table, as far as there are so many, ascend strictly; k is above 0
use Rattle.std.specs.Prelude.{List, ℕ, zero, suc, ◌+◌, ◌*◌, ◌<◌, length}
use Rattle.terms.specs.Monomials.{Monomial, ◌!◌, row_at}
use Rattle.terms.specs.Order.{Precedes}
use Rattle.terms.specs.Rows.{rows}

unfoldable pub row_key : Monomial → ℕ → ℕ
row_key u zero = 0
row_key u (suc i) = row_key u i * 256 + u ! suc i

pub record FrontAscends (n : ℕ) (table : List ℕ) (k : ℕ) : Type 0 where
  pub some : 0 < k
  pub ascends : (r : ℕ) → suc r < k → suc r < length (rows n table) → Precedes (row_at (rows n table) r) (row_at (rows n table) (suc r))
