-- The rows of a table in ascending order, by the number of the row at each place.
--
--   InOrder G number   each place has the number of a row, each row has a place, and each row precedes every later one
--   GivesOrder G pre post   a function that gives such an order: it may be called at each place, and what it gives there is the number
use Rattle.std.specs.Prelude.{◌≡◌, ℕ, ◌<◌, length}
use Rattle.terms.specs.Monomials.{Table, row_at}
use Rattle.terms.specs.Order.{Precedes}
use Rattle.terms.specs.declared.RowNumber.{RowNumber}

pub record InOrder (G : Table) (number : ℕ → ℕ) : Type 0 where
  pub numbers : (k : ℕ) → k < length G → number k < length G
  pub places : (r : ℕ) → r < length G → (k : ℕ) × (k < length G) × (number k ≡ r)
  pub ordered : (k l : ℕ) → k < l → l < length G → Precedes (row_at G (number k)) (row_at G (number l))

pub record GivesOrder (G : Table) (pre : ℕ → Type 0) (post : ℕ → RowNumber → Type 0) : Type 0 where
  pub number : ℕ → ℕ
  pub order : InOrder G number
  pub asked : (k : ℕ) → k < length G → pre k
  pub given : (k : ℕ) (r : RowNumber) → post k r → r.0 ≡ number k
