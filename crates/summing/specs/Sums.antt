-- The sums over the rows of a table whose marks stand beside it as bytes: what the pass over the rows makes, whatever the marks are.
--
--   shares_of f G marks  the shares of the rows of G, each by f from its degree and its number of marks; row r has the marks of byte r
--   Summable n table marks   what the pass over the rows asks: the table's limits, and a byte of at most six marks a row
--   AtRows P         P holds of each degree and number of marks that a row can have
--   largest_share    the largest binomial, C(306, 6): no share exceeds it
--   Within b z       z is at most b, whatever its sign
--   Marked n table marks   byte r has Janet's marks of row r, for each row of the table
--   Checked n table  what the checks leave: the table's limits, ascending rows, a complete table
use Rattle.std.specs.Prelude.{◌≡◌, List, ℕ, ◌≤◌, ◌<◌, length, get_or, ℤ, pos, neg_ℤ, ◌≤ℤ◌}
use Rattle.std.specs.List.{zip}
use Rattle.std.specs.Int.Count.{ones}
use Rattle.terms.specs.Monomials.{Table, row_at, degree}
use Rattle.terms.specs.Order.{Ascending}
use Rattle.terms.specs.Rows.{rows}
use Rattle.terms.specs.TableChecks.{TableAccepted}
use Rattle.terms.specs.declared.Degree.{Degree}
use Rattle.division.proofs.Facade.{Complete, marks_of}
use Rattle.counts.specs.Counts.{sumℤ}

abbrev pub shares_of : (ℕ → ℕ → ℤ) → Table → List ℕ → ℤ
shares_of f G marks = sumℤ (λ p. f (degree p.0) (ones p.1)) (zip G marks)

pub record Summable (n : ℕ) (table marks : List ℕ) : Type 0 where
  pub accepted : TableAccepted n table
  pub marked : length (rows n table) ≤ length marks
  pub six_marks : (k : ℕ) → k < length (rows n table) → get_or marks k 0 < 64

abbrev pub AtRows : (Degree → ℕ → Type 0) → Type 0
AtRows P = (d : Degree) (m : ℕ) → d.0 ≤ 300 → m ≤ 6 → P d m

abbrev pub largest_share : ℕ
largest_share = 1085371516236

pub record Within (b : ℕ) (z : ℤ) : Type 0 where
  pub low : neg_ℤ (pos b) ≤ℤ z
  pub high : z ≤ℤ pos b

pub record Checked (n : ℕ) (table : List ℕ) : Type 0 where
  pub accepted : TableAccepted n table
  pub ascending : Ascending (rows n table)
  pub complete : Complete n (rows n table)

pub record Marked (n : ℕ) (table marks : List ℕ) : Type 0 where
  pub long : length (rows n table) ≤ length marks
  pub at : (r : ℕ) → r < length (rows n table) → get_or marks r 0 ≡ marks_of n (rows n table) (row_at (rows n table) r)
