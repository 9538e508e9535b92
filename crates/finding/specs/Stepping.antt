-- What the code of the descent knows as it goes: the search for the next exponent, and where stepping has come to.
--
--   Searched n G i a lo hi   a range of rows of G whose first row has no exponent above a at variable i
--   Between G i a lo hi low high   row low of the range has no exponent above a at i, row high has one above it, or is the range's end
--   Strode tests end from to   a gallop to the end stopped at `to`, after `from`: what it was told there by its test
--   Reached n G q i lo hi steps   what the code knows where it goes on from variable i in the rows lo to before hi: they ascend, those are a group, and few
--                    steps are left
--   AtRun n G q i lo hi steps low high taken   stepping along variable i has come to the exponent of the rows low to before high,
--                    with `taken` steps before it, and what is left of the descent is the same
--   AtLastRun ..      the same, and that is the last exponent stepped on: the next one exceeds q's
--   found_or_ended o e   the row found, or the variable at which the descent ended with nothing
--   descended d      the descent d as the record that the code gives
use Rattle.std.specs.Prelude.{◌≡◌, ◌⊎◌, Bool, true, false, ℕ, suc, ◌+◌, ◌-◌, ◌≤◌, ◌<◌, length, Result, Ok, Err}
use Rattle.std.proofs.Math.Option.{Option, none, some}
use Rattle.terms.specs.Monomials.{Monomial, Table, ◌!◌, row_at}
use Rattle.terms.specs.Order.{Ascending}
use Rattle.division.specs.Descent.{Descent}
use Rattle.division.specs.Ranges.{GroupRange, FirstLarger, with_steps, descend_from}
use Rattle.terms.specs.declared.RowNumber.{RowNumber}
use Rattle.terms.specs.declared.Variable.{Variable}
use Rattle.finding.specs.declared.Descended.{Descended}

pub record Searched (n : ℕ) (G : Table) (i a lo hi : ℕ) : Type 0 where
  pub variable : 0 < i
  pub known : i ≤ n
  pub some : lo < hi
  pub within : hi ≤ length G
  pub limited : hi ≤ 4096
  pub not_above : row_at G lo ! i ≤ a

pub record Between (G : Table) (i a lo hi low high : ℕ) : Type 0 where
  pub from : lo ≤ low
  pub apart : low < high
  pub within : high ≤ hi
  pub not_above : row_at G low ! i ≤ a
  pub above : high < hi → a < row_at G high ! i

pub record Strode (tests : ℕ → Bool → Type 0) (end from to : ℕ) : Type 0 where
  pub apart : from < to
  pub within : to ≤ end
  pub passed : (from ≡ 0) ⊎ tests from false
  pub stopped : to < end → tests to true

pub record Reached (n : ℕ) (G : Table) (q : Monomial) (i lo hi steps : ℕ) : Type 0 where
  pub ascends : Ascending G
  pub limited : length G ≤ 4096
  pub group : GroupRange G i lo hi
  pub sized : length q ≡ n
  pub variable : 0 < i
  pub left : steps + (hi - lo) + (suc n - i) ≤ 4102

pub record AtRun (n : ℕ) (G : Table) (q : Monomial) (i lo hi steps low high taken : ℕ) : Type 0 where
  pub reached : Reached n G q i low hi taken
  pub under : row_at G low ! i ≤ q ! i
  pub last : FirstLarger G i low hi high
  pub from : lo ≤ low
  pub same : with_steps taken (descend_from n G q i low hi) ≡ with_steps steps (descend_from n G q i lo hi)

pub record AtLastRun (n : ℕ) (G : Table) (q : Monomial) (i lo hi steps low high taken : ℕ) : Type 0 where
  pub run : AtRun n G q i lo hi steps low high taken
  pub beyond : high < hi → q ! i < row_at G high ! i

abbrev pub found_or_ended : Option ℕ → ℕ → Result RowNumber Variable
found_or_ended (some r) e = Ok (record { 0 = r })
found_or_ended none e = Err (record { 0 = e })

abbrev pub descended : Descent → Descended
descended d = record { found = found_or_ended d.found d.ended; steps = d.steps }
