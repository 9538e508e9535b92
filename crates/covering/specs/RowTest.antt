-- The check whether a table is complete, row by row.
--
--   Small G          each exponent of G is at most 50
--   variable_test G u i  variable i is multiplicative for u, or u times i has a Janet divisor
--   row_test n G u   the same of each variable
use Rattle.std.specs.Prelude.{Bool, not, ℕ, ◌<◌, length}
use Rattle.checks.specs.Tests.{◌implies◌, each}
use Rattle.terms.specs.Monomials.{Monomial, Table, row_at, AtMost, times}
use Rattle.division.specs.Janet.{multiplicative_test, covered_test}

abbrev pub Small : Table → Type 0
Small G = (r : ℕ) → r < length G → AtMost 50 (row_at G r)

unfoldable pub variable_test : Table → Monomial → ℕ → Bool
unfolding multiplicative_test covered_test
variable_test G u i = not (multiplicative_test G u i) implies covered_test G (times u i 1)

unfoldable pub row_test : ℕ → Table → Monomial → Bool
unfolding variable_test
row_test n G u = each n (variable_test G u)
