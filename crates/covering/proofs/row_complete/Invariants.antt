-- Invariant: the test holds of the variables 1 to i. A variable with its bit set passes; one without it passes where the product has a Janet divisor.
use mathlib.Core.Path.{◌≡◌}
use mathlib.Core.Bool.{true}
use Rattle.checks.specs.Tests.{each}
use Rattle.terms.specs.Rows.{rows_of, monomial_of}
use Rattle.covering.specs.RowTest.{variable_test}
use Rattle.covering.proofs.row_complete.Given as goal

abbrev pub invariant-loop-i : goal.invariant-loop-i
invariant-loop-i l = each l.i (variable_test (rows_of l.table) (monomial_of l.row)) ≡ true
