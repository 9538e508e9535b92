-- Equal rows by example: E has them and is refused by 12, D has none; and the order of the checks, by an input that two of them refuse.
--
--   example_e        rows 0 and 1 of E are equal
--   refused_e, accepted_d   the number of E, and of D
--   entry_first      an entry above 50 and two equal rows: 4, and not 12
--   far_apart        equal rows with others between them
use mathlib.Core.Path.{◌≡◌, refl}
use mathlib.Core.List.{[], ◌∷◌}
use native.Mathlib.Omega.{arith}
use Rattle.terms.specs.Monomials.{EqualRows}
use Rattle.terms.specs.Rows.{rows}
use Rattle.terms.specs.ExampleTables.{bytes_d, table_e, bytes_e}
use Rattle.checks.specs.Refusals.{refusal}
use Rattle.distinct.specs.EqualRows.{same_test, equal_rows_test, distinct_checks}

pub example_e : EqualRows table_e
example_e = (1, omega arith, (0, omega arith, refl))

refused_e : refusal (distinct_checks 2 bytes_e) ≡ 12
unfolding refusal rows equal_rows_test same_test
refused_e = refl

accepted_d : refusal (distinct_checks 2 bytes_d) ≡ 0
unfolding refusal rows equal_rows_test same_test
accepted_d = refl

entry_first : refusal (distinct_checks 1 (1 ∷ 1 ∷ 51 ∷ [])) ≡ 4
unfolding refusal rows equal_rows_test same_test
entry_first = refl

far_apart : refusal (distinct_checks 1 (7 ∷ 5 ∷ 6 ∷ 7 ∷ [])) ≡ 12
unfolding refusal rows equal_rows_test same_test
far_apart = refl
