-- The order of the checks 1 to 4, by tables that two of them refuse.
--
--   variables_first  n is 7, and an entry is above 50: 1, and not 4
--   length_first     one byte for n = 2, and it is above 50: 2, and not 4
use mathlib.Core.Path.{◌≡◌, refl}
use mathlib.Core.List.{[], ◌∷◌}
use Rattle.terms.specs.Rows.{rows}
use Rattle.checks.specs.Refusals.{refusal}
use Rattle.terms.specs.TableChecks.{table_checks}

variables_first : refusal (table_checks 7 (51 ∷ [])) ≡ 1
unfolding refusal rows
variables_first = refl

length_first : refusal (table_checks 2 (51 ∷ [])) ≡ 2
unfolding refusal rows
length_first = refl
