-- The order of the checks, by inputs that two of them refuse.
--
--   entry_first      an entry above 50 and a query of another length: 4, and not 5
--   length_first     a query of another length and rows that do not ascend: 5, and not 6
use mathlib.Core.Path.{◌≡◌, refl}
use mathlib.Core.List.{[], ◌∷◌}
use Rattle.checks.specs.Refusals.{refusal}
use Rattle.terms.specs.Order.{ascending_test}
use Rattle.terms.specs.Rows.{rows}
use Rattle.finding.specs.Operation.{find_checks}

entry_first : refusal (find_checks 2 (51 ∷ 0 ∷ []) []) ≡ 4
unfolding refusal rows ascending_test
entry_first = refl

length_first : refusal (find_checks 2 (1 ∷ 0 ∷ 1 ∷ 0 ∷ []) []) ≡ 5
unfolding refusal rows ascending_test
length_first = refl
