-- Inside by example: the order of the checks, and the first of two rows that divide.
--
--   entry_first      an entry above 50 and a query of another length: 4, and not 5
--   example_e        rows 1 0 and 1 0: 12 whatever the query, so before 5
--   first_of_two     rows 1 0 and 0 0 both divide 1 0: the first is given
use mathlib.Core.Path.{◌≡◌, refl}
use mathlib.Core.List.{List, [], ◌∷◌}
use Prim.Native.Nat.{ℕ}
use mathlib.Core.Option.{some}
use Rattle.checks.specs.Refusals.{refusal}
use Rattle.terms.specs.Rows.{rows}
use Rattle.terms.specs.ExampleTables.{bytes_e}
use Rattle.distinct.specs.EqualRows.{same_test, equal_rows_test}
use Rattle.inside.specs.FirstDividing.{first_dividing}
use Rattle.inside.specs.Operation.{inside_checks}

entry_first : refusal (inside_checks 2 (51 ∷ 0 ∷ []) []) ≡ 4
unfolding refusal rows
entry_first = refl

pub example_e : (query : List ℕ) → refusal (inside_checks 2 bytes_e query) ≡ 12
unfolding refusal rows equal_rows_test same_test
example_e query = refl

first_of_two : first_dividing ((1 ∷ 0 ∷ []) ∷ (0 ∷ 0 ∷ []) ∷ []) (1 ∷ 0 ∷ []) ≡ some 0
unfolding first_dividing
first_of_two = refl
