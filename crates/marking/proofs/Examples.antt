-- The order of the checks, by an input that two of them refuse.
--
--   entry_first      an entry above 50 and a buffer shorter than the rows: 4, and not 8
--   example_e        rows 1 0 and 1 0: 12 whatever the buffer, so before 8
use mathlib.Core.Path.{◌≡◌, refl}
use mathlib.Core.List.{[], ◌∷◌}
use Prim.Native.Nat.{ℕ}
use Rattle.checks.specs.Refusals.{refusal}
use Rattle.terms.specs.Rows.{rows}
use Rattle.terms.specs.ExampleTables.{bytes_e}
use Rattle.distinct.specs.EqualRows.{same_test, equal_rows_test}
use Rattle.marking.specs.Operation.{marks_checks}

entry_first : refusal (marks_checks 2 (51 ∷ 0 ∷ []) 0) ≡ 4
unfolding refusal rows
entry_first = refl

pub example_e : (size : ℕ) → refusal (marks_checks 2 bytes_e size) ≡ 12
unfolding refusal rows equal_rows_test same_test
example_e size = refl
