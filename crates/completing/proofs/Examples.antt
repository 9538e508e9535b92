-- Examples J and E of the paper, of what `complete` promises: D's rows with 6 bytes of room and with 5, and a row twice.
--
--   example_j_accepted, -refused   every result that the promise allows
--   example_j_written, -kept       what the lent bytes become
--   example_e        rows 1 0 and 1 0: refused by 12, whatever the room
use mathlib.Core.Path.{◌≡◌, refl, ap, ◌∙◌}
use mathlib.Core.List.{List, [], ◌∷◌}
use Prim.Native.Nat.{ℕ}
use lib.ListN.{length}
use Rattle.checks.specs.Refusals.{refusal, answered}
use Rattle.terms.specs.Rows.{rows, flat}
use Rattle.terms.specs.ExampleTables.{bytes_d, bytes_e}
use Rattle.distinct.specs.EqualRows.{same_test, equal_rows_test}
use Rattle.completion.specs.Completed.{completed}
use Rattle.completing.specs.Operation.{room_for, completed_of, complete_checks, completed_buffer, CompletePromise}
use Rattle.std.specs.Prelude.{Result, Ok, Err}
use Rattle.checks.specs.declared.Refusal.{Refusal}
use Rattle.checks.specs.declared.Refusal.TheVariants.{Room}
use Rattle.checks.proofs.OutcomeLaws.{same_outcome}

-- the number, the row count and the buffer with room for six bytes, and for five
abbrev number_j : ℕ → ℕ
number_j size = refusal (complete_checks 2 bytes_d size)

abbrev count_j : ℕ → ℕ
count_j size = answered (complete_checks 2 bytes_d size) (length (completed_of 2 bytes_d)) 0

abbrev buffer_j : List ℕ → List ℕ
buffer_j buffer = answered (complete_checks 2 bytes_d (length buffer)) (completed_buffer 2 bytes_d buffer) buffer

six : (number_j 6 ≡ 0) × (count_j 6 ≡ 3)
unfolding answered completed rows equal_rows_test same_test room_for
six = (refl, refl)

five : (number_j 5 ≡ 8) × (count_j 5 ≡ 0)
unfolding answered completed rows equal_rows_test same_test room_for
five = (refl, refl)

pub example_j_accepted : (buffer : List ℕ) {answer : Result ℕ Refusal} {after : List ℕ} → length buffer ≡ 6 → CompletePromise 2 bytes_d buffer answer after →
    answer ≡ Ok 3
example_j_accepted buffer e p = same_outcome 0 _ (Ok 3) (p.number ∙ ap number_j e ∙ six.0) (p.count ∙ ap count_j e ∙ six.1)

pub example_j_refused : (buffer : List ℕ) {answer : Result ℕ Refusal} {after : List ℕ} → length buffer ≡ 5 → CompletePromise 2 bytes_d buffer answer after →
    answer ≡ Err Room
example_j_refused buffer e p = same_outcome 0 _ (Err Room) (p.number ∙ ap number_j e ∙ five.0) (p.count ∙ ap count_j e ∙ five.1)

-- what six lent bytes become, and what five stay
pub example_j_written : (a b c d e f : ℕ) → buffer_j (a ∷ b ∷ c ∷ d ∷ e ∷ f ∷ []) ≡ 0 ∷ 2 ∷ 1 ∷ 2 ∷ 2 ∷ 1 ∷ []
unfolding answered completed rows equal_rows_test same_test flat room_for
example_j_written a b c d e f = refl

pub example_j_kept : (a b c d e : ℕ) → buffer_j (a ∷ b ∷ c ∷ d ∷ e ∷ []) ≡ a ∷ b ∷ c ∷ d ∷ e ∷ []
unfolding answered completed rows equal_rows_test same_test room_for
example_j_kept a b c d e = refl

-- whatever the room: 12 comes before 8
pub example_e : (size : ℕ) → refusal (complete_checks 2 bytes_e size) ≡ 12
unfolding refusal rows equal_rows_test same_test
example_e size = refl
