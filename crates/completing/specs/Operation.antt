-- What `complete` promises.
--
--   room_for n size        the room for completed rows in a lent buffer: the lesser of 4,096 and its length divided by n, rounded down
--   completed_of n table   the completed table of the rows that the bytes are
--   NoRoom n table size    8: more rows than room
--   complete_checks n table size  the checks in order: 1 to 4 and 12 of the table, 8
--   complete_rows    the row count of an answer, 0 beside a refusal
--   completed_buffer n table buffer  the buffer with the completed rows at its front; the bytes behind them stay
--   CompletePromise n table buffer answer after   the promise: the number is that of the first check that refuses, the row count that of
--                          the completed table, and the buffer has the table, or on refusal is as it was
use Rattle.std.specs.Prelude.{◌≡◌, List, [], ◌∷◌, ◌++◌, ℕ, ◌*◌, ◌/◌, ◌<◌, min, ltb, length, drop, Result}
use Rattle.std.proofs.Common.{lit<}
use Rattle.checks.specs.Tests.{Tests}
use Rattle.checks.proofs.TestLaws.{tests_lt}
use Rattle.terms.specs.Monomials.{Table}
use Rattle.terms.specs.Rows.{rows, flat}
use Rattle.checks.specs.declared.Refusal.{Refusal}
use Rattle.checks.specs.Outcomes.{number_of, value_or}
use Rattle.checks.specs.Refusals.{Check, refusal, check, answered}
use Rattle.distinct.specs.EqualRows.{distinct_checks}
use Rattle.completion.specs.Completed.{completed}

unfoldable pub room_for : ℕ → ℕ → ℕ
room_for n size = min 4096 (size / n)

abbrev pub completed_of : ℕ → List ℕ → Table
completed_of n table = completed n (rows n table)

-- ---- the checks

-- 8: more rows than room
abbrev pub NoRoom : ℕ → List ℕ → ℕ → Type 0
NoRoom n table size = room_for n size < length (completed_of n table)

pub tests_no_room : (n : ℕ) (table : List ℕ) (size : ℕ) → Tests (ltb (room_for n size) (length (completed_of n table))) (NoRoom n table size)
tests_no_room n table size = tests_lt (room_for n size) (length (completed_of n table))

abbrev pub room_check : ℕ → List ℕ → ℕ → Check
room_check n table size = check 8 (lit< tt) (tests_no_room n table size)

abbrev pub complete_checks : ℕ → List ℕ → ℕ → List Check
complete_checks n table size = distinct_checks n table ++ (room_check n table size ∷ [])

-- ---- the answer and the buffer

abbrev pub complete_rows : Result ℕ Refusal → ℕ
complete_rows answer = value_or 0 answer

abbrev pub completed_buffer : ℕ → List ℕ → List ℕ → List ℕ
completed_buffer n table buffer = flat (completed_of n table) ++ drop (length (completed_of n table) * n) buffer

pub record CompletePromise (n : ℕ) (table buffer : List ℕ) (answer : Result ℕ Refusal) (after : List ℕ) : Type 0 where
  pub number : number_of answer ≡ refusal (complete_checks n table (length buffer))
  pub count : complete_rows answer ≡ answered (complete_checks n table (length buffer)) (length (completed_of n table)) 0
  pub writes : after ≡ answered (complete_checks n table (length buffer)) (completed_buffer n table buffer) buffer
