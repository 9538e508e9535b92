-- The operation marks (rule 2).
--
--   BufferShort n table size   8: the buffer, of that size, is shorter than the rows
--   marks_checks n table size  the checks in order: 1 to 4 and 12 of the table, 8
--   Markable n G size     what is known once they pass
--   marked n G buffer     the buffer with the marks of G's rows at its front; the bytes behind stay
--   MarksPromise n table buffer answer after   the promise: the number is that of the first check that refuses, and the buffer is marked,
--                    or on refusal as it was
use Rattle.std.specs.Prelude.{◌≡◌, List, [], ◌∷◌, ◌++◌, ℕ, ◌≤◌, ◌<◌, ltb, length, drop, Result, ⊤}
use Rattle.std.proofs.Common.{lit<}
use Rattle.checks.specs.Tests.{Tests}
use Rattle.checks.proofs.TestLaws.{tests_lt}
use Rattle.terms.specs.Monomials.{Table}
use Rattle.terms.specs.Rows.{rows}
use Rattle.checks.specs.declared.Refusal.{Refusal}
use Rattle.checks.specs.Outcomes.{number_of}
use Rattle.checks.specs.Refusals.{Check, refusal, check, answered}
use Rattle.distinct.specs.EqualRows.{distinct_checks}
use Rattle.division.specs.Janet.{table_marks}

-- ---- the checks

abbrev pub BufferShort : ℕ → List ℕ → ℕ → Type 0
BufferShort n table size = size < length (rows n table)

pub tests_buffer_short : (n : ℕ) (table : List ℕ) (size : ℕ) → Tests (ltb size (length (rows n table))) (BufferShort n table size)
tests_buffer_short n table size = tests_lt size (length (rows n table))

abbrev pub buffer_check : ℕ → List ℕ → ℕ → Check
buffer_check n table size = check 8 (lit< tt) (tests_buffer_short n table size)

abbrev pub marks_checks : ℕ → List ℕ → ℕ → List Check
marks_checks n table size = distinct_checks n table ++ (buffer_check n table size ∷ [])

-- what is known once they pass, of a table G and a buffer of that size
pub record Markable (n : ℕ) (G : Table) (size : ℕ) : Type 0 where
  pub some : 0 < n
  pub six : n ≤ 6
  pub limited : length G ≤ 4096
  pub room : length G ≤ size

-- ---- the answer and the buffer

abbrev pub marked : ℕ → Table → List ℕ → List ℕ
marked n G buffer = table_marks n G ++ drop (length G) buffer

pub record MarksPromise (n : ℕ) (table buffer : List ℕ) (answer : Result ⊤ Refusal) (after : List ℕ) : Type 0 where
  pub number : number_of answer ≡ refusal (marks_checks n table (length buffer))
  pub writes : after ≡ answered (marks_checks n table (length buffer)) (marked n (rows n table) buffer) buffer
