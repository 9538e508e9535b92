-- What `write_bundle` promises, and what its inner function asks.
--
--   NotOneToSixteen counts         9: the number of tables is not 1 to 16
--   WrongLength n counts tables    2: the length of the tables is not n times the sum of the counts
--   CountAbove4096 counts          3: a count above 4,096
--   GivenEqualRows n counts tables   12: two equal rows in a table given
--   NoRoom size room               8: a bundle of that size is longer than the room, or than 65,535 bytes
--   shape_checks n counts tables   the checks 1, 9, 2, 3, in order: of n, the counts and the tables' length
--   content_checks n counts tables room  the checks 4, 12 and 8: of the entries, the rows and the bundle's length
--   write_checks n counts tables room  the checks in order: 1, 9, 2, 3, 4, 12, 8. The room is the length of the lent buffer
--   write_length answer            of an answer: the bundle's length, and beside a refusal 0
--   written_buffer n counts tables buffer  the buffer with the bundle at its front; the bytes behind it stay
--   WritePromise n counts tables buffer answer after   the promise: the number is that of the first check that refuses, the length that of the
--                                  bundle, and the buffer has the bundle, or on refusal is as it was
--   EntriesFit n counts buffer     the header fits the buffer, and each place that stands in it is a 16-bit number
use Rattle.std.specs.Prelude.{◌≡◌, not, ◌&&◌, ◌||◌, ◌⊎◌, ℕ, ◌+◌, ◌*◌, ◌≤◌, ◌<◌, leb, ltb, eqb, length, drop, Result}
use mathlib.Core.List.{List, [], ◌∷◌, ◌++◌, Memᴰ}
use Rattle.std.proofs.Common.{lit<}
use Rattle.checks.specs.Tests.{Tests, any}
use Rattle.checks.specs.declared.Refusal.{Refusal}
use Rattle.checks.specs.Outcomes.{number_of, value_or}
use Rattle.checks.specs.Refusals.{Check, refusal, check, answered}
use Rattle.checks.proofs.TestLaws.{tests_le, tests_lt, tests_eq, tests_and, tests_or, tests_not, tests_any}
use Rattle.terms.specs.TableChecks.{tests_not_one_to_six, tests_entry_above50}
use Rattle.terms.specs.Monomials.{Table, EqualRows}
use Rattle.distinct.specs.EqualRows.{equal_rows_test, tests_equal_rows}
use Rattle.packing.specs.GivenTables.{total_rows, given_tables, given_bundle}

-- ---- the conditions

abbrev pub NotOneToSixteen : List ℕ → Type 0
NotOneToSixteen counts = (0 < length counts) × (length counts ≤ 16) → ⊥

pub tests_not_one_to_sixteen : (counts : List ℕ) → Tests (not (ltb 0 (length counts) && leb (length counts) 16)) (NotOneToSixteen counts)
tests_not_one_to_sixteen counts = tests_not (tests_and (tests_lt 0 (length counts)) (λ p. tests_le (length counts) 16))

abbrev pub WrongLength : ℕ → List ℕ → List ℕ → Type 0
WrongLength n counts tables = length tables ≡ total_rows counts * n → ⊥

pub tests_wrong_length : (n : ℕ) (counts tables : List ℕ) → Tests (not (eqb (length tables) (total_rows counts * n))) (WrongLength n counts tables)
tests_wrong_length n counts tables = tests_not (tests_eq (length tables) (total_rows counts * n))

abbrev pub CountAbove4096 : List ℕ → Type 0
CountAbove4096 counts = (c : ℕ) × Memᴰ c counts × (4096 < c)

pub tests_count_above4096 : (counts : List ℕ) → Tests (any (λ c. ltb 4096 c) counts) (CountAbove4096 counts)
tests_count_above4096 counts = tests_any counts (λ (c : ℕ) m. tests_lt 4096 c)

abbrev pub GivenEqualRows : ℕ → List ℕ → List ℕ → Type 0
GivenEqualRows n counts tables = (G : Table) × Memᴰ G (given_tables n counts tables) × EqualRows G

pub tests_given_equal_rows : (n : ℕ) (counts tables : List ℕ) → Tests (any equal_rows_test (given_tables n counts tables)) (GivenEqualRows n counts tables)
tests_given_equal_rows n counts tables = tests_any (given_tables n counts tables) (λ (G : Table) m. tests_equal_rows G)

abbrev pub NoRoom : ℕ → ℕ → Type 0
NoRoom size room = (room < size) ⊎ (65535 < size)

pub tests_no_room : (size room : ℕ) → Tests (ltb room size || ltb 65535 size) (NoRoom size room)
tests_no_room size room = tests_or (tests_lt room size) (tests_lt 65535 size)

-- ---- the order

abbrev pub shape_checks : ℕ → List ℕ → List ℕ → List Check
shape_checks n counts tables =
    check 1 (lit< tt) (tests_not_one_to_six n)
    ∷ check 9 (lit< tt) (tests_not_one_to_sixteen counts)
    ∷ check 2 (lit< tt) (tests_wrong_length n counts tables)
    ∷ check 3 (lit< tt) (tests_count_above4096 counts)
    ∷ []

abbrev pub content_checks : ℕ → List ℕ → List ℕ → ℕ → List Check
content_checks n counts tables room =
    check 4 (lit< tt) (tests_entry_above50 tables)
    ∷ check 12 (lit< tt) (tests_given_equal_rows n counts tables)
    ∷ check 8 (lit< tt) (tests_no_room (length (given_bundle n counts tables)) room)
    ∷ []

abbrev pub write_checks : ℕ → List ℕ → List ℕ → ℕ → List Check
write_checks n counts tables room = shape_checks n counts tables ++ content_checks n counts tables room

-- ---- the answer and the buffer

abbrev pub write_length : Result ℕ Refusal → ℕ
write_length answer = value_or 0 answer

abbrev pub written_buffer : ℕ → List ℕ → List ℕ → List ℕ → List ℕ
written_buffer n counts tables buffer = given_bundle n counts tables ++ drop (length (given_bundle n counts tables)) buffer

pub record WritePromise (n : ℕ) (counts tables buffer : List ℕ) (answer : Result ℕ Refusal) (after : List ℕ) : Type 0 where
  pub number : number_of answer ≡ refusal (write_checks n counts tables (length buffer))
  pub size : write_length answer ≡ answered (write_checks n counts tables (length buffer)) (length (given_bundle n counts tables)) 0
  pub writes : after ≡ answered (write_checks n counts tables (length buffer)) (written_buffer n counts tables buffer) buffer

-- ---- what the writer of the header asks

pub record EntriesFit (n : ℕ) (counts buffer : List ℕ) : Type 0 where
  pub six : n ≤ 6
  pub room : 2 + 4 * length counts ≤ length buffer
  pub short : 2 + 4 * length counts + total_rows counts * n ≤ 65535
