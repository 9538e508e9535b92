-- When a bundle is refused: the paper's conditions, in the paper's order.
--
--   NoFrame b           9: below 2 or above 65,535 bytes, number of tables not 1 to 16, or shorter than its header
--   TooManyRowsIn b j   3: table j has more than 4,096 rows
--   WrongOffset b j     10: the offset is not the place where table j must begin
--   PassesEnd b j       11: body j passes the end
--   BytesRemain b       11: bytes remain after the last body
--   LargeEntry b        4: an entry above 50 in some body
--   EqualRowsIn b       12: two equal rows in some table
--   NoSuchTable b j     5: table number not in the bundle
--   table_checks_of b j   the checks of one table: 3, 10, 11
--   tables_checks b j m   those of the tables j to j + m − 1, table by table
--   frame_checks b      9 and 1
--   remain_checks b     11: bytes remaining
--   layout_checks b     9, 1, the checks of each table, and bytes remaining
--   body_checks b       4 over all bodies, then 12 over all bodies
--   bundle_checks b     all that do not depend on the table asked for: the layout, then the bodies
--   number_checks b j   5
--   open_checks b j     the checks of `open table j`: those of the bundle, then 5
--
-- Each condition stands with its test, `tests-..`.
use Rattle.std.specs.Prelude.{◌≡◌, Bool, not, ◌&&◌, ◌||◌, List, [], ◌∷◌, ◌++◌, ◌⊎◌, ℕ, zero, suc, ◌+◌, ◌≤◌, ◌<◌, leb, ltb, eqb, length}
use Rattle.std.proofs.Common.{lit<}
use Rattle.checks.specs.Tests.{Tests, any, SomeBelow, some_below}
use Rattle.checks.proofs.TestLaws.{tests_le, tests_lt, tests_eq, tests_and, tests_or, tests_not, tests_some_below}
use Rattle.checks.specs.Refusals.{Check, check}
use Rattle.terms.specs.Monomials.{EqualRows}
use Rattle.terms.specs.TableChecks.{EntryAbove50, tests_entry_above50, tests_not_one_to_six}
use Rattle.distinct.specs.EqualRows.{equal_rows_test, tests_equal_rows}
use Rattle.bundle.specs.Format.{variables_of, table_count, header_length, row_count, offset_of, body_length, place_of, body_of, table_of}

-- ---- the conditions

abbrev pub NoFrame : List ℕ → Type 0
NoFrame b = (length b < 2) ⊎ ((65535 < length b) ⊎ (((0 < table_count b) × (table_count b ≤ 16) → ⊥) ⊎ (length b < header_length b)))

abbrev pub TooManyRowsIn : List ℕ → ℕ → Type 0
TooManyRowsIn b j = 4096 < row_count b j

abbrev pub WrongOffset : List ℕ → ℕ → Type 0
WrongOffset b j = offset_of b j ≡ place_of b j → ⊥

abbrev pub PassesEnd : List ℕ → ℕ → Type 0
PassesEnd b j = length b < place_of b j + body_length b j

abbrev pub BytesRemain : List ℕ → Type 0
BytesRemain b = place_of b (table_count b) < length b

abbrev pub LargeEntry : List ℕ → Type 0
LargeEntry b = SomeBelow (table_count b) (λ j. EntryAbove50 (body_of b j))

abbrev pub EqualRowsIn : List ℕ → Type 0
EqualRowsIn b = SomeBelow (table_count b) (λ j. EqualRows (table_of b j))

abbrev pub NoSuchTable : List ℕ → ℕ → Type 0
NoSuchTable b j = table_count b ≤ j

-- ---- their tests

abbrev pub no_frame_test : List ℕ → Bool
no_frame_test b = ltb (length b) 2 || (ltb 65535 (length b) || (not (ltb 0 (table_count b) && leb (table_count b) 16) || ltb (length b) (header_length b)))

pub tests_no_frame : (b : List ℕ) → Tests (no_frame_test b) (NoFrame b)
tests_no_frame b = tests_or (tests_lt (length b) 2)
    (tests_or (tests_lt 65535 (length b))
    (tests_or (tests_not (tests_and (tests_lt 0 (table_count b)) (λ p. tests_le (table_count b) 16)))
    (tests_lt (length b) (header_length b))))

pub tests_too_many_rows_in : (b : List ℕ) (j : ℕ) → Tests (ltb 4096 (row_count b j)) (TooManyRowsIn b j)
tests_too_many_rows_in b j = tests_lt 4096 (row_count b j)

pub tests_wrong_offset : (b : List ℕ) (j : ℕ) → Tests (not (eqb (offset_of b j) (place_of b j))) (WrongOffset b j)
tests_wrong_offset b j = tests_not (tests_eq (offset_of b j) (place_of b j))

pub tests_passes_end : (b : List ℕ) (j : ℕ) → Tests (ltb (length b) (place_of b j + body_length b j)) (PassesEnd b j)
tests_passes_end b j = tests_lt (length b) (place_of b j + body_length b j)

pub tests_bytes_remain : (b : List ℕ) → Tests (ltb (place_of b (table_count b)) (length b)) (BytesRemain b)
tests_bytes_remain b = tests_lt (place_of b (table_count b)) (length b)

pub tests_no_such_table : (b : List ℕ) (j : ℕ) → Tests (leb (table_count b) j) (NoSuchTable b j)
tests_no_such_table b j = tests_le (table_count b) j

abbrev pub large_entry_test : List ℕ → Bool
large_entry_test b = some_below (table_count b) (λ j. any (λ e. ltb 50 e) (body_of b j))

pub tests_large_entry : (b : List ℕ) → Tests (large_entry_test b) (LargeEntry b)
tests_large_entry b = tests_some_below (table_count b) (λ j. tests_entry_above50 (body_of b j))

abbrev pub equal_rows_in_test : List ℕ → Bool
equal_rows_in_test b = some_below (table_count b) (λ j. equal_rows_test (table_of b j))

pub tests_equal_rows_in : (b : List ℕ) → Tests (equal_rows_in_test b) (EqualRowsIn b)
tests_equal_rows_in b = tests_some_below (table_count b) (λ j. tests_equal_rows (table_of b j))

-- ---- the order

abbrev pub frame_checks : List ℕ → List Check
frame_checks b = check 9 (lit< tt) (tests_no_frame b) ∷ check 1 (lit< tt) (tests_not_one_to_six (variables_of b)) ∷ []

abbrev pub table_checks_of : List ℕ → ℕ → List Check
table_checks_of b j =
    check 3 (lit< tt) (tests_too_many_rows_in b j)
    ∷ check 10 (lit< tt) (tests_wrong_offset b j)
    ∷ check 11 (lit< tt) (tests_passes_end b j)
    ∷ []

unfoldable pub tables_checks : List ℕ → ℕ → ℕ → List Check
tables_checks b j zero = []
tables_checks b j (suc m) = table_checks_of b j ++ tables_checks b (suc j) m

abbrev pub remain_checks : List ℕ → List Check
remain_checks b = check 11 (lit< tt) (tests_bytes_remain b) ∷ []

abbrev pub body_checks : List ℕ → List Check
body_checks b = check 4 (lit< tt) (tests_large_entry b) ∷ check 12 (lit< tt) (tests_equal_rows_in b) ∷ []

abbrev pub layout_checks : List ℕ → List Check
layout_checks b = frame_checks b ++ (tables_checks b 0 (table_count b) ++ remain_checks b)

abbrev pub bundle_checks : List ℕ → List Check
bundle_checks b = layout_checks b ++ body_checks b

abbrev pub number_checks : List ℕ → ℕ → List Check
number_checks b j = check 5 (lit< tt) (tests_no_such_table b j) ∷ []

abbrev pub open_checks : List ℕ → ℕ → List Check
open_checks b j = bundle_checks b ++ number_checks b j
