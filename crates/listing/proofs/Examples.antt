-- The paper's listing, byte for byte, and the smallest outputs.
--
--   listing                the five lines for the paper's ten bytes
--   listing_two            a bundle of two tables
--   listing_empty_input    no bytes: `R 9`
--   listing_empty_table    a table without rows: `T 0 0 0` and `S 0`
--   listing_equal_rows     a table with the rows 1 0 and 1 0: `R 12`
use mathlib.Core.Path.{◌≡◌, refl}
use mathlib.Core.List.{List, [], ◌∷◌, ◌++◌}
use Prim.Native.Nat.{ℕ}
use Rattle.terms.specs.Monomials.{degree}
use Rattle.terms.specs.Ideal.{divides_test, inside_test}
use Rattle.terms.specs.Rows.{rows, first_rows}
use Rattle.checks.specs.Refusals.{refusal}
use Rattle.terms.specs.ExampleTables.{listing_d, bundle_d, bundle_e}
use Rattle.distinct.specs.EqualRows.{same_test, equal_rows_test}
use Rattle.division.specs.Janet.{table_marks, marks_of, marks_byte, multiplicative_test, group, same_before_test}
use Rattle.completion.specs.Blocks.{box, behind, repeated}
use Rattle.completion.specs.Completed.{completed, completed_test, enters_test, candidate, largest, joined}
use Rattle.counts.specs.Counts.{steady_of}
use Rattle.bundle.specs.Format.{row_count, offset_of, place_of}
use Rattle.bundle.specs.Checks.{tables_checks}
use Rattle.text.specs.Decimal.{digits_of, decimal, fields}
use Rattle.listing.specs.Text.{table_line, row_line, steady_line, no_room_line, refusal_line, row_lines, whole_text, completed_text, table_text, tables_text}
use Rattle.listing.specs.Text.{bundle_text}

-- the output, with every definition that it rests on open to computation
unfoldable output : List ℕ → List ℕ
unfolding bundle_text tables_text table_text completed_text whole_text row_lines table_line row_line steady_line no_room_line refusal_line
    fields decimal digits_of refusal tables_checks row_count offset_of place_of rows first_rows equal_rows_test same_test
    completed completed_test enters_test candidate largest joined box behind repeated inside_test divides_test
    table_marks marks_of marks_byte multiplicative_test group same_before_test steady_of degree
output b = bundle_text b

pub listing : bundle_text bundle_d ≡ listing_d
unfolding output
listing = refl

-- a second table, with the rows 3 0 and 0 3: T 1 2 4, 0 3 : 2, 1 3 : 2, 2 3 : 2, 3 0 : 3, S 5
pub listing_two : bundle_text (2 ∷ 2 ∷ 2 ∷ 0 ∷ 10 ∷ 0 ∷ 2 ∷ 0 ∷ 14 ∷ 0 ∷ 2 ∷ 1 ∷ 0 ∷ 2 ∷ 3 ∷ 0 ∷ 0 ∷ 3 ∷ []) ≡ listing_d
    ++ (84 ∷ 32 ∷ 49 ∷ 32 ∷ 50 ∷ 32 ∷ 52 ∷ 10 ∷ [])
    ++ (48 ∷ 32 ∷ 51 ∷ 32 ∷ 58 ∷ 32 ∷ 50 ∷ 10 ∷ [])
    ++ (49 ∷ 32 ∷ 51 ∷ 32 ∷ 58 ∷ 32 ∷ 50 ∷ 10 ∷ [])
    ++ (50 ∷ 32 ∷ 51 ∷ 32 ∷ 58 ∷ 32 ∷ 50 ∷ 10 ∷ [])
    ++ (51 ∷ 32 ∷ 48 ∷ 32 ∷ 58 ∷ 32 ∷ 51 ∷ 10 ∷ [])
    ++ (83 ∷ 32 ∷ 53 ∷ 10 ∷ [])
unfolding output
listing_two = refl

-- R 9
pub listing_empty_input : bundle_text [] ≡ (82 ∷ 32 ∷ 57 ∷ 10 ∷ [])
unfolding output
listing_empty_input = refl

-- T 0 0 0, S 0
pub listing_empty_table : bundle_text (1 ∷ 1 ∷ 0 ∷ 0 ∷ 6 ∷ 0 ∷ []) ≡ (84 ∷ 32 ∷ 48 ∷ 32 ∷ 48 ∷ 32 ∷ 48 ∷ 10 ∷ []) ++ (83 ∷ 32 ∷ 48 ∷ 10 ∷ [])
unfolding output
listing_empty_table = refl

pub listing_equal_rows : bundle_text bundle_e ≡ 82 ∷ 32 ∷ 49 ∷ 50 ∷ 10 ∷ []
unfolding output
listing_equal_rows = refl
