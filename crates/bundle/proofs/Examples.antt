-- Bundles by example: the paper's ten bytes, and for each refusal a bundle that meets it, also where a later check would refuse too. Each line
-- computes the number by which a bundle is refused, `answer`, or what is read of one that is accepted.
use mathlib.Core.Path.{◌≡◌, refl}
use mathlib.Core.List.{List, [], ◌∷◌}
use Prim.Native.Nat.{ℕ}
use Rattle.terms.specs.Rows.{rows, first_rows, flat}
use Rattle.checks.specs.Refusals.{refusal}
use Rattle.terms.specs.ExampleTables.{table_d, bundle_d, bundle_e}
use Rattle.distinct.specs.EqualRows.{same_test, equal_rows_test}
use Rattle.bundle.specs.Format.{row_count, offset_of, place_of, tables_from, tables_of, counts_of, entries_of, bodies_of, bundle_of}
use Rattle.bundle.specs.Checks.{tables_checks, open_checks}

-- the number with which table j of b is refused, 0 where it is opened
unfoldable answer : List ℕ → ℕ → ℕ
unfolding refusal tables_checks place_of row_count offset_of rows first_rows equal_rows_test same_test
answer b j = refusal (open_checks b j)

-- ---- the paper's bundle: rows 2 1 and 0 2

listing_opens : answer bundle_d 0 ≡ 0
unfolding answer
listing_opens = refl

listing_tables : tables_of bundle_d ≡ table_d ∷ []
unfolding tables_from rows first_rows place_of row_count
listing_tables = refl

listing_again : bundle_of 2 (table_d ∷ []) ≡ bundle_d
unfolding bundle_of counts_of entries_of bodies_of flat
listing_again = refl

-- it has no table 1
listing_ends : answer bundle_d 1 ≡ 5
unfolding answer
listing_ends = refl

-- an empty table
empty_table : answer (1 ∷ 1 ∷ 0 ∷ 0 ∷ 6 ∷ 0 ∷ []) 0 ≡ 0
unfolding answer
empty_table = refl

-- ---- 9, then 1

nothing : answer [] 0 ≡ 9
unfolding answer
nothing = refl

no_tables : answer (2 ∷ 0 ∷ []) 0 ≡ 9
unfolding answer
no_tables = refl

seventeen : answer (2 ∷ 17 ∷ []) 0 ≡ 9
unfolding answer
seventeen = refl

-- the header is cut short, and n is 0 too
short_header : answer (0 ∷ 1 ∷ 0 ∷ 0 ∷ 6 ∷ []) 0 ≡ 9
unfolding answer
short_header = refl

-- seven variables, and 4,097 rows too
seven_variables : answer (7 ∷ 1 ∷ 1 ∷ 16 ∷ 6 ∷ 0 ∷ []) 0 ≡ 1
unfolding answer
seven_variables = refl

-- ---- 3, 10, 11 table by table

-- 4,097 rows, and a wrong offset too
many_rows : answer (1 ∷ 1 ∷ 1 ∷ 16 ∷ 7 ∷ 0 ∷ []) 0 ≡ 3
unfolding answer
many_rows = refl

-- an offset one too far, and the body passes the end too
wrong_offset : answer (1 ∷ 1 ∷ 2 ∷ 0 ∷ 7 ∷ 0 ∷ 5 ∷ []) 0 ≡ 10
unfolding answer
wrong_offset = refl

-- an offset one too far, and a byte remains too
offset_first : answer (1 ∷ 1 ∷ 0 ∷ 0 ∷ 7 ∷ 0 ∷ 5 ∷ []) 0 ≡ 10
unfolding answer
offset_first = refl

passes_end : answer (1 ∷ 1 ∷ 2 ∷ 0 ∷ 6 ∷ 0 ∷ 5 ∷ []) 0 ≡ 11
unfolding answer
passes_end = refl

-- table 0 passes the end, before table 1 has too many rows
first_table_first : answer (1 ∷ 2 ∷ 9 ∷ 0 ∷ 10 ∷ 0 ∷ 1 ∷ 16 ∷ 19 ∷ 0 ∷ []) 0 ≡ 11
unfolding answer
first_table_first = refl

-- a fault in table 1 refuses table 0 as well
other_table : answer (1 ∷ 2 ∷ 0 ∷ 0 ∷ 10 ∷ 0 ∷ 0 ∷ 0 ∷ 11 ∷ 0 ∷ []) 0 ≡ 10
unfolding answer
other_table = refl

-- one byte remains, and an entry is above 50 too
byte_remains : answer (1 ∷ 1 ∷ 1 ∷ 0 ∷ 6 ∷ 0 ∷ 51 ∷ 5 ∷ []) 0 ≡ 11
unfolding answer
byte_remains = refl

-- ---- 4 over all bodies, then 12 over all bodies, then 5

fifty : answer (1 ∷ 1 ∷ 1 ∷ 0 ∷ 6 ∷ 0 ∷ 50 ∷ []) 0 ≡ 0
unfolding answer
fifty = refl

-- the last byte is 51, and there is no table 3
fifty_one : answer (1 ∷ 1 ∷ 2 ∷ 0 ∷ 6 ∷ 0 ∷ 50 ∷ 51 ∷ []) 3 ≡ 4
unfolding answer
fifty_one = refl

-- rows 1 and 1, and there is no table 3
equal_rows : answer (1 ∷ 1 ∷ 2 ∷ 0 ∷ 6 ∷ 0 ∷ 1 ∷ 1 ∷ []) 3 ≡ 12
unfolding answer
equal_rows = refl

-- equal rows in table 0, and an entry above 50 in table 1
entry_elsewhere : answer (1 ∷ 2 ∷ 2 ∷ 0 ∷ 10 ∷ 0 ∷ 1 ∷ 0 ∷ 12 ∷ 0 ∷ 1 ∷ 1 ∷ 51 ∷ []) 0 ≡ 4
unfolding answer
entry_elsewhere = refl

-- equal rows in table 1 refuse table 0 as well
equal_elsewhere : answer (1 ∷ 2 ∷ 1 ∷ 0 ∷ 10 ∷ 0 ∷ 2 ∷ 0 ∷ 11 ∷ 0 ∷ 7 ∷ 7 ∷ 7 ∷ []) 0 ≡ 12
unfolding answer
equal_elsewhere = refl

-- the same row in two tables
same_row_twice : answer (1 ∷ 2 ∷ 1 ∷ 0 ∷ 10 ∷ 0 ∷ 1 ∷ 0 ∷ 11 ∷ 0 ∷ 7 ∷ 7 ∷ []) 1 ≡ 0
unfolding answer
same_row_twice = refl

-- E's rows: 12 whichever table is asked for
pub example_e : (j : ℕ) → refusal (open_checks bundle_e j) ≡ 12
unfolding answer
example_e j = refl
