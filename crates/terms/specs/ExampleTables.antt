-- The tables of the paper's starred examples, by the letters of the paper. Each example is shown in the crate of its rule.
--
--   A                no rows, n = 2; it needs no name
--   table_b          "Row 0 0"
--   table_c          "Row 3, n=1"
--   table_d, completed_d   the rows of the listing, 2 1 and 0 2, and their completed table; as bytes, bytes_d; as a bundle, bundle_d;
--                    the listing of that bundle, byte for byte, listing_d
--   table_e          "Rows 1 0 and 1 0", refused by 12; as bytes, bytes_e; as a bundle, bundle_e
--   table_f, completed_f   the rows of document 002, example 5.2, which F and G speak of, and the 11 rows that H completes them to
--   table_i, completed_i   the rows of document 004, example 5.10, columns reversed
--   J                D's rows with 6 and with 5 bytes of room
use Rattle.std.specs.Prelude.{List, [], ◌∷◌, ◌++◌, ℕ}
use Rattle.terms.specs.Monomials.{Table}

abbrev pub table_b : Table
table_b = (0 ∷ 0 ∷ []) ∷ []

abbrev pub table_c : Table
table_c = (3 ∷ []) ∷ []

abbrev pub table_d : Table
table_d = (2 ∷ 1 ∷ []) ∷ (0 ∷ 2 ∷ []) ∷ []

abbrev pub bytes_d : List ℕ
bytes_d = 2 ∷ 1 ∷ 0 ∷ 2 ∷ []

abbrev pub bundle_d : List ℕ
bundle_d = 2 ∷ 1 ∷ 2 ∷ 0 ∷ 6 ∷ 0 ∷ bytes_d

-- the lines T 0 2 3, 0 2 : 2, 1 2 : 2, 2 1 : 3, S 3
abbrev pub listing_d : List ℕ
listing_d =
    (84 ∷ 32 ∷ 48 ∷ 32 ∷ 50 ∷ 32 ∷ 51 ∷ 10 ∷ [])
    ++ (48 ∷ 32 ∷ 50 ∷ 32 ∷ 58 ∷ 32 ∷ 50 ∷ 10 ∷ [])
    ++ (49 ∷ 32 ∷ 50 ∷ 32 ∷ 58 ∷ 32 ∷ 50 ∷ 10 ∷ [])
    ++ (50 ∷ 32 ∷ 49 ∷ 32 ∷ 58 ∷ 32 ∷ 51 ∷ 10 ∷ [])
    ++ (83 ∷ 32 ∷ 51 ∷ 10 ∷ [])

abbrev pub completed_d : Table
completed_d = (0 ∷ 2 ∷ []) ∷ (1 ∷ 2 ∷ []) ∷ (2 ∷ 1 ∷ []) ∷ []

abbrev pub table_e : Table
table_e = (1 ∷ 0 ∷ []) ∷ (1 ∷ 0 ∷ []) ∷ []

abbrev pub bytes_e : List ℕ
bytes_e = 1 ∷ 0 ∷ 1 ∷ 0 ∷ []

abbrev pub bundle_e : List ℕ
bundle_e = 2 ∷ 1 ∷ 2 ∷ 0 ∷ 6 ∷ 0 ∷ bytes_e

abbrev pub table_f : Table
table_f = (0 ∷ 0 ∷ 2 ∷ []) ∷ (0 ∷ 1 ∷ 1 ∷ []) ∷ (0 ∷ 2 ∷ 0 ∷ []) ∷ (1 ∷ 0 ∷ 1 ∷ []) ∷ (3 ∷ 1 ∷ 0 ∷ []) ∷ []

abbrev pub completed_f : Table
completed_f =
    (0 ∷ 0 ∷ 2 ∷ []) ∷ (0 ∷ 1 ∷ 1 ∷ []) ∷ (0 ∷ 2 ∷ 0 ∷ []) ∷ (1 ∷ 0 ∷ 1 ∷ []) ∷ (1 ∷ 1 ∷ 1 ∷ []) ∷ (1 ∷ 2 ∷ 0 ∷ [])
    ∷ (2 ∷ 0 ∷ 1 ∷ []) ∷ (2 ∷ 1 ∷ 1 ∷ []) ∷ (2 ∷ 2 ∷ 0 ∷ []) ∷ (3 ∷ 0 ∷ 1 ∷ []) ∷ (3 ∷ 1 ∷ 0 ∷ []) ∷ []

abbrev pub table_i : Table
table_i = (0 ∷ 1 ∷ 1 ∷ []) ∷ (1 ∷ 1 ∷ 0 ∷ []) ∷ (0 ∷ 2 ∷ 0 ∷ []) ∷ (3 ∷ 0 ∷ 0 ∷ []) ∷ []

abbrev pub completed_i : Table
completed_i = (0 ∷ 1 ∷ 1 ∷ []) ∷ (0 ∷ 2 ∷ 0 ∷ []) ∷ (1 ∷ 1 ∷ 0 ∷ []) ∷ (2 ∷ 1 ∷ 0 ∷ []) ∷ (3 ∷ 0 ∷ 0 ∷ []) ∷ []
