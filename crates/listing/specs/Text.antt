-- The text that the program writes, as bytes.
--
--   table_line, row_line, steady_line   the lines of a table: `T` and its numbers, a completed row with its marks, `S` and the steady degree
--   no_room_line j   the only line of a table whose completion into 4,096 rows is refused
--   refusal_line m   the only line of a refused bundle
--   spaced u         the exponents of u, each with one space behind it
--   row_lines H marks k  the lines of the first k rows of H, the marks of row r standing at r
--   whole_text       the lines of a table, from its completed table, its marks and a steady degree
--   completed_text n j given H  the lines of table j with so many given rows, whose completed table is H
--   table_text n j G   the text of table j, whose given rows are G
--   tables_text b j m  the texts of the tables j to j + m − 1 of the bundle b
--   bundle_text b    the whole output for the bundle b
--   part_text b j    its part j: what is written of table j, and of a refused bundle the whole in part 0
--   parts_text b j m   the parts j to j + m − 1
--   text_size        the most bytes of a table's text: 4,096 rows of at most 23 bytes, a first line of at most 15 and a last one of at most 6
use Rattle.std.specs.Prelude.{List, [], ◌∷◌, ◌++◌, map, ℕ, zero, suc, ◌+◌, ◌*◌, ltb, eqb, length, get_or}
use Rattle.checks.specs.Tests.{pick}
use Rattle.terms.specs.Monomials.{Monomial, Table, row_at}
use Rattle.checks.specs.Refusals.{refusal}
use Rattle.division.specs.Janet.{table_marks}
use Rattle.completion.specs.Completed.{completed}
use Rattle.counts.specs.Counts.{steady_of}
use Rattle.bundle.specs.Format.{variables_of, table_count, table_of}
use Rattle.bundle.specs.Checks.{bundle_checks}
use Rattle.text.specs.Decimal.{decimal, line, space}

-- ---- letters

abbrev pub letter_t : List ℕ
letter_t = 84 ∷ []

abbrev pub letter_s : List ℕ
letter_s = 83 ∷ []

abbrev pub letter_r : List ℕ
letter_r = 82 ∷ []

abbrev pub colon : List ℕ
colon = 58 ∷ []

-- ---- the lines

unfoldable pub table_line : ℕ → ℕ → ℕ → List ℕ
table_line j given made = line (letter_t ∷ (decimal j ∷ (decimal given ∷ (decimal made ∷ []))))

unfoldable pub row_line : Monomial → ℕ → List ℕ
row_line u marks = line (map decimal u ++ (colon ∷ (decimal marks ∷ [])))

unfoldable pub steady_line : ℕ → List ℕ
steady_line s = line (letter_s ∷ (decimal s ∷ []))

unfoldable pub no_room_line : ℕ → List ℕ
no_room_line j = line (letter_t ∷ (decimal j ∷ (letter_r ∷ (decimal 8 ∷ []))))

unfoldable pub refusal_line : ℕ → List ℕ
refusal_line m = line (letter_r ∷ (decimal m ∷ []))

-- each exponent with one space behind it
unfoldable pub spaced : Monomial → List ℕ
spaced [] = []
spaced (e ∷ u) = decimal e ++ (space ∷ spaced u)

-- ---- a table

unfoldable pub row_lines : Table → List ℕ → ℕ → List ℕ
row_lines H marks zero = []
row_lines H marks (suc k) = row_lines H marks k ++ row_line (row_at H k) (get_or marks k 0)

unfoldable pub whole_text : ℕ → ℕ → Table → List ℕ → ℕ → List ℕ
whole_text j given H marks steady = table_line j given (length H) ++ (row_lines H marks (length H) ++ steady_line steady)

-- the marks and the steady degree are those of the completed table
unfoldable pub completed_text : ℕ → ℕ → ℕ → Table → List ℕ
completed_text n j given H = whole_text j given H (table_marks n H) (steady_of H)

unfoldable pub table_text : ℕ → ℕ → Table → List ℕ
table_text n j G =
    let H : Table = completed n G in
    pick (ltb 4096 (length H)) (no_room_line j) (completed_text n j (length G) H)

abbrev pub text_size : ℕ
text_size = 4096 * 23 + 15 + 6

-- ---- a bundle

unfoldable pub tables_text : List ℕ → ℕ → ℕ → List ℕ
tables_text b j zero = []
tables_text b j (suc m) = table_text (variables_of b) j (table_of b j) ++ tables_text b (suc j) m

unfoldable pub bundle_text : List ℕ → List ℕ
bundle_text b =
    let m : ℕ = refusal (bundle_checks b) in
    pick (eqb m 0) (tables_text b 0 (table_count b)) (refusal_line m)

unfoldable pub part_text : List ℕ → ℕ → List ℕ
part_text b j =
    let m : ℕ = refusal (bundle_checks b) in
    pick (eqb m 0)
    (pick (ltb j (table_count b)) (table_text (variables_of b) j (table_of b j)) [])
    (pick (eqb j 0) (refusal_line m) [])

-- the parts j to j + m − 1, one behind the other
unfoldable pub parts_text : List ℕ → ℕ → ℕ → List ℕ
parts_text b j zero = []
parts_text b j (suc m) = part_text b j ++ parts_text b (suc j) m
