-- The format of a bundle. Byte 0 is n, byte 1 the number of tables; then for each table four bytes, its row count and
-- its offset from the bundle's start, 16 bits each, low byte first; then the bodies in order without gaps.
--
--   byte_at b i       byte i; past the end it reads as 0
--   number16 b i      the 16-bit number at i, low byte first
--   variables_of b    n
--   table_count b     the number of tables
--   header_length b   the length of what stands before the first body
--   row_count b j     the row count that the header gives for table j. Tables count from 0
--   offset_of b j     the offset that the header gives for table j
--   body_length b j   the length of table j's body
--   place_of b j      where body j must begin: behind the header and the bodies before it. At the number of tables it
--                     is where the last body ends
--   body_of b j       the bytes of table j
--   table_of b j      the rows of table j
--   tables_from b j m   the tables j to j + m − 1
--   tables_of b       the tables, in order
--   Bytes b           each element is a byte, as in every slice of bytes
--   low m, high m     the two bytes of a 16-bit number
--   counts_of Ts      the row counts of tables
--   entries_of n p counts  the header's entries of tables with these row counts, the first body beginning at p
--   bodies_of Ts      the bodies of tables, end to end
--   bundle_of n Ts    the bundle of these tables
--
-- The readings are total: they say something of every list, a bundle or not.
use Rattle.std.specs.Prelude.{List, [], ◌∷◌, ◌++◌, ℕ, zero, suc, ◌+◌, ◌*◌, ◌/◌, ◌%◌, ◌<◌, length, get_or, take, drop}
use Rattle.terms.specs.Monomials.{Table}
use Rattle.terms.specs.Rows.{rows, flat}

abbrev pub byte_at : List ℕ → ℕ → ℕ
byte_at b i = get_or b i 0

abbrev pub number16 : List ℕ → ℕ → ℕ
number16 b i = byte_at b i + 256 * byte_at b (i + 1)

abbrev pub variables_of : List ℕ → ℕ
variables_of b = byte_at b 0

abbrev pub table_count : List ℕ → ℕ
table_count b = byte_at b 1

abbrev pub header_length : List ℕ → ℕ
header_length b = 2 + 4 * table_count b

unfoldable pub row_count : List ℕ → ℕ → ℕ
row_count b j = number16 b (2 + 4 * j)

unfoldable pub offset_of : List ℕ → ℕ → ℕ
offset_of b j = number16 b (4 + 4 * j)

abbrev pub body_length : List ℕ → ℕ → ℕ
body_length b j = row_count b j * variables_of b

unfoldable pub place_of : List ℕ → ℕ → ℕ
place_of b zero = header_length b
place_of b (suc j) = place_of b j + body_length b j

abbrev pub body_of : List ℕ → ℕ → List ℕ
body_of b j = take (body_length b j) (drop (place_of b j) b)

abbrev pub table_of : List ℕ → ℕ → Table
table_of b j = rows (variables_of b) (body_of b j)

unfoldable pub tables_from : List ℕ → ℕ → ℕ → List Table
tables_from b j zero = []
tables_from b j (suc m) = table_of b j ∷ tables_from b (suc j) m

abbrev pub tables_of : List ℕ → List Table
tables_of b = tables_from b 0 (table_count b)

abbrev pub Bytes : List ℕ → Type 0
Bytes b = (i : ℕ) → byte_at b i < 256

-- ---- from tables to bytes

abbrev pub low : ℕ → ℕ
low m = m % 256

abbrev pub high : ℕ → ℕ
high m = m / 256

unfoldable pub counts_of : List Table → List ℕ
counts_of [] = []
counts_of (G ∷ tables) = length G ∷ counts_of tables

unfoldable pub entries_of : ℕ → ℕ → List ℕ → List ℕ
entries_of n place [] = []
entries_of n place (c ∷ counts) = low c ∷ high c ∷ low place ∷ high place ∷ entries_of n (place + c * n) counts

unfoldable pub bodies_of : List Table → List ℕ
bodies_of [] = []
bodies_of (G ∷ tables) = flat G ++ bodies_of tables

unfoldable pub bundle_of : ℕ → List Table → List ℕ
bundle_of n tables = n ∷ length tables ∷ (entries_of n (2 + 4 * length tables) (counts_of tables) ++ bodies_of tables)
