-- A table as bytes: rows of n bytes end to end.
--
--   rows n bytes     the table that the bytes are: the one place where bytes become rows
--   rows_of t        the table that a flat table is
--   first_rows n k bytes  its first k rows
--   flat G           the rows of G end to end: the one place where rows become bytes
--   padded u         u with zeros for the exponents that it lacks of six
--   as_row n u       u as the record that is passed about: six exponents and n
--   monomial_of r    the monomial that a record is: its first n exponents
--   put_row n k u bytes   the bytes with the first n exponents of u in the place of row k
use Rattle.std.specs.Prelude.{List, [], ◌∷◌, ◌++◌, ℕ, zero, suc, ◌*◌, ◌-◌, ◌/◌, length, take, drop, replicate}
use Rattle.std.proofs.Math.Seq.{paste}
use Rattle.terms.specs.Monomials.{Monomial, Table}
use Rattle.terms.specs.declared.Row.{Row}
use Rattle.terms.specs.declared.FlatTable.{FlatTable}

unfoldable pub first_rows : ℕ → ℕ → List ℕ → Table
first_rows n zero bytes = []
first_rows n (suc k) bytes = take n bytes ∷ first_rows n k (drop n bytes)

unfoldable pub rows : ℕ → List ℕ → Table
unfolding first_rows
rows n bytes = first_rows n (length bytes / n) bytes

abbrev pub rows_of : FlatTable → Table
rows_of t = rows t.n t.bytes.now

unfoldable pub flat : Table → List ℕ
flat [] = []
flat (u ∷ G) = u ++ flat G

unfoldable pub padded : Monomial → Monomial
padded u = u ++ replicate (6 - length u) 0

unfoldable pub as_row : ℕ → Monomial → Row
unfolding padded
as_row n u = record { exponents = padded u; n = n }

abbrev pub monomial_of : Row → Monomial
monomial_of r = take r.n r.exponents

unfoldable pub put_row : ℕ → ℕ → Monomial → List ℕ → List ℕ
put_row n k u bytes = paste bytes (k * n) u n
