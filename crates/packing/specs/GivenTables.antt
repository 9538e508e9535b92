-- Tables given as row counts and bytes: one number a table, and the rows of all tables end to end.
--
--   total_rows counts              the sum of the row counts
--   given_tables n counts tables   the tables: as many rows of n bytes as the first count says, then the others
--   given_bundle n counts tables   their bundle, in the format that the reader reads
use Rattle.std.specs.Prelude.{List, [], ◌∷◌, ℕ, ◌+◌, ◌*◌, drop}
use Rattle.terms.specs.Monomials.{Table}
use Rattle.terms.specs.Rows.{first_rows}
use Rattle.bundle.specs.Format.{bundle_of}

unfoldable pub total_rows : List ℕ → ℕ
total_rows [] = 0
total_rows (c ∷ counts) = c + total_rows counts

unfoldable pub given_tables : ℕ → List ℕ → List ℕ → List Table
given_tables n [] tables = []
given_tables n (c ∷ counts) tables = first_rows n c tables ∷ given_tables n counts (drop (c * n) tables)

abbrev pub given_bundle : ℕ → List ℕ → List ℕ → List ℕ
given_bundle n counts tables = bundle_of n (given_tables n counts tables)
