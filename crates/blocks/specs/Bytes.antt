-- Rows and blocks of rows as bytes in an array. The head of a row is its first exponent, its tail the others; a block are rows of one head that stand
-- together; generators are rows that stand for their ideal (`slicing/specs/Walk` has an example).
--
--   part n k from bytes  k rows of n bytes each, from byte `from` on
--   copies k b j S       the rows of S with exponent b at place k, then b + 1, .. : j times
--   next_row a i G       where the next row with head a stands
--   Linked, Firsts       rows chained by head
--   after p H            the rows of H with the exponents p before each: what is appended behind the first exponents p of a row
--   fit n size e         e, the number of rows of n bytes that are written, or none where they do not fit `size` bytes
use Rattle.std.specs.Prelude.{◌≡◌, List, [], ◌∷◌, ◌++◌, map, ℕ, zero, suc, ◌+◌, ◌*◌, ◌<◌, Option, Some, None, leb, eqb, length, drop, get_or, set}
use Rattle.checks.specs.Tests.{pick}
use Rattle.terms.specs.Monomials.{Monomial, Table, ◌!◌, row_at}
use Rattle.terms.specs.Rows.{first_rows}

abbrev pub part : ℕ → ℕ → ℕ → List ℕ → Table
part n k from bytes = first_rows n k (drop from bytes)

unfoldable pub copies : ℕ → ℕ → ℕ → Table → Table
copies k b zero S = []
copies k b (suc j) S = copies k b j S ++ map (λ u. set u k (b + j)) S

-- one more than the number of the first row of G with head a, where G's first row has the number i; 0 where there is none
unfoldable pub next_row : ℕ → ℕ → Table → ℕ
next_row a i [] = 0
next_row a i (u ∷ G) = pick (eqb (u ! 1) a) (suc i) (next_row a (suc i) G)

-- next leads from each row of T to the next one with its head
abbrev pub Linked : Table → List ℕ → Type 0
Linked T next = (j : ℕ) → j < length T → get_or next j 0 ≡ next_row (row_at T j ! 1) (suc j) (drop (suc j) T)

-- first leads to the first row of T with each head
abbrev pub Firsts : Table → List ℕ → Type 0
Firsts T first = (a : ℕ) → a < 256 → get_or first a 0 ≡ next_row a 0 T

unfoldable pub after : Monomial → Table → Table
after p H = map (λ t. p ++ t) H

unfoldable pub fit : ℕ → ℕ → ℕ → Option ℕ
fit n size e = pick (leb (e * n) size) (Some e) None
