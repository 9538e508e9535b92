-- Ranges of rows: over ascending rows a group of the descent is the rows from one number to before another.
--
--   range lo hi      the numbers of the rows from lo to before hi
--   GroupRange G i lo hi   rows lo to before hi are some rows of G, all equal before variable i
--   FirstLarger G i lo hi r   r is the first later row of the range with a larger exponent at i than row lo, or hi where there is none
--   with_steps s d   the descent d, with s steps taken before it
--   descend_from n G q i lo hi  rule 6 from variable i on, in the group of the rows lo to before hi
use Rattle.std.specs.Prelude.{List, ℕ, suc, ◌+◌, ◌-◌, ◌≤◌, ◌<◌, length}
use Rattle.terms.specs.Monomials.{Monomial, Table, ◌!◌, row_at, SameBefore}
use Rattle.division.specs.Descent.{Descent, numbers_from, descend}

abbrev pub range : ℕ → ℕ → List ℕ
range lo hi = numbers_from lo (hi - lo)

pub record GroupRange (G : Table) (i lo hi : ℕ) : Type 0 where
  pub some : lo < hi
  pub within : hi ≤ length G
  pub same : (r : ℕ) → lo ≤ r → r < hi → SameBefore i (row_at G lo) (row_at G r)

pub record FirstLarger (G : Table) (i lo hi r : ℕ) : Type 0 where
  pub later : lo < r
  pub within : r ≤ hi
  pub none : (s : ℕ) → lo < s → s < r → row_at G s ! i ≤ row_at G lo ! i
  pub larger : r < hi → row_at G lo ! i < row_at G r ! i

abbrev pub with_steps : ℕ → Descent → Descent
with_steps s d = record { found = d.found; steps = s + d.steps; ended = d.ended }

abbrev pub descend_from : ℕ → Table → Monomial → ℕ → ℕ → ℕ → Descent
descend_from n G q i lo hi = descend G q (suc n - i) i (range lo hi)
