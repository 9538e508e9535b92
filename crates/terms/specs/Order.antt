-- The order of rows: the first variable decides, then the next.
--
--   Precedes u v     u comes before v: at the first variable where they differ u has less
--   Ascending G      G ascends strictly: each row precedes the next
--
-- With the tests `precedes_test`, `ascending_test`.
use Rattle.std.specs.Prelude.{Bool, true, false, ◌&&◌, ◌||◌, [], ◌∷◌, ℕ, suc, ◌<◌, ltb, eqb, length}
use Rattle.terms.specs.Monomials.{Monomial, Table, ◌!◌, row_at, SameBefore}

pub record Precedes (u v : Monomial) : Type 0 where
  pub at : ℕ
  pub same : SameBefore at u v
  pub less : u ! at < v ! at

abbrev pub Ascending : Table → Type 0
Ascending G = (r : ℕ) → suc r < length G → Precedes (row_at G r) (row_at G (suc r))

unfoldable pub precedes_test : Monomial → Monomial → Bool
precedes_test [] [] = false
precedes_test (a ∷ u) [] = false
precedes_test [] (b ∷ v) = ltb 0 b || (eqb 0 b && precedes_test [] v)
precedes_test (a ∷ u) (b ∷ v) = ltb a b || (eqb a b && precedes_test u v)

unfoldable pub ascending_test : Table → Bool
unfolding precedes_test
ascending_test [] = true
ascending_test (u ∷ []) = true
ascending_test (u ∷ (v ∷ G)) = precedes_test u v && ascending_test (v ∷ G)
