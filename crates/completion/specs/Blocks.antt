-- Blocks of rows under heads. A row is written a ∷ t: its head a, the exponent of its first variable, and its tail t.
--
--   behind a B           the rows of B with the head a before each
--   repeated b k B       B behind each of the heads b, b + 1, .. : k heads
--   box caps             all monomials with as many exponents as caps, each at most that of caps, ascending
use Rattle.std.specs.Prelude.{[], ◌∷◌, ◌++◌, map, ℕ, zero, suc, ◌+◌}
use Rattle.terms.specs.Monomials.{Monomial, Table}

unfoldable pub behind : ℕ → Table → Table
behind a B = map (λ t. a ∷ t) B

unfoldable pub repeated : ℕ → ℕ → Table → Table
unfolding behind
repeated b zero B = []
repeated b (suc k) B = repeated b k B ++ behind (b + k) B

unfoldable pub box : Monomial → Table
unfolding repeated
box [] = [] ∷ []
box (c ∷ caps) = repeated 0 (suc c) (box caps)
