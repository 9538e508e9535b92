-- Rule 10: binomials, by Pascal's rule.
--
--   choose n k       the number of ways to choose k things out of n; 0 where k exceeds n
use Rattle.std.specs.Prelude.{ℕ, zero, suc, ◌+◌}

unfoldable pub choose : ℕ → ℕ → ℕ
choose n zero = 1
choose zero (suc k) = 0
choose (suc n) (suc k) = choose n k + choose n (suc k)
