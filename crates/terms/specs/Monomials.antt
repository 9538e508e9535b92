-- Monomials and tables.
--
--   Monomial         its exponents, first variable first
--   Table            its rows, in order
--   u ! i            the exponent of variable i. Variables count from 1; what is no variable of u has exponent 0
--   row_at G r       row r of G. Rows count from 0
--   u ∈ G            u is a row of G
--   OfSize n G       each row of G has n exponents
--   EqualRows G      rows r and s of G, r below s, are the same monomial
--   Distinct G       no two rows of G are
--   SameBefore i u v   u and v are equal in variables 1 to i − 1
--   times u i k      u times variable i to the power k
--   AtMost b u       no exponent of u is above b
--   LargestOf l r    r is the largest of the numbers l, 0 for none
--   degree u         the total degree of u
--
-- Since each exponent past the last variable reads as 0, a rule over 'each variable' needs no bound.
use Rattle.std.specs.Prelude.{◌≡◌, ◌⊎◌, ℕ, zero, suc, ◌+◌, ◌≤◌, ◌<◌, length, get_or, set}
use mathlib.Core.List.{List, [], ◌∷◌, Memᴰ}
use Rattle.checks.specs.Tests.{SomeBelow}

abbrev pub Monomial : Type 0
Monomial = List ℕ

abbrev pub Table : Type 0
Table = List Monomial

infixl 90 ◌!◌
infix 45 ◌∈◌
abbrev pub ◌!◌ : Monomial → ℕ → ℕ
u ! zero = 0
u ! (suc i) = get_or u i 0

abbrev pub row_at : Table → ℕ → Monomial
row_at G r = get_or G r []

abbrev pub ◌∈◌ : Monomial → Table → Type 0
u ∈ G = Memᴰ u G

abbrev pub OfSize : ℕ → Table → Type 0
OfSize n G = (u : Monomial) → u ∈ G → length u ≡ n

abbrev pub EqualRows : Table → Type 0
EqualRows G = SomeBelow (length G) (λ s. SomeBelow s (λ r. row_at G r ≡ row_at G s))

abbrev pub Distinct : Table → Type 0
Distinct G = EqualRows G → ⊥

abbrev pub SameBefore : ℕ → Monomial → Monomial → Type 0
SameBefore i u v = (j : ℕ) → j < i → u ! j ≡ v ! j

abbrev pub AtMost : ℕ → Monomial → Type 0
AtMost b u = (i : ℕ) → u ! i ≤ b

abbrev pub times : Monomial → ℕ → ℕ → Monomial
times u zero k = u
times u (suc i) k = set u i (u ! suc i + k)

pub record LargestOf (l : List ℕ) (r : ℕ) : Type 0 where
  pub bound : (e : ℕ) → Memᴰ e l → e ≤ r
  pub reached : (r ≡ 0) ⊎ Memᴰ r l

unfoldable pub degree : Monomial → ℕ
degree [] = 0
degree (a ∷ u) = a + degree u
