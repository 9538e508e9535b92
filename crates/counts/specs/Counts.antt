-- Rules 7 to 9: the count, the polynomial and the steady degree of a table.
--
--   monomials_up_to n s   the monomials of n exponents and of degree at most s, each once
--   CountsOutside n G s k   rule 7: k is the number of monomials of n exponents and of degree at most s outside the ideal of G
--   count_at n G s   that number
--   share s d m      rule 7: what a row of degree d with m marks takes away at s
--   chooseℤ t m      rule 8: C(t, m) for any t, also a negative one
--   signed_share s d m  rule 8: a row's share with no row left out
--   polynomial_at n G s   rule 8
--   steady_of G      rule 9: the largest degree of a row, 0 for no rows
--
-- With `sum`, `sumℤ` over the elements of a list, and `occurrences q l`, how often q occurs in l.
use Rattle.std.specs.Prelude.{◌≡◌, Bool, true, false, not, ◌&&◌, ℕ, zero, suc, ◌+◌, ◌-◌, ◌≤◌, max, leb, eqb, length, ℤ, pos, negsuc, neg_ℤ, ◌+ℤ◌, ◌-ℤ◌}
use mathlib.Core.List.{List, [], ◌∷◌, ◌++◌, map, Memᴰ}
use Rattle.std.proofs.Math.IntN.{sub_ℕ}
use Rattle.binomial.specs.Choose.{choose}
use Rattle.checks.specs.Tests.{pick, keep}
use Rattle.terms.specs.Monomials.{Monomial, Table, degree}
use Rattle.terms.specs.Ideal.{Inside, inside_test}
use Rattle.division.proofs.Facade.{marks_in}

module _ {A : Type 0} where
  unfoldable pub sum : (A → ℕ) → List A → ℕ
  sum f [] = 0
  sum f (x ∷ l) = f x + sum f l

  unfoldable pub sumℤ : (A → ℤ) → List A → ℤ
  sumℤ f [] = pos 0
  sumℤ f (x ∷ l) = f x +ℤ sumℤ f l

-- ---- the monomials up to a degree

-- u times the first variable
unfoldable pub raised : Monomial → Monomial
raised [] = []
raised (a ∷ u) = suc a ∷ u

-- The monomials up to degree s, where f s are those of one variable less: the first exponent is 0, or it is a monomial up to degree s − 1 times the
-- first variable.
unfoldable pub extended : (ℕ → List Monomial) → ℕ → List Monomial
unfolding raised
extended f zero = map (λ u. 0 ∷ u) (f zero)
extended f (suc s) = map (λ u. 0 ∷ u) (f (suc s)) ++ map raised (extended f s)

unfoldable pub monomials_up_to : ℕ → ℕ → List Monomial
unfolding extended
monomials_up_to zero s = [] ∷ []
monomials_up_to (suc n) s = extended (monomials_up_to n) s

unfoldable pub same_test : Monomial → Monomial → Bool
same_test [] [] = true
same_test [] (b ∷ v) = false
same_test (a ∷ u) [] = false
same_test (a ∷ u) (b ∷ v) = eqb a b && same_test u v

unfoldable pub occurrences : Monomial → List Monomial → ℕ
unfolding same_test
occurrences q l = length (keep (λ p. same_test q p) l)

-- ---- rule 7

-- they can be listed, each exactly once
pub record CountsOutside (n : ℕ) (G : Table) (s k : ℕ) : Type 0 where
  pub list : List Monomial
  pub size : length list ≡ k
  pub only : (q : Monomial) → Memᴰ q list → (length q ≡ n) × (degree q ≤ s) × (Inside G q → ⊥)
  pub once : (q : Monomial) → length q ≡ n → degree q ≤ s → (Inside G q → ⊥) → occurrences q list ≡ 1

unfoldable pub count_at : ℕ → Table → ℕ → ℕ
unfolding monomials_up_to inside_test
count_at n G s = length (keep (λ q. not (inside_test G q)) (monomials_up_to n s))

-- C(s − d + m, m) for d not above s, and nothing otherwise
unfoldable pub share : ℕ → ℕ → ℕ → ℕ
unfolding choose
share s d m = pick (leb d s) (choose (s - d + m) m) 0

-- ---- rule 8

unfoldable pub odd_test : ℕ → Bool
odd_test zero = false
odd_test (suc m) = not (odd_test m)

-- for t = − (k + 1) it is C(m − t − 1, m) = C(m + k, m), with a minus sign if m is odd
unfoldable pub chooseℤ : ℤ → ℕ → ℤ
unfolding odd_test choose
chooseℤ (pos t) m = pos (choose t m)
chooseℤ (negsuc k) m = pick (odd_test m) (neg_ℤ (pos (choose (m + k) m))) (pos (choose (m + k) m))

-- t is s − d + m
unfoldable pub signed_share : ℕ → ℕ → ℕ → ℤ
unfolding chooseℤ
signed_share s d m = chooseℤ (sub_ℕ (s + m) d) m

unfoldable pub polynomial_at : ℕ → Table → ℕ → ℤ
unfolding sumℤ signed_share choose degree
polynomial_at n G s = pos (choose (n + s) n) -ℤ sumℤ (λ u. signed_share s (degree u) (marks_in n G u)) G

-- ---- rule 9

unfoldable pub steady_of : Table → ℕ
unfolding degree
steady_of [] = 0
steady_of (u ∷ G) = max (degree u) (steady_of G)
