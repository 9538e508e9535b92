-- Laws of exponents, of products and of 'equal before a variable'.
--
--   beyond, within         what is no variable of u has exponent 0; a variable with an exponent above 0 is one of u's
--   times_same, -other, -at  the exponents of a product
--   before_suc, before_zero  equal before the next variable, and before the first
--   same_all               monomials of one size that are equal before each variable are equal
--   at_or_other, three     cases on a variable: i itself or another; before i, i, behind i
--   most_by, most_tail     no exponent above b, of the exponents as a list, and behind the first
--   degree_le              a monomial that divides another has no larger degree
--   degree_most            where no exponent is above b, the degree is at most b for each variable
use mathlib.Core.Path.{◌≡◌, refl, sym, ap, subst}
use mathlib.Core.List.{[], ◌∷◌}
use mathlib.Core.Logic.{◌⊎◌, inl, inr, ⊎_elim, by_cases}
use Prim.Native.Nat.{ℕ, zero, suc, ◌+◌, ◌*◌, ◌≤◌, ◌<◌}
use native.Mathlib.Nat.{not-suc-le-zero, eq-or-lt_of_le, le_of_suc-le-suc}
use native.Mathlib.Decide.{dec_le, dec_lt, ℕ_discrete}
use native.Mathlib.Omega.{arith}
use lib.ListN.{length, get_or, length-set, get_or-eq_default}
use lib.Seq.{get_or-set_same, get_or-set_other, set_out, ext_get_or}
use Rattle.terms.specs.Monomials.{Monomial, ◌!◌, SameBefore, AtMost, times, degree}

-- ---- exponents

pub beyond : (u : Monomial) (i : ℕ) → length u < i → u ! i ≡ 0
beyond u zero h = refl
beyond u (suc i) h = get_or-eq_default u 0 {n = i} (le_of_suc-le-suc h)

pub within : (u : Monomial) (i : ℕ) → 0 < u ! i → i ≤ length u
within u i h = by_cases (dec_lt (length u) i) (λ l. absurd (omega (arith, beyond u i l))) (λ g. omega arith)

pub positive : (u : Monomial) (i : ℕ) → 0 < u ! i → 0 < i
positive u zero h = h
positive u (suc i) h = omega arith

-- the first variable is the first exponent, and the others follow
pub tail_at : (a : ℕ) (u : Monomial) (i : ℕ) → 0 < i → (a ∷ u) ! suc i ≡ u ! i
tail_at a u zero p = absurd (not-suc-le-zero p)
tail_at a u (suc i) p = refl

pub most_by : (b : ℕ) (u : Monomial) → ((i : ℕ) → get_or u i 0 ≤ b) → AtMost b u
most_by b u h zero = omega arith
most_by b u h (suc i) = h i

pub most_tail : (b a : ℕ) (u : Monomial) → AtMost b (a ∷ u) → AtMost b u
most_tail b a u h = most_by b u (λ i. h (suc (suc i)))

-- ---- cases on a variable

pub at_or_other : (P : ℕ → Type 0) (i : ℕ) → P i → ((j : ℕ) → (j ≡ i → ⊥) → P j) → (j : ℕ) → P j
at_or_other P i h o j = by_cases (ℕ_discrete j i) (λ e. subst P (sym e) h) (o j)

pub three : (P : ℕ → Type 0) (i : ℕ) → ((j : ℕ) → j < i → P j) → P i → ((j : ℕ) → i < j → P j) → (j : ℕ) → P j
three P i b h a = at_or_other P i h (λ j e. by_cases (dec_lt j i) (b j) (λ g. a j (omega arith)))

-- what holds below i and at i holds below suc i
pub below_suc : (P : ℕ → Type 0) (i : ℕ) → ((j : ℕ) → j < i → P j) → P i → (j : ℕ) → j < suc i → P j
below_suc P i b p j h = ⊎_elim (λ e. subst P (sym e) p) (b j) (eq-or-lt_of_le (le_of_suc-le-suc h))

-- what holds up to i and at the next holds up to the next: a loop over the variables goes on
pub upto_next : (P : ℕ → Type 0) (i : ℕ) → ((j : ℕ) → j ≤ i → P j) → P (suc i) → (j : ℕ) → j ≤ i + 1 → P j
upto_next P i b p j h = by_cases (dec_le j i) (b j) (λ g. let e : suc i ≡ j = omega arith in subst P e p)

-- and before the first variable it holds where it holds of 0
pub upto_zero : (P : ℕ → Type 0) → P 0 → (j : ℕ) → j ≤ 0 → P j
upto_zero P p j h = let e : 0 ≡ j = omega arith in subst P e p

-- ---- products

pub length_times : (u : Monomial) (i k : ℕ) → length (times u i k) ≡ length u
length_times u zero k = refl
length_times u (suc i) k = length-set u i (u ! suc i + k)

pub times_same : (u : Monomial) (i k : ℕ) → 0 < i → i ≤ length u → times u i k ! i ≡ u ! i + k
times_same u zero k p l = absurd (not-suc-le-zero p)
times_same u (suc i) k p l = get_or-set_same u i (u ! suc i + k) 0 l

pub times_other : (u : Monomial) (i k j : ℕ) → (j ≡ i → ⊥) → times u i k ! j ≡ u ! j
times_other u zero k j e = refl
times_other u (suc i) k zero e = refl
times_other u (suc i) k (suc j) e = get_or-set_other u i j (u ! suc i + k) 0 (λ h. e (ap suc h))

times_out : (u : Monomial) (i k : ℕ) → length u < i → times u i k ≡ u
times_out u zero k h = refl
times_out u (suc i) k h = set_out u i (u ! suc i + k) (le_of_suc-le-suc h)

-- only the exponent of i can change, and by k
pub times_at : (u : Monomial) (i k j : ℕ) → (times u i k ! j ≡ u ! j) ⊎ ((j ≡ i) × (times u i k ! j ≡ u ! j + k))
times_at u i k j = go i (ℕ_discrete j i) (dec_lt (length u) i)
  where
    go : (i : ℕ) → Dec (j ≡ i) → Dec (length u < i) → (times u i k ! j ≡ u ! j) ⊎ ((j ≡ i) × (times u i k ! j ≡ u ! j + k))
    go i (no e) d = inl (times_other u i k j e)
    go i (yes e) (yes l) = inl (ap (λ (w : Monomial). w ! j) (times_out u i k l))
    go zero (yes e) (no g) = inl refl
    go (suc i) (yes e) (no g) = inr (e, subst (λ (m : ℕ). times u (suc i) k ! m ≡ u ! m + k) (sym e) (times_same u (suc i) k (omega arith) (omega arith)))

-- a product is above its row
pub times_above : (u : Monomial) (i k : ℕ) → (j : ℕ) → u ! j ≤ times u i k ! j
times_above u i k j = ⊎_elim (λ e. omega arith) (λ e. omega arith) (times_at u i k j)

-- ---- equal before a variable

pub before_zero : (u v : Monomial) → SameBefore 0 u v
before_zero u v j l = absurd (not-suc-le-zero l)

pub before_suc : (i : ℕ) (u v : Monomial) → SameBefore i u v → u ! i ≡ v ! i → SameBefore (suc i) u v
before_suc i u v s e = below_suc (λ j. u ! j ≡ v ! j) i s e

-- before the first variable there is none
pub before_first : (u v : Monomial) → SameBefore 1 u v
before_first u v = before_suc 0 u v (before_zero u v) refl

pub same_all : (u v : Monomial) → length u ≡ length v → ((i : ℕ) → u ! i ≡ v ! i) → u ≡ v
same_all u v l s = ext_get_or 0 u v l (λ i h. s (suc i))

-- ---- degrees

pub degree_le : (u v : Monomial) → ((i : ℕ) → u ! i ≤ v ! i) → degree u ≤ degree v
unfolding degree
degree_le [] v h = omega arith
degree_le (a ∷ u) [] h = omega (arith, h 1, degree_le u [] (λ i. rest i))
  where
    rest : (i : ℕ) → u ! i ≤ [] ! i
    rest zero = omega arith
    rest (suc i) = h (suc (suc i))
degree_le (a ∷ u) (b ∷ v) h = omega (arith, h 1, degree_le u v rest)
  where
    rest : (i : ℕ) → u ! i ≤ v ! i
    rest zero = omega arith
    rest (suc i) = h (suc (suc i))

pub degree_most : (b : ℕ) (u : Monomial) → AtMost b u → degree u ≤ length u * b
unfolding degree
degree_most b [] h = omega arith
degree_most b (a ∷ u) h = omega (arith, h 1, degree_most b u (most_tail b a u h))
