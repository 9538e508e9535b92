-- Laws of a cone's share: how many monomials of degree at most s lie in the cone of a row.
--
--   size s d m       the share by steps: each degree of the row lowers s by one
--   share_inside, share_outside, share_unmarked   the cases of rule 7
--   share_size_lem   the share by steps is the share of rule 7
--   cone_test ks u q   q is in the cone of u, variable by variable; ks has a Boolean for each variable: marked or not
--   tests_cone       that test agrees with rule 3
--   cone_count       the share is the number of monomials up to s in the cone
--   listed n f       the marks of the variables 1 to n as a list
--   weight_listed    their number
use mathlib.Core.Path.{◌≡◌, refl, sym, ap, ap₂, ◌∙◌}
use mathlib.Core.Bool.{Bool, true, false, ◌&&◌}
use mathlib.Core.List.{List, [], ◌∷◌, map}
use mathlib.Core.Logic.{by_cases}
use Prim.Native.Nat.{ℕ, zero, suc, ◌+◌, ◌-◌, ◌≤◌, ◌<◌}
use native.Mathlib.Nat.{not-suc-le-zero, le_of_suc-le-suc, suc_inj, add-zero, suc-add, zero-add, sub-zero, suc-sub-suc}
use native.Mathlib.Decide.{dec_le}
use native.Mathlib.Omega.{arith}
use borrow.Author.Tests.{le-leb, lt-leb}
use lib.Dec.{T}
use lib.ListN.{length, get_or}
use Rattle.binomial.specs.Choose.{choose}
use Rattle.binomial.proofs.ChooseLaws.{choose_self, choose_none}
use Rattle.checks.specs.Tests.{Tests, pick}
use Rattle.checks.proofs.TestLaws.{tests_as, tests_and}
use Rattle.terms.specs.Monomials.{Monomial, ◌!◌, degree}
use Rattle.division.proofs.Facade.{marks_count, count_none, count_first}
use Rattle.counts.specs.Counts.{sum, raised, extended, monomials_up_to, share}
use Rattle.counts.proofs.SumLaws.{bit, sum_append, sum_zero, sum_same, sum_map}

-- ---- the share by steps

unfoldable pub size : ℕ → ℕ → ℕ → ℕ
unfolding choose
size s zero m = choose (s + m) m
size zero (suc d) m = 0
size (suc s) (suc d) m = size s d m

size_inside : (s d m : ℕ) → d ≤ s → size s d m ≡ choose (s - d + m) m
unfolding size
size_inside s zero m h = ap (λ (x : ℕ). choose (x + m) m) (sym (sub-zero s))
size_inside zero (suc d) m h = absurd (not-suc-le-zero h)
size_inside (suc s) (suc d) m h = size_inside s d m (le_of_suc-le-suc h) ∙ ap (λ (x : ℕ). choose (x + m) m) (sym (suc-sub-suc s d))

size_outside : (s d m : ℕ) → s < d → size s d m ≡ 0
unfolding size
size_outside s zero m h = absurd (not-suc-le-zero h)
size_outside zero (suc d) m h = refl
size_outside (suc s) (suc d) m h = size_outside s d m (le_of_suc-le-suc h)

pub share_inside : (s d m : ℕ) → d ≤ s → share s d m ≡ choose (s - d + m) m
unfolding share
share_inside s d m h = rw (le-leb d s h)

-- with no mark a row takes away 1
pub share_unmarked : (s d : ℕ) → d ≤ s → share s d 0 ≡ 1
share_unmarked s d h = share_inside s d 0 h ∙ choose_none (s - d + 0)

pub share_outside : (s d m : ℕ) → s < d → share s d m ≡ 0
unfolding share
share_outside s d m h = rw (lt-leb d s h)

pub share_size_lem : (s d m : ℕ) → share s d m ≡ size s d m
share_size_lem s d m = by_cases (dec_le d s)
    (λ h. share_inside s d m h ∙ sym (size_inside s d m h))
    (λ g. let h : s < d = omega arith in share_outside s d m h ∙ sym (size_outside s d m h))

-- Pascal's rule for shares
pub size_pascal : (s d m : ℕ) → size (suc s) d m + size s d (suc m) ≡ size (suc s) d (suc m)
unfolding size choose
size_pascal s zero m =
    let e : s + suc m ≡ suc s + m = omega arith in
    let f : suc s + suc m ≡ suc (suc s + m) = omega arith in
    rw (e, f)
size_pascal zero (suc zero) m =
    let e : 0 + suc m ≡ suc m = omega arith in
    let f : 0 + m ≡ m = omega arith in
    rw (e, f) (omega (arith, choose_self m, choose_self (suc m)))
size_pascal zero (suc (suc d)) m = refl
size_pascal (suc s) (suc d) m = size_pascal s d m

-- at degree 0 a mark adds nothing
pub size_first : (d m : ℕ) → size 0 d m ≡ size 0 d (suc m)
unfolding size
size_first zero m =
    let e : 0 + suc m ≡ suc m = omega arith in
    let f : 0 + m ≡ m = omega arith in
    rw (e, f) (choose_self m ∙ sym (choose_self (suc m)))
size_first (suc d) m = refl

-- ---- a cone, variable by variable

-- at one variable, with a mark or not: b is the row's exponent, a the monomial's
unfoldable pub reaches : Bool → ℕ → ℕ → Bool
reaches k zero zero = true
reaches k zero (suc a) = k
reaches k (suc b) zero = false
reaches k (suc b) (suc a) = reaches k b a

unfoldable pub cone_test : List Bool → Monomial → Monomial → Bool
unfolding reaches
cone_test [] u q = true
cone_test (k ∷ ks) [] q = true
cone_test (k ∷ ks) (b ∷ u) [] = false
cone_test (k ∷ ks) (b ∷ u) (a ∷ q) = reaches k b a && cone_test ks u q

unfoldable pub weight : List Bool → ℕ
weight [] = 0
weight (k ∷ ks) = bit k + weight ks

-- the mark of variable i
abbrev pub mark_at : List Bool → ℕ → Bool
mark_at ks zero = true
mark_at ks (suc i) = get_or ks i true

tests_reaches : (k : Bool) (b a : ℕ) → Tests (reaches k b a) ((b ≤ a) × (b < a → T k))
unfolding reaches
tests_reaches k zero zero = record { sound = λ t. (omega arith, λ h. absurd (omega arith)); complete = λ p. tt }
tests_reaches k zero (suc a) = record { sound = λ t. (omega arith, λ h. t); complete = λ p. p.1 (omega arith) }
tests_reaches k (suc b) zero = record { sound = λ t. absurd t; complete = λ p. not-suc-le-zero p.0 }
tests_reaches k (suc b) (suc a) = tests_as (tests_reaches k b a)
    (λ p. (omega (arith, p.0), λ h. p.1 (omega arith)))
    (λ p. (omega (arith, p.0), λ h. p.1 (omega arith)))

abbrev Reached : List Bool → Monomial → Monomial → ℕ → Type 0
Reached ks u q i = (u ! i ≤ q ! i) × (u ! i < q ! i → T (mark_at ks i))

-- from the first variable and the others to each, and back
reached_cons : (k : Bool) (ks : List Bool) (b a : ℕ) (u q : Monomial) → (b ≤ a) × (b < a → T k) → ((i : ℕ) → Reached ks u q i) → (i : ℕ)
    → Reached (k ∷ ks) (b ∷ u) (a ∷ q) i
reached_cons k ks b a u q p r zero = (omega arith, λ h. tt)
reached_cons k ks b a u q p r (suc zero) = p
reached_cons k ks b a u q p r (suc (suc i)) = r (suc i)

reached_tail : (k : Bool) (ks : List Bool) (b a : ℕ) (u q : Monomial) → ((i : ℕ) → Reached (k ∷ ks) (b ∷ u) (a ∷ q) i) → (i : ℕ) → Reached ks u q i
reached_tail k ks b a u q r zero = (omega arith, λ h. tt)
reached_tail k ks b a u q r (suc i) = r (suc (suc i))

pub tests_cone : (ks : List Bool) (u q : Monomial) → length ks ≡ length u → length ks ≡ length q
    → Tests (cone_test ks u q) ((i : ℕ) → (u ! i ≤ q ! i) × (u ! i < q ! i → T (mark_at ks i)))
unfolding cone_test
tests_cone [] [] [] e f = record { sound = λ t i. nothing i; complete = λ p. tt }
  where
    nothing : (i : ℕ) → Reached [] [] [] i
    nothing zero = (omega arith, λ h. tt)
    nothing (suc i) = (omega arith, λ h. tt)
tests_cone [] [] (a ∷ q) e f = absurd (omega arith)
tests_cone [] (b ∷ u) q e f = absurd (omega arith)
tests_cone (k ∷ ks) [] q e f = absurd (omega arith)
tests_cone (k ∷ ks) (b ∷ u) [] e f = absurd (omega arith)
tests_cone (k ∷ ks) (b ∷ u) (a ∷ q) e f = tests_as (tests_and (tests_reaches k b a) (λ h. tests_cone ks u q (suc_inj e) (suc_inj f)))
    (λ p. reached_cons k ks b a u q p.0 p.1)
    (λ p. (p 1, reached_tail k ks b a u q p))

-- ---- how many monomials a cone has

-- The cone with first mark k and first exponent b, over the monomials that `f` extends: d and m are the row's degree and marks behind the
-- first variable. A mark there sums over all exponents from b on, which is Pascal's rule again and again; without a mark only b is left.
module _ (ks : List Bool) (u : Monomial) (f : ℕ → List Monomial) (d m : ℕ) (ih : (s : ℕ) → sum (λ q. bit (cone_test ks u q)) (f s) ≡ size s d m) where
  abbrev in_cone : Bool → ℕ → Monomial → ℕ
  in_cone k b q = bit (cone_test (k ∷ ks) (b ∷ u) q)

  first_zero : (k : Bool) (s : ℕ) → sum (in_cone k 0) (map (λ w. 0 ∷ w) (f s)) ≡ size s d m
  unfolding cone_test
  first_zero k s = sum_map (in_cone k 0) (λ w. 0 ∷ w) (f s) ∙ ih s

  first_suc : (k : Bool) (b s : ℕ) → sum (in_cone k (suc b)) (map (λ w. 0 ∷ w) (f s)) ≡ 0
  unfolding cone_test
  first_suc k b s = sum_map (in_cone k (suc b)) (λ w. 0 ∷ w) (f s) ∙ sum_zero (f s)

  raised_mark : (q : Monomial) → in_cone true 0 (raised q) ≡ in_cone true 0 q
  unfolding cone_test raised
  raised_mark [] = refl
  raised_mark (zero ∷ q) = refl
  raised_mark (suc a ∷ q) = refl

  raised_none : (q : Monomial) → in_cone false 0 (raised q) ≡ 0
  unfolding cone_test raised
  raised_none [] = refl
  raised_none (a ∷ q) = refl

  raised_suc : (k : Bool) (b : ℕ) (q : Monomial) → in_cone k (suc b) (raised q) ≡ in_cone k b q
  unfolding cone_test raised
  raised_suc k b [] = refl
  raised_suc k b (a ∷ q) = refl

  split : (k : Bool) (b s : ℕ) → sum (in_cone k b) (extended f (suc s))
      ≡ sum (in_cone k b) (map (λ w. 0 ∷ w) (f (suc s))) + sum (λ q. in_cone k b (raised q)) (extended f s)
  unfolding extended
  split k b s =
      sum_append (in_cone k b) (map (λ w. 0 ∷ w) (f (suc s))) (map raised (extended f s))
      ∙ ap (λ (x : ℕ). sum (in_cone k b) (map (λ w. 0 ∷ w) (f (suc s))) + x) (sum_map (in_cone k b) raised (extended f s))

  one_add : (k : ℕ) → 1 + k ≡ suc k
  one_add k = omega arith

  cone_extended : (s : ℕ) (k : Bool) (b : ℕ) → sum (in_cone k b) (extended f s) ≡ size s (b + d) (bit k + m)
  unfolding extended size
  cone_extended zero true zero = rw (zero-add d, one_add m) (first_zero true 0 ∙ size_first d m)
  cone_extended zero false zero = rw (zero-add d, zero-add m) (first_zero false 0)
  cone_extended zero k (suc b) = rw suc-add (first_suc k b 0)
  cone_extended (suc s) true zero =
      rw (zero-add d, one_add m) (split true 0 s ∙ ap₂ (λ (x y : ℕ). x + y) (first_zero true (suc s))
      (sum_same _ _ (extended f s) (λ q h. raised_mark q) ∙ rw (zero-add d, one_add m) at (cone_extended s true zero)) ∙ size_pascal s d m)
  cone_extended (suc s) false zero =
      rw (zero-add d, zero-add m) (split false 0 s ∙ ap₂ (λ (x y : ℕ). x + y) (first_zero false (suc s))
      (sum_same _ _ (extended f s) (λ q h. raised_none q) ∙ sum_zero (extended f s)) ∙ add-zero _)
  cone_extended (suc s) k (suc b) =
      rw suc-add (split k (suc b) s ∙ ap₂ (λ (x y : ℕ). x + y) (first_suc k b (suc s))
      (sum_same _ _ (extended f s) (λ q h. raised_suc k b q) ∙ cone_extended s k b) ∙ zero-add _)

pub cone_count : (ks : List Bool) (u : Monomial) → length ks ≡ length u → (s : ℕ)
    → sum (λ q. bit (cone_test ks u q)) (monomials_up_to (length u) s) ≡ size s (degree u) (weight ks)
unfolding monomials_up_to degree weight sum size choose cone_test
cone_count [] [] e s = refl
cone_count [] (b ∷ u) e s = omega arith
cone_count (k ∷ ks) [] e s = omega arith
cone_count (k ∷ ks) (b ∷ u) e s = cone_extended ks u (monomials_up_to (length u)) (degree u) (weight ks) (cone_count ks u (suc_inj e)) s k b

-- ---- the marks as a list

unfoldable pub listed : ℕ → (ℕ → Bool) → List Bool
listed zero f = []
listed (suc n) f = f 1 ∷ listed n (λ i. f (suc i))

pub length_listed : (n : ℕ) (f : ℕ → Bool) → length (listed n f) ≡ n
unfolding listed
length_listed zero f = refl
length_listed (suc n) f = ap suc (length_listed n (λ i. f (suc i)))

pub listed_at : (n : ℕ) (f : ℕ → Bool) (i : ℕ) → 0 < i → i ≤ n → mark_at (listed n f) i ≡ f i
unfolding listed
listed_at n f zero p l = absurd (not-suc-le-zero p)
listed_at zero f (suc i) p l = absurd (not-suc-le-zero l)
listed_at (suc n) f (suc zero) p l = refl
listed_at (suc n) f (suc (suc i)) p l = listed_at n (λ j. f (suc j)) (suc i) (omega arith) (le_of_suc-le-suc l)

pick_bit : (b : Bool) → pick b 1 0 ≡ bit b
pick_bit true = refl
pick_bit false = refl

pub weight_listed : (n : ℕ) (f : ℕ → Bool) → weight (listed n f) ≡ marks_count n f
unfolding weight listed
weight_listed zero f = sym (count_none f)
weight_listed (suc n) f = omega (arith, weight_listed n (λ i. f (suc i)), count_first n f, pick_bit (f 1))
