-- Laws of binomials.
--
--   choose_over, choose_self   a bottom above the top gives 0, and the top itself 1
--   choose_one             a bottom of 1 gives the top
--   choose_up, choose_monotone   a larger top gives no less
--   hockey_stick           the sum of C(j + m, m) for j up to t is C(t + m + 1, m + 1)
--   choose_absorb          (k + 1) C(n + 1, k + 1) is (n + 1) C(n, k)
--   choose_largest         C(306, 6) is 1,085,371,516,236
--   choose_within          no C(t, m) with m up to 6 and t up to 300 + m exceeds it
use mathlib.Core.Path.{◌≡◌, refl, sym, ap, ◌∙◌}
use Prim.Native.Nat.{ℕ, zero, suc, ◌+◌, ◌*◌, ◌-◌, ◌≤◌, ◌<◌}
use native.Mathlib.Nat.{not-suc-le-zero, le_of_suc-le-suc, suc-mul, mul-add}
use native.Mathlib.Omega.{arith}
use Rattle.binomial.specs.Choose.{choose}

pub choose_over : (n k : ℕ) → n < k → choose n k ≡ 0
unfolding choose
choose_over n zero h = absurd (not-suc-le-zero h)
choose_over zero (suc k) h = refl
choose_over (suc n) (suc k) h = omega (arith, choose_over n k (omega arith), choose_over n (suc k) (omega arith))

pub choose_self : (n : ℕ) → choose n n ≡ 1
unfolding choose
choose_self zero = refl
choose_self (suc n) = omega (arith, choose_self n, choose_over n (suc n) (omega arith))

pub choose_none : (n : ℕ) → choose n 0 ≡ 1
unfolding choose
choose_none n = refl

pub choose_one : (n : ℕ) → choose n 1 ≡ n
unfolding choose
choose_one zero = refl
choose_one (suc n) = omega (arith, choose_one n)

pub choose_pascal : (n k : ℕ) → choose (suc n) (suc k) ≡ choose n k + choose n (suc k)
unfolding choose
choose_pascal n k = refl

pub choose_up : (n k : ℕ) → choose n k ≤ choose (suc n) k
unfolding choose
choose_up n zero = omega arith
choose_up n (suc k) = omega arith

pub choose_monotone : (a b k : ℕ) → a ≤ b → choose a k ≤ choose b k
choose_monotone zero b k h = from_zero b
  where
    from_zero : (b : ℕ) → choose 0 k ≤ choose b k
    from_zero zero = omega arith
    from_zero (suc b) = omega (arith, from_zero b, choose_up b k)
choose_monotone (suc a) zero k h = absurd (not-suc-le-zero h)
choose_monotone (suc a) (suc b) zero h = omega (arith, choose_none (suc a), choose_none (suc b))
choose_monotone (suc a) (suc b) (suc k) h =
    omega (arith, choose_pascal a k, choose_pascal b k, choose_monotone a b k (le_of_suc-le-suc h), choose_monotone a b (suc k) (le_of_suc-le-suc h))

-- the sum of C(j + m, m) for j from 0 to t
unfoldable pub stick : ℕ → ℕ → ℕ
unfolding choose
stick m zero = choose m m
stick m (suc t) = stick m t + choose (suc t + m) m

pub hockey_stick : (m t : ℕ) → stick m t ≡ choose (suc (t + m)) (suc m)
unfolding stick
hockey_stick m zero =
    let e : 0 + m ≡ m = omega arith in
    rw e (choose_self m ∙ sym (choose_self (suc m)))
hockey_stick m (suc t) =
    let e : suc t + m ≡ suc (t + m) = omega arith in
    rw e (omega (arith, hockey_stick m t, choose_pascal (suc (t + m)) m))

-- ---- how large they are

-- By induction on n: (k + 2) C(n + 2, k + 2) is (k + 1) C(n + 1, k + 1) and C(n + 1, k + 1) and (k + 2) C(n + 1, k + 2), by Pascal's rule.
pub choose_absorb : (n k : ℕ) → suc k * choose (suc n) (suc k) ≡ suc n * choose n k
choose_absorb n zero = rw (choose_one (suc n), choose_none n) (omega arith)
choose_absorb zero (suc k) = rw (choose_over 1 (suc (suc k)) (omega arith), choose_over 0 (suc k) (omega arith)) (omega arith)
choose_absorb (suc n) (suc k) =
    let x = choose n k in
    let y = choose n (suc k) in
    let z = choose (suc n) (suc k) in
    let w = choose (suc n) (suc (suc k)) in
    let p : z ≡ x + y = choose_pascal n k in
    let a : suc k * z ≡ suc n * x = choose_absorb n k in
    let b : suc (suc k) * w ≡ suc n * y = choose_absorb n (suc k) in
    let c : suc n * z ≡ suc n * x + suc n * y = ap (λ (v : ℕ). suc n * v) p ∙ mul-add (suc n) x y in
    let d : suc (suc k) * (z + w) ≡ suc (suc k) * z + suc (suc k) * w = mul-add (suc (suc k)) z w in
    let e : suc (suc k) * z ≡ suc k * z + z = suc-mul (suc k) z in
    let f : suc (suc n) * z ≡ suc n * z + z = suc-mul (suc n) z in
    ap (λ (v : ℕ). suc (suc k) * v) (choose_pascal (suc n) (suc k)) ∙ omega arith

pub choose_largest : choose 306 6 ≡ 1085371516236
choose_largest = omega (arith, choose_one 301, choose_absorb 301 1, choose_absorb 302 2, choose_absorb 303 3, choose_absorb 304 4, choose_absorb 305 5)

-- one more of both gives no less
choose_both : (a m j : ℕ) → choose (a + m) m ≤ choose (a + (m + j)) (m + j)
choose_both a m zero = let e : m + 0 ≡ m = omega arith in rw e (omega arith)
choose_both a m (suc j) =
    let e : m + suc j ≡ suc (m + j) = omega arith in
    let f : a + suc (m + j) ≡ suc (a + (m + j)) = omega arith in
    rw (e, f) (omega (arith, choose_both a m j, choose_pascal (a + (m + j)) (m + j)))

pub choose_within : (t m : ℕ) → m ≤ 6 → t ≤ 300 + m → choose t m ≤ 1085371516236
choose_within t m h g =
    let e : m + (6 - m) ≡ 6 = omega arith in
    let b : choose (300 + m) m ≤ choose (300 + 6) 6 = rw e at (choose_both 300 m (6 - m)) in
    omega (arith, choose_monotone t (300 + m) m g, choose_largest)
