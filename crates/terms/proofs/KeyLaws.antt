-- Laws of rows as numbers.
--
--   key_same, key_less     where the numbers are equal the exponents are; the row with the smaller number precedes the other
--   key_of_six             the number of a row from six bytes: those behind the row are dropped
--   read_of_six            and six bytes as the machine reads them
--   Front, front_first, front_next, front_done, front_none   rows told one after the other to ascend, by their numbers
--   front_more             one row more, by the test of the order
use mathlib.Core.Path.{◌≡◌, refl, sym, ap, ◌∙◌, subst}
use mathlib.Core.Bool.{true}
use mathlib.Core.List.{List, [], ◌∷◌}
use Rattle.std.specs.Int.{w64, from_be_bytes}
use mathlib.Core.Logic.{⊎_elim, by_cases}
use Prim.Native.Nat.{ℕ, zero, suc, ◌+◌, ◌*◌, ◌-◌, ◌/◌, ◌^◌, ◌≤◌, ◌<◌}
use native.Mathlib.Nat.{le_of_suc-le-suc, eq-or-lt_of_le, add-mul}
use native.Mathlib.Decide.{dec_lt}
use native.Mathlib.Omega.{arith}
use lib.Dec.{T}
use lib.ListN.{length, take, drop, get_or}
use Rattle.terms.specs.Monomials.{Monomial, ◌!◌, row_at, AtMost}
use Rattle.terms.specs.Order.{Precedes, precedes_test}
use Rattle.terms.specs.Rows.{rows}
use Rattle.terms.specs.Keys.{row_key, FrontAscends}
use Rattle.terms.proofs.OrderLaws.{tests_precedes}
use Rattle.terms.proofs.RowsLaws.{rows_at}
use Rattle.terms.proofs.LoopLaws.{byte_within, byte_past}

-- ---- the order of numbers

module _ (u v : Monomial) (small : AtMost 255 u) (small' : AtMost 255 v) where
  pub key_same : (i : ℕ) → row_key u i ≡ row_key v i → (j : ℕ) → j ≤ i → u ! j ≡ v ! j
  unfolding row_key
  key_same zero e j l = let z : 0 ≡ j = omega arith in subst (λ (k : ℕ). u ! k ≡ v ! k) z refl
  key_same (suc i) e j l = ⊎_elim
      (λ z. subst (λ (k : ℕ). u ! k ≡ v ! k) (sym z) (omega (arith, e, small (suc i), small' (suc i))))
      (λ h. key_same i (omega (arith, e, small (suc i), small' (suc i))) j (le_of_suc-le-suc h))
      (eq-or-lt_of_le l)

  -- the first digit in which they differ decides
  pub key_less : (i : ℕ) → row_key u i < row_key v i → Precedes u v
  unfolding row_key
  key_less zero h = absurd (omega arith)
  key_less (suc i) h = by_cases (dec_lt (row_key u i) (row_key v i)) (key_less i) (λ g. record {
    at = suc i;
    same = λ j l. key_same i (omega (arith, h, small (suc i), small' (suc i))) j (le_of_suc-le-suc l);
    less = omega (arith, h, small (suc i), small' (suc i));
  })

-- ---- six bytes

-- one case for each n: the digits behind the n-th fall away
pub key_of_six : (n : ℕ) → 0 < n → n ≤ 6 → (w : Monomial) (a b c d e f : ℕ) → (a < 256) × (b < 256) × (c < 256) × (d < 256) × (e < 256) × (f < 256)
    → (0 < n → a ≡ w ! 1) × (1 < n → b ≡ w ! 2) × (2 < n → c ≡ w ! 3) × (3 < n → d ≡ w ! 4) × (4 < n → e ≡ w ! 5) × (5 < n → f ≡ w ! 6)
    → (((((a * 256 + b) * 256 + c) * 256 + d) * 256 + e) * 256 + f) / 2 ^ (48 - 8 * n) ≡ row_key w n
unfolding row_key
key_of_six zero p l w a b c d e f s q = absurd (omega arith)
key_of_six (suc zero) p l w a b c d e f s q = omega (arith, s, q.0 (omega arith))
key_of_six (suc (suc zero)) p l w a b c d e f s q = omega (arith, s, q.0 (omega arith), q.1 (omega arith))
key_of_six (suc (suc (suc zero))) p l w a b c d e f s q = omega (arith, s, q.0 (omega arith), q.1 (omega arith), q.2 (omega arith))
key_of_six (suc (suc (suc (suc zero)))) p l w a b c d e f s q =
    omega (arith, s, q.0 (omega arith), q.1 (omega arith), q.2 (omega arith), q.3 (omega arith))
key_of_six (suc (suc (suc (suc (suc zero))))) p l w a b c d e f s q =
    omega (arith, s, q.0 (omega arith), q.1 (omega arith), q.2 (omega arith), q.3 (omega arith), q.4 (omega arith))
key_of_six (suc (suc (suc (suc (suc (suc zero)))))) p l w a b c d e f s q =
    omega (arith, s, q.0 (omega arith), q.1 (omega arith), q.2 (omega arith), q.3 (omega arith), q.4 (omega arith), q.5 (omega arith))
key_of_six (suc (suc (suc (suc (suc (suc (suc n))))))) p l w a b c d e f s q = absurd (omega arith)

-- what the machine reads as a number, high byte first
pub read_of_six : (a b c d e f : ℕ) → from_be_bytes w64 (0 ∷ 0 ∷ a ∷ b ∷ c ∷ d ∷ e ∷ f ∷ []) ≡ ((((a * 256 + b) * 256 + c) * 256 + d) * 256 + e) * 256 + f
read_of_six a b c d e f = omega arith

-- ---- row after row

-- the exponents of a row are bytes
bytes_small : (n at : ℕ) (t : List ℕ) → ((i : ℕ) → get_or t i 0 < 256) → at + n ≤ length t → AtMost 255 (take n (drop at t))
bytes_small n at t f l zero = omega arith
bytes_small n at t f l (suc i) = by_cases (dec_lt i n)
    (λ h. omega (arith, byte_within n at i t h, f (at + i)))
    (λ g. omega (arith, byte_past n at i t (omega arith) l))

-- row k − 1 has that number, six bytes are there from its start on, and the rows up to it ascend; row k begins at the place
pub record Front (n : ℕ) (t : List ℕ) (before k at : ℕ) : Type 0 where
  pub some : 0 < k
  pub place : at ≡ k * n
  pub within : (k - 1) * n + 6 ≤ length t
  pub key : before ≡ row_key (take n (drop ((k - 1) * n) t)) n
  pub ascends : (r : ℕ) → suc r < k → Precedes (take n (drop (r * n) t)) (take n (drop (suc r * n) t))

pub front_first : (n : ℕ) (t : List ℕ) (before : ℕ) → 6 ≤ length t → before ≡ row_key (take n (drop 0 t)) n → Front n t before 1 n
front_first n t before l e =
    let z : (1 - 1) * n ≡ 0 = omega arith in
    record {
      some = omega arith;
      place = omega arith;
      within = rw z (omega arith);
      key = rw z e;
      ascends = λ r h. absurd (omega arith);
    }

module _ {n : ℕ} {t : List ℕ} {before k at : ℕ} (front : Front n t before k at) where
  -- the next row has a greater number
  pub front_next : ((i : ℕ) → get_or t i 0 < 256) → n ≤ 6 → at + 6 ≤ length t → (key : ℕ) → key ≡ row_key (take n (drop at t)) n → before < key
      → Front n t key (k + 1) (at + n)
  front_next f six l key e h =
      let here : suc (k - 1) * n ≡ at = ap (λ (x : ℕ). x * n) (omega (arith, front.some)) ∙ sym front.place in
      let next : (k + 1 - 1) * n ≡ at = ap (λ (x : ℕ). x * n) (omega arith) ∙ sym front.place in
      let last : Precedes (take n (drop ((k - 1) * n) t)) (take n (drop (suc (k - 1) * n) t)) =
      rw here (key_less (take n (drop ((k - 1) * n) t)) (take n (drop at t)) (bytes_small n ((k - 1) * n) t f (omega (arith, front.within)))
      (bytes_small n at t f (omega arith)) n (omega (arith, front.key))) in
      record {
        some = omega arith;
        place = omega (arith, front.place, add-mul k 1 n);
        within = rw next l;
        key = rw next e;
        ascends = λ r g. by_cases (dec_lt (suc r) k) (front.ascends r)
            (λ o. let x : k - 1 ≡ r = omega arith in subst (λ (m : ℕ). Precedes (take n (drop (m * n) t)) (take n (drop (suc m * n) t))) x last);
      }

  pub front_done : FrontAscends n t k
  front_done = record {
    some = front.some;
    ascends = λ r h l. rw (rows_at n t r (omega arith), rows_at n t (suc r) l) (front.ascends r h);
  }

-- the first row alone
pub front_none : (n : ℕ) (t : List ℕ) → FrontAscends n t 1
front_none n t = record { some = omega arith; ascends = λ r h l. absurd (omega arith) }

-- one row more, told by the test of the order
pub front_more : {n : ℕ} {t : List ℕ} {k : ℕ} → FrontAscends n t k → true ≡ precedes_test (row_at (rows n t) (k - 1)) (row_at (rows n t) (suc (k - 1)))
    → FrontAscends n t (k + 1)
front_more {n} {t} {k} front e = record {
  some = omega arith;
  ascends = λ r h l. by_cases (dec_lt (suc r) k) (λ g. front.ascends r g l) (λ g.
      let x : k - 1 ≡ r = omega (arith, front.some) in
      subst (λ (m : ℕ). Precedes (row_at (rows n t) m) (row_at (rows n t) (suc m))) x
      ((tests_precedes (row_at (rows n t) (k - 1)) (row_at (rows n t) (suc (k - 1)))).sound (subst T e tt)));
}
