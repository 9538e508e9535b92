-- Pascal's rule, tested once over all entries of the table, and carried to each entry.
--
--   right_at k p x y   what the rule says of the entry y at the place 7 + k: 1 at a bottom of 0, else the sum of the entry x
--                    above it and the entry p before that
--   walk             the test over the entries and the entries seven places on, side by side: each entry is looked at once
--   tested           the test, computed over the whole table
--   entry            the law: the entry at top * 7 + bottom is the binomial
use mathlib.Core.Path.{◌≡◌, refl, sym, ap, ◌∙◌}
use mathlib.Core.List.{List, [], ◌∷◌}
use mathlib.Core.Bool.{Bool, true, false, ◌&&◌}
use Prim.Native.Nat.{ℕ, zero, suc, ◌+◌, ◌*◌, ◌%◌, ◌<◌, ◌≤◌}
use native.Mathlib.Nat.{add-zero, zero-add, le_of_suc-le-suc, not-suc-le-zero}
use native.Mathlib.Omega.{arith}
use borrow.Author.Tests.{eq-eqb, ne_eqb}
use lib.Seq.{get_or-drop}
use lib.Dec.{T, eqb, eqb→eq}
use lib.ListN.{length, get_or, drop}
use Rattle.binomial.specs.Choose.{choose}
use Rattle.binomial.proofs.Numbers.{numbers}

pick : Bool → ℕ → ℕ → ℕ
pick true a b = a
pick false a b = b

right_at : ℕ → ℕ → ℕ → ℕ → Bool
right_at k p x y = eqb y (pick (eqb (k % 7) 0) 1 (p + x))

walk : ℕ → ℕ → List ℕ → List ℕ → Bool
walk k p xs [] = true
walk k p [] (y ∷ ys) = false
walk k p (x ∷ xs) (y ∷ ys) = right_at k p x y && walk (suc k) x xs ys

tested : T (walk 0 0 numbers (drop 7 numbers))
unfolding numbers right_at pick walk
tested = tt

-- ---- from the test to each entry

and_left : (b c : Bool) → T (b && c) → T b
and_left true c t = tt
and_left false c t = t

and_right : (b c : Bool) → T (b && c) → T c
and_right true c t = t
and_right false c t = absurd t

at_place : (k p : ℕ) (xs ys : List ℕ) → T (walk k p xs ys) → (j : ℕ) → j < length ys → T (right_at (k + j) (get_or (p ∷ xs) j 0) (get_or xs j 0) (get_or ys j 0))
unfolding walk
at_place k p xs [] t j h = absurd (not-suc-le-zero h)
at_place k p [] (y ∷ ys) t j h = absurd t
at_place k p (x ∷ xs) (y ∷ ys) t zero h = rw (add-zero k) (and_left (right_at k p x y) (walk (suc k) x xs ys) t)
at_place k p (x ∷ xs) (y ∷ ys) t (suc j) h =
    let e : k + suc j ≡ suc k + j = omega arith in
    rw e (at_place (suc k) x xs ys (and_right (right_at k p x y) (walk (suc k) x xs ys) t) j (le_of_suc-le-suc h))

length_rest : length (drop 7 numbers) ≡ 2142
unfolding numbers
length_rest = refl

by_rule : (j : ℕ) → j < 2142 → get_or numbers (7 + j) 0 ≡ pick (eqb (j % 7) 0) 1 (get_or (0 ∷ numbers) j 0 + get_or numbers j 0)
unfolding right_at
by_rule j h =
    sym (get_or-drop 7 numbers j 0) ∙ eqb→eq _ _ (rw (zero-add j) at (at_place 0 0 numbers (drop 7 numbers) tested j (rw length_rest h)))

top_zero : (b : ℕ) → b ≤ 6 → get_or numbers b 0 ≡ choose 0 b
unfolding numbers choose
top_zero zero h = refl
top_zero (suc zero) h = refl
top_zero (suc (suc zero)) h = refl
top_zero (suc (suc (suc zero))) h = refl
top_zero (suc (suc (suc (suc zero)))) h = refl
top_zero (suc (suc (suc (suc (suc zero))))) h = refl
top_zero (suc (suc (suc (suc (suc (suc zero)))))) h = refl
top_zero (suc (suc (suc (suc (suc (suc (suc b))))))) h = absurd (omega arith)

-- By induction on the top: the entry at 7 + j is made of the entries at j and before j by the rule that defines `choose`.
pub entry : (t b : ℕ) → t ≤ 306 → b ≤ 6 → get_or numbers (t * 7 + b) 0 ≡ choose t b
unfolding choose pick
entry zero b ht hb = let e : 0 * 7 + b ≡ b = omega arith in rw e (top_zero b hb)
entry (suc t) zero ht hb =
    let e : suc t * 7 + 0 ≡ 7 + (t * 7) = omega arith in
    let m : (t * 7) % 7 ≡ 0 = omega arith in
    ap (λ (k : ℕ). get_or numbers k 0) e ∙ by_rule (t * 7) (omega arith) ∙ rw (eq-eqb ((t * 7) % 7) 0 m)
entry (suc t) (suc b) ht hb =
    let e : suc t * 7 + suc b ≡ 7 + (t * 7 + suc b) = omega arith in
    let m : (t * 7 + suc b) % 7 ≡ 0 → ⊥ = λ z. omega arith in
    let s : t * 7 + suc b ≡ suc (t * 7 + b) = omega arith in
    ap (λ (k : ℕ). get_or numbers k 0) e ∙ by_rule (t * 7 + suc b) (omega arith) ∙ rw (ne_eqb ((t * 7 + suc b) % 7) 0 m)
    (ap (λ (k : ℕ). get_or (0 ∷ numbers) k 0 + get_or numbers (t * 7 + suc b) 0) s ∙ rw (entry t b (omega arith) (omega arith), entry t (suc b) (omega arith) hb))
