-- Laws of sums over lists, and of how many elements a test keeps.
--
--   bit b            1 where b is true, 0 where it is false
--   sum_append, sum_add, sum_zero, sum_same, sum_map, sum_swap, sum_le   sums
--   length_keep      the number of elements kept is the sum of the bits
--   sum_keep         elements that add nothing may be dropped
--   keep_or_not      those kept and those not kept are all
--   one_at_most      where no two places pass, the sum of the bits is the bit of 'some element passes'
use mathlib.Core.Path.{◌≡◌, refl, sym, ap₂, ◌∙◌, subst}
use mathlib.Core.Bool.{Bool, true, false, not, ◌||◌}
use mathlib.Core.List.{List, [], ◌∷◌, ◌++◌, map, Memᴰ}
use Prim.Native.Nat.{ℕ, suc, ◌+◌, ◌*◌, ◌≤◌, ◌<◌}
use native.Mathlib.Nat.{suc_inj}
use native.Mathlib.Omega.{arith}
use lib.Dec.{T}
use lib.ListN.{length, get_or}
use lib.IntN.{ℤ, pos, ◌+ℤ◌, pos-+ℤ-pos}
use Rattle.checks.specs.Tests.{pick, any, keep}
use Rattle.terms.proofs.RowsLaws.{member_index}
use Rattle.counts.specs.Counts.{sum, sumℤ}

abbrev pub bit : Bool → ℕ
bit true = 1
bit false = 0

pub bit_false : (b : Bool) → (T b → ⊥) → bit b ≡ 0
bit_false true h = absurd (h tt)
bit_false false h = refl

pub bit_not : (b : Bool) → bit (not b) + bit b ≡ 1
bit_not true = refl
bit_not false = refl

module _ {A : Type 0} where
  pub sum_append : (f : A → ℕ) (l r : List A) → sum f (l ++ r) ≡ sum f l + sum f r
  unfolding sum
  sum_append f [] r = omega arith
  sum_append f (x ∷ l) r = omega (arith, sum_append f l r)

  pub sum_add : (f g : A → ℕ) (l : List A) → sum (λ x. f x + g x) l ≡ sum f l + sum g l
  unfolding sum
  sum_add f g [] = refl
  sum_add f g (x ∷ l) = omega (arith, sum_add f g l)

  pub sum_zero : (l : List A) → sum (λ x. 0) l ≡ 0
  unfolding sum
  sum_zero [] = refl
  sum_zero (x ∷ l) = omega (arith, sum_zero l)

  pub sum_same : (f g : A → ℕ) (l : List A) → ((x : A) → Memᴰ x l → f x ≡ g x) → sum f l ≡ sum g l
  unfolding sum
  sum_same f g [] h = refl
  sum_same f g (x ∷ l) h = omega (arith, h x (Memᴰ.head refl), sum_same f g l (λ y m. h y (Memᴰ.tail m)))

  -- a sum of which no term exceeds b
  pub sum_le : (f : A → ℕ) (b : ℕ) (l : List A) → ((x : A) → Memᴰ x l → f x ≤ b) → sum f l ≤ length l * b
  unfolding sum
  sum_le f b [] h = omega arith
  sum_le f b (x ∷ l) h = omega (arith, h x (Memᴰ.head refl), sum_le f b l (λ y m. h y (Memᴰ.tail m)))

  -- a sum of numbers that are not negative
  pub sumℤ_pos : (f : A → ℤ) (g : A → ℕ) (l : List A) → ((x : A) → Memᴰ x l → f x ≡ pos (g x)) → sumℤ f l ≡ pos (sum g l)
  unfolding sumℤ sum
  sumℤ_pos f g [] h = refl
  sumℤ_pos f g (x ∷ l) h = ap₂ ◌+ℤ◌ (h x (Memᴰ.head refl)) (sumℤ_pos f g l (λ y m. h y (Memᴰ.tail m))) ∙ pos-+ℤ-pos (g x) (sum g l)

  pub length_keep : (f : A → Bool) (l : List A) → length (keep f l) ≡ sum (λ x. bit (f x)) l
  unfolding sum
  length_keep f [] = refl
  length_keep f (x ∷ l) = go (f x) (length_keep f l)
    where
      go : (b : Bool) → length (keep f l) ≡ sum (λ y. bit (f y)) l → length (pick b (x ∷ keep f l) (keep f l)) ≡ bit b + sum (λ y. bit (f y)) l
      go true e = omega arith
      go false e = omega arith

  -- what is not kept adds nothing
  pub sum_keep : (g : A → ℕ) (f : A → Bool) (l : List A) → ((x : A) → (T (f x) → ⊥) → g x ≡ 0) → sum g (keep f l) ≡ sum g l
  unfolding sum
  sum_keep g f [] h = refl
  sum_keep g f (x ∷ l) h = go (f x) (λ t. t) (sum_keep g f l h)
    where
      go : (c : Bool) → (T (f x) → T c) → sum g (keep f l) ≡ sum g l → sum g (pick c (x ∷ keep f l) (keep f l)) ≡ g x + sum g l
      go true s e = omega arith
      go false s e = omega (arith, h x s)

  pub keep_or_not : (f : A → Bool) (l : List A) → length (keep (λ x. not (f x)) l) + length (keep f l) ≡ length l
  keep_or_not f [] = refl
  keep_or_not f (x ∷ l) = go (f x) (keep_or_not f l)
    where
      go : (b : Bool) → length (keep (λ y. not (f y)) l) + length (keep f l) ≡ length l
          → length (pick (not b) (x ∷ keep (λ y. not (f y)) l) (keep (λ y. not (f y)) l)) + length (pick b (x ∷ keep f l) (keep f l)) ≡ suc (length l)
      go true e = omega arith
      go false e = omega arith

  -- By induction: where the first element passes, no later one does, and the rest sums to 0.
  pub one_at_most : (f : A → Bool) (d : A) (l : List A)
      → ((r s : ℕ) → r < length l → s < length l → (r ≡ s → ⊥) → T (f (get_or l r d)) → T (f (get_or l s d)) → ⊥) → sum (λ x. bit (f x)) l ≡ bit (any f l)
  unfolding sum
  one_at_most f d [] h = refl
  one_at_most f d (x ∷ l) h = go (f x) (λ t. t) (one_at_most f d l (λ r s p q e. h (suc r) (suc s) (omega arith) (omega arith) (λ g. e (suc_inj g))))
    where
      go : (b : Bool) → (T b → T (f x)) → sum (λ y. bit (f y)) l ≡ bit (any f l) → bit b + sum (λ y. bit (f y)) l ≡ bit (b || any f l)
      go true s e =
          let none : sum (λ y. bit (f y)) l ≡ 0 = sum_same (λ y. bit (f y)) (λ y. 0) l (λ y m. bit_false (f y) (λ t.
          let p = member_index l d y m in
          h 0 (suc p.0) (omega arith) (omega (arith, p.1)) (λ g. absurd (omega arith)) (s tt) (subst (λ (z : A). T (f z)) (sym p.2) t))) ∙ sum_zero l in
          omega arith
      go false s e = omega arith

module _ {A B : Type 0} where
  pub sum_map : (f : B → ℕ) (g : A → B) (l : List A) → sum f (map g l) ≡ sum (λ x. f (g x)) l
  unfolding sum
  sum_map f g [] = refl
  sum_map f g (x ∷ l) = omega (arith, sum_map f g l)

  -- the order of two sums
  pub sum_swap : (f : A → B → ℕ) (l : List A) (r : List B) → sum (λ x. sum (λ y. f x y) r) l ≡ sum (λ y. sum (λ x. f x y) l) r
  unfolding sum
  sum_swap f [] r = sym (sum_zero r)
  sum_swap f (x ∷ l) r = omega (arith, sum_swap f l r, sum_add (λ y. f x y) (λ y. sum (λ z. f z y) l) r)
