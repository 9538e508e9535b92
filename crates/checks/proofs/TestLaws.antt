-- Laws of tests: what a test says, and tests made of tests.
--
--   decide, stable         what is tested is decided; so what is not refuted holds
--   tests_true, tests_false, true_tests, false_tests   the Boolean from the rule, and the rule from the Boolean
--   pick_true, pick_false  what the test picks
--   tests_as, tests_same   a test of the same property in other words; two tests of one property are the same Boolean
--   tests_le, -lt, -eq     tests of numbers
--   tests_and, -or, -not, -implies   tests made of tests
--   tests_each, -someBelow, -all, -any   of each number, some number, each element, some element
--   keep_in, keep_make     what is kept: the elements of which the test holds
use mathlib.Core.Path.{◌≡◌, refl, sym, ap, subst}
use mathlib.Core.Bool.{Bool, true, false, not, ◌&&◌, ◌||◌}
use mathlib.Core.List.Memᴰ
use mathlib.Core.List.{List, [], ◌∷◌, Memᴰ}
use mathlib.Core.Logic.{◌⊎◌, inl, inr, ⊎_elim, by_cases}
use Prim.Native.Nat.{ℕ, zero, suc, ◌≤◌, ◌<◌}
use native.Mathlib.Nat.{eq-or-lt_of_le, le_of_suc-le-suc, not-suc-le-zero}
use native.Mathlib.Omega.{arith}
use lib.Dec.{T, leb, eqb, ltb, leb→le, le→leb, eqb→eq, eqb_refl, not_T, T_not}
use Rattle.checks.specs.Tests.{Tests, pick, ◌implies◌, each, SomeBelow, some_below, all, any, keep}

-- ---- what a test says

module _ {b : Bool} {P : Type 0} (t : Tests b P) where
  -- P is decided
  pub decide : Dec P
  decide = go b t.sound t.complete
    where
      go : (c : Bool) → (T c → P) → (P → T c) → Dec P
      go true s c = yes (s tt)
      go false s c = no c

  -- so what is not refuted holds
  pub stable : ((P → ⊥) → ⊥) → P
  stable f = by_cases decide (λ p. p) (λ g. absurd (f g))

  pub tests_true : P → true ≡ b
  tests_true p = go b (t.complete p)
    where
      go : (c : Bool) → T c → true ≡ c
      go true h = refl
      go false h = absurd h

  pub tests_false : (P → ⊥) → false ≡ b
  tests_false f = go b t.sound
    where
      go : (c : Bool) → (T c → P) → false ≡ c
      go true h = absurd (f (h tt))
      go false h = refl

  -- what it picks
  pub pick_true : {A : Type 0} (x y : A) → P → x ≡ pick b x y
  pick_true x y p = ap (λ (c : Bool). pick c x y) (tests_true p)

  pub pick_false : {A : Type 0} (x y : A) → (P → ⊥) → y ≡ pick b x y
  pick_false x y f = ap (λ (c : Bool). pick c x y) (tests_false f)

  pub true_tests : b ≡ true → P
  true_tests e = t.sound (subst T (sym e) tt)

  pub false_tests : b ≡ false → P → ⊥
  false_tests e p = subst T e (t.complete p)

-- a test of a property that the first one says in other words
pub tests_as : {b : Bool} {P Q : Type 0} → Tests b P → (P → Q) → (Q → P) → Tests b Q
tests_as t f g = record { sound = λ h. f (t.sound h); complete = λ q. t.complete (g q) }

-- two tests of one property are the same Boolean
pub tests_same : {P : Type 0} (b c : Bool) → Tests b P → Tests c P → b ≡ c
tests_same true true s t = refl
tests_same true false s t = absurd (t.complete (s.sound tt))
tests_same false true s t = absurd (s.complete (t.sound tt))
tests_same false false s t = refl

-- ---- tests of numbers, and tests made of tests

pub tests_le : (m n : ℕ) → Tests (leb m n) (m ≤ n)
tests_le m n = record { sound = leb→le m n; complete = le→leb m n }

pub tests_lt : (m n : ℕ) → Tests (ltb m n) (m < n)
tests_lt m n = tests_le (suc m) n

pub tests_eq : (m n : ℕ) → Tests (eqb m n) (m ≡ n)
tests_eq m n = record { sound = eqb→eq m n; complete = λ e. subst (λ (k : ℕ). T (eqb m k)) e (eqb_refl m) }

and_left : (b c : Bool) → T (b && c) → T b
and_left true c t = tt
and_left false c t = t

and_right : (b c : Bool) → T (b && c) → T c
and_right true c t = t
and_right false c t = absurd t

and_both : (b c : Bool) → T b → T c → T (b && c)
and_both true c s t = t
and_both false c s t = s

or_use : (b c : Bool) → T (b || c) → T b ⊎ T c
or_use true c t = inl tt
or_use false c t = inr t

or_left : (b c : Bool) → T b → T (b || c)
or_left true c t = tt
or_left false c t = absurd t

or_right : (b c : Bool) → T c → T (b || c)
or_right true c t = tt
or_right false c t = t

implies_use : (b c : Bool) → T (b implies c) → T b → T c
implies_use true c t s = t
implies_use false c t s = absurd s

implies_make : (b c : Bool) → (T b → T c) → T (b implies c)
implies_make true c f = f tt
implies_make false c f = tt

pub tests_and : {b c : Bool} {P Q : Type 0} → Tests b P → (P → Tests c Q) → Tests (b && c) (P × Q)
tests_and {b} {c} s t = record {
  sound = λ h. let p = s.sound (and_left b c h) in (p, (t p).sound (and_right b c h));
  complete = λ p. and_both b c (s.complete p.0) ((t p.0).complete p.1);
}

pub tests_or : {b c : Bool} {P Q : Type 0} → Tests b P → Tests c Q → Tests (b || c) (P ⊎ Q)
tests_or {b} {c} s t = record {
  sound = λ h. ⊎_elim (λ x. inl (s.sound x)) (λ x. inr (t.sound x)) (or_use b c h);
  complete = λ p. ⊎_elim (λ x. or_left b c (s.complete x)) (λ x. or_right b c (t.complete x)) p;
}

pub tests_not : {b : Bool} {P : Type 0} → Tests b P → Tests (not b) (P → ⊥)
tests_not {b} s = record {
  sound = λ h p. T_not b h (s.complete p);
  complete = λ f. not_T b (λ h. f (s.sound h));
}

pub tests_implies : {b c : Bool} {P Q : Type 0} → Tests b P → (P → Tests c Q) → Tests (b implies c) (P → Q)
tests_implies {b} {c} s t = record {
  sound = λ h p. (t p).sound (implies_use b c h (s.complete p));
  complete = λ f. implies_make b c (λ h. (t (s.sound h)).complete (f (s.sound h)));
}

-- ---- each number 1 to n

each_use : (n : ℕ) (f : ℕ → Bool) → T (each n f) → (i : ℕ) → 0 < i → i ≤ n → T (f i)
each_use zero f t i p l = absurd (omega arith)
each_use (suc n) f t i p l = ⊎_elim
    (λ e. subst (λ (k : ℕ). T (f k)) (sym e) (and_left (f (suc n)) (each n f) t))
    (λ h. each_use n f (and_right (f (suc n)) (each n f) t) i p (le_of_suc-le-suc h))
    (eq-or-lt_of_le l)

each_make : (n : ℕ) (f : ℕ → Bool) → ((i : ℕ) → 0 < i → i ≤ n → T (f i)) → T (each n f)
each_make zero f h = tt
each_make (suc n) f h =
    and_both (f (suc n)) (each n f) (h (suc n) (omega arith) (omega arith)) (each_make n f (λ i p l. h i p (omega arith)))

pub tests_each : (n : ℕ) {f : ℕ → Bool} {P : ℕ → Type 0} → ((i : ℕ) → Tests (f i) (P i)) → Tests (each n f) ((i : ℕ) → 0 < i → i ≤ n → P i)
tests_each n {f} t = record {
  sound = λ h i p l. (t i).sound (each_use n f h i p l);
  complete = λ h. each_make n f (λ i p l. (t i).complete (h i p l));
}

-- ---- some number below a bound

-- the last of them, or one before it
pub tests_some_below : (n : ℕ) {f : ℕ → Bool} {P : ℕ → Type 0} → ((j : ℕ) → Tests (f j) (P j)) → Tests (some_below n f) (SomeBelow n P)
tests_some_below zero t = record { sound = λ h. absurd h; complete = λ s. not-suc-le-zero s.1 }
tests_some_below (suc n) {f} {P} t = tests_as (tests_or (t n) (tests_some_below n {f = f} {P = P} t)) join part
  where
    join : P n ⊎ SomeBelow n P → SomeBelow (suc n) P
    join s = ⊎_elim (λ p. (n, omega arith, p)) (λ r. (r.0, omega (arith, r.1), r.2)) s

    part : SomeBelow (suc n) P → P n ⊎ SomeBelow n P
    part r = ⊎_elim
        (λ e. inl (subst (λ (k : ℕ). P k) e r.2))
        (λ l. inr (r.0, l, r.2))
        (eq-or-lt_of_le (le_of_suc-le-suc r.1))

-- ---- each element, some element, the elements kept

module _ {A : Type 0} where
  all_use : (f : A → Bool) (l : List A) → T (all f l) → (x : A) → Memᴰ x l → T (f x)
  all_use f [] t x m = absurd (Memᴰ.not-nil m)
  all_use f (y ∷ l) t x m = ⊎_elim
      (λ e. subst (λ (k : A). T (f k)) (sym e) (and_left (f y) (all f l) t))
      (λ i. all_use f l (and_right (f y) (all f l) t) x i)
      (Memᴰ.cases_cons m)

  all_make : (f : A → Bool) (l : List A) → ((x : A) → Memᴰ x l → T (f x)) → T (all f l)
  all_make f [] h = tt
  all_make f (y ∷ l) h =
      and_both (f y) (all f l) (h y (Memᴰ.head refl)) (all_make f l (λ x m. h x (Memᴰ.tail m)))

  pub tests_all : (l : List A) {f : A → Bool} {P : A → Type 0} → ((x : A) → Memᴰ x l → Tests (f x) (P x)) → Tests (all f l) ((x : A) → Memᴰ x l → P x)
  tests_all l {f} t = record {
    sound = λ h x m. (t x m).sound (all_use f l h x m);
    complete = λ h. all_make f l (λ x m. (t x m).complete (h x m));
  }

  any_use : (f : A → Bool) (l : List A) → T (any f l) → (x : A) × Memᴰ x l × T (f x)
  any_use f [] t = absurd t
  any_use f (y ∷ l) t = ⊎_elim
      (λ h. (y, Memᴰ.head refl, h))
      (λ h. let r = any_use f l h in (r.0, Memᴰ.tail r.1, r.2))
      (or_use (f y) (any f l) t)

  any_make : (f : A → Bool) (l : List A) (x : A) → Memᴰ x l → T (f x) → T (any f l)
  any_make f [] x m t = absurd (Memᴰ.not-nil m)
  any_make f (y ∷ l) x m t = ⊎_elim
      (λ e. or_left (f y) (any f l) (subst (λ (k : A). T (f k)) e t))
      (λ i. or_right (f y) (any f l) (any_make f l x i t))
      (Memᴰ.cases_cons m)

  pub tests_any : (l : List A) {f : A → Bool} {P : A → Type 0} → ((x : A) → Memᴰ x l → Tests (f x) (P x)) → Tests (any f l) ((x : A) × Memᴰ x l × P x)
  tests_any l {f} t = record {
    sound = λ h. let r = any_use f l h in (r.0, r.1, (t r.0 r.1).sound r.2);
    complete = λ r. any_make f l r.0 r.1 ((t r.0 r.1).complete r.2);
  }

  pub keep_in : (f : A → Bool) (l : List A) (x : A) → Memᴰ x (keep f l) → Memᴰ x l × T (f x)
  keep_in f [] x m = absurd (Memᴰ.not-nil m)
  keep_in f (y ∷ l) x m = go (f y) (λ t. t) m (keep_in f l x)
    where
      go : (c : Bool) → (T c → T (f y)) → Memᴰ x (pick c (y ∷ keep f l) (keep f l)) → (Memᴰ x (keep f l) → Memᴰ x l × T (f x))
          → Memᴰ x (y ∷ l) × T (f x)
      go true s k h = ⊎_elim
          (λ e. (Memᴰ.head e, subst (λ (z : A). T (f z)) (sym e) (s tt)))
          (λ i. (Memᴰ.tail (h i).0, (h i).1))
          (Memᴰ.cases_cons k)
      go false s k h = (Memᴰ.tail (h k).0, (h k).1)

  pub keep_make : (f : A → Bool) (l : List A) (x : A) → Memᴰ x l → T (f x) → Memᴰ x (keep f l)
  keep_make f [] x m t = absurd (Memᴰ.not-nil m)
  keep_make f (y ∷ l) x m t = go (f y) (λ s. s) (Memᴰ.cases_cons m) (λ k. keep_make f l x k t)
    where
      go : (c : Bool) → (T (f y) → T c) → (x ≡ y) ⊎ Memᴰ x l → (Memᴰ x l → Memᴰ x (keep f l)) → Memᴰ x (pick c (y ∷ keep f l) (keep f l))
      go true s (inl e) h = Memᴰ.head e
      go true s (inr k) h = Memᴰ.tail (h k)
      go false s (inl e) h = absurd (s (subst (λ (z : A). T (f z)) e t))
      go false s (inr k) h = h k
