-- Tests: a Boolean beside a rule, true exactly where the rule holds.
--
--   Tests b P        the Boolean b is true exactly where P holds
--   pick b x y       x where b is true, y where it is false
--   b implies c      the Boolean of 'if b then c'
--   each n f         f holds of each number 1 to n
--   SomeBelow n P, some_below n f  P holds of some number below n, and its test
--   all f l, any f l   f holds of each element of l, of some element
--   keep f l         the elements of l of which f holds, in their order
--
-- A rule is a type in the paper's words. Its test computes, and one law `tests-..` says that both agree: readers read
-- the rule, contracts cite the test, and cases can be taken.
use Rattle.std.specs.Prelude.{Bool, true, false, ◌&&◌, ◌||◌, List, [], ◌∷◌, ℕ, zero, suc, ◌<◌, T}

infixr 25 ◌implies◌
pub record Tests (b : Bool) (P : Type 0) : Type 0 where
  pub sound : T b → P
  pub complete : P → T b

abbrev pub pick {ℓ} : {A : Type ℓ} → Bool → A → A → A
pick true x y = x
pick false x y = y

abbrev pub ◌implies◌ : Bool → Bool → Bool
true implies c = c
false implies c = true

abbrev pub each : ℕ → (ℕ → Bool) → Bool
each zero f = true
each (suc n) f = f (suc n) && each n f

abbrev pub SomeBelow : ℕ → (ℕ → Type 0) → Type 0
SomeBelow n P = (j : ℕ) × (j < n) × P j

abbrev pub some_below : ℕ → (ℕ → Bool) → Bool
some_below zero f = false
some_below (suc n) f = f n || some_below n f

module _ {A : Type 0} where
  abbrev pub all : (A → Bool) → List A → Bool
  all f [] = true
  all f (x ∷ l) = f x && all f l

  abbrev pub any : (A → Bool) → List A → Bool
  any f [] = false
  any f (x ∷ l) = f x || any f l

  abbrev pub keep : (A → Bool) → List A → List A
  keep f [] = []
  keep f (x ∷ l) = pick (f x) (x ∷ keep f l) (keep f l)
