-- Refusals: numbers, their conditions, and the order in which they are tried.
--
--   Check            a number with its condition, and the test of that condition
--   check            a check from its number and the test of its condition
--   refusal checks   the number of the first check whose condition holds, 0 where none does
--   Accepts checks   no condition holds
--   Refuses checks m   m is given: its condition holds, and none earlier in the order does
--   answered checks x z   x where no check refuses, z where one does: what an operation gives beside its number
--   numbered m refused given   the answer whose number is m: `given` where m is 0, `refused m` otherwise
--
-- An operation's checks are a list, in the order of the paper.
use Rattle.std.specs.Prelude.{◌≡◌, Bool, ℕ, zero, suc, ◌<◌, eqb}
use mathlib.Core.List.{List, [], ◌∷◌, ◌++◌, Memᴰ}
use Rattle.checks.specs.Tests.{Tests, pick}

pub record Check : Type 1 where
  pub number : ℕ
  pub positive : 0 < number
  pub Condition : Type 0
  pub test : Bool
  pub agrees : Tests test Condition

unfoldable pub refusal : List Check → ℕ
refusal [] = 0
refusal (c ∷ checks) = pick c.test c.number (refusal checks)

abbrev pub Accepts : List Check → Type 1
Accepts checks = (c : Check) → Memᴰ c checks → c.Condition → ⊥

pub record Refuses (checks : List Check) (m : ℕ) : Type 1 where
  pub earlier : List Check
  pub check : Check
  pub later : List Check
  pub order : checks ≡ earlier ++ (check ∷ later)
  pub number : check.number ≡ m
  pub holds : check.Condition
  pub none : Accepts earlier

-- the check that gives m where P holds
abbrev pub check : (m : ℕ) {b : Bool} {P : Type 0} → 0 < m → Tests b P → Check
check m {b} {P} p t = record { number = m; positive = p; Condition = P; test = b; agrees = t }

unfoldable pub answered : {A : Type 0} → List Check → A → A → A
unfolding refusal
answered checks x z = pick (eqb (refusal checks) 0) x z

abbrev pub numbered : {A : Type 0} → ℕ → (ℕ → A) → A → A
numbered zero refused given = given
numbered (suc m) refused given = refused (suc m)
