-- Rule 5: the completed table of an ideal.
--
--   Enters n G u i   at variable i: a monomial outside the ideal of G equals u before i, has one less than u at i,
--                    and enters the ideal when variable i alone is raised enough
--   Completed n G u  u is in the ideal, and `Enters` holds at each variable where u is above 0
--   CompletedTable n G H   H is the completed table of the ideal of G: its rows are exactly those, and they ascend
--   candidate u i g, joined u v   the outside monomial that the test tries; the larger exponents of two monomials
--   largest n G      the largest exponent of the rows of G at each variable
--   completed n G    that table as a list that computes: the monomials that pass, of all whose exponents are at most the largest of G
--
-- With the tests `enters_test`, `completed_test`.
use Rattle.std.specs.Prelude.{◌≡◌, Bool, not, ◌&&◌, [], ◌∷◌, ◌++◌, ℕ, zero, suc, ◌+◌, ◌-◌, ◌<◌, max, ltb, eqb, length, take, drop, replicate}
use Rattle.checks.specs.Tests.{◌implies◌, each, any, keep}
use Rattle.terms.specs.Monomials.{Monomial, Table, ◌!◌, ◌∈◌, SameBefore, times}
use Rattle.terms.specs.Ideal.{Inside, divides_test, inside_test}
use Rattle.terms.specs.Order.{Ascending}
use Rattle.completion.specs.Blocks.{box}

-- ---- the rule

pub record Enters (n : ℕ) (G : Table) (u : Monomial) (i : ℕ) : Type 0 where
  pub from : Monomial
  pub size : length from ≡ n
  pub outside : Inside G from → ⊥
  pub before : SameBefore i from u
  pub less : from ! i + 1 ≡ u ! i
  pub by : ℕ
  pub enters : Inside G (times from i by)

pub record Completed (n : ℕ) (G : Table) (u : Monomial) : Type 0 where
  pub size : length u ≡ n
  pub inside : Inside G u
  pub each : (i : ℕ) → 0 < u ! i → Enters n G u i

pub record CompletedTable (n : ℕ) (G H : Table) : Type 0 where
  pub only : (u : Monomial) → u ∈ H → Completed n G u
  pub all : (u : Monomial) → Completed n G u → u ∈ H
  pub ascends : Ascending H

-- ---- the tests

-- the monomial that is as u before variable i, has one less there, and is as g behind i
unfoldable pub candidate : Monomial → ℕ → Monomial → Monomial
candidate u zero g = g
candidate u (suc i) g = take i u ++ ((u ! suc i - 1) ∷ drop (suc i) g)

-- the outside monomial may be taken to end as a row does, and that row is the one that divides it once it is raised
unfoldable pub enters_test : Table → Monomial → ℕ → Bool
unfolding candidate divides_test inside_test
enters_test G u i = any (λ g. let v = candidate u i g in divides_test g (times v i (g ! i)) && not (inside_test G v)) G

unfoldable pub completed_test : ℕ → Table → Monomial → Bool
unfolding inside_test enters_test
completed_test n G u = eqb (length u) n && (inside_test G u && each n (λ i. ltb 0 (u ! i) implies enters_test G u i))

-- ---- the table

-- the larger exponent of u and v at each variable
unfoldable pub joined : Monomial → Monomial → Monomial
joined [] v = v
joined (a ∷ u) [] = a ∷ u
joined (a ∷ u) (b ∷ v) = max a b ∷ joined u v

-- the largest exponent of the rows of G at each of n variables
unfoldable pub largest : ℕ → Table → Monomial
unfolding joined
largest n [] = replicate n 0
largest n (u ∷ G) = joined u (largest n G)

unfoldable pub completed : ℕ → Table → Table
unfolding completed_test largest box
completed n G = keep (λ u. completed_test n G u) (box (largest n G))
