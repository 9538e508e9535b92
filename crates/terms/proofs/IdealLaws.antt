-- Laws of rule 1: its tests decide it; divisibility is an order, and the ideal is kept by raising.
--
--   tests_divides, tests_inside   the tests agree with the rule
--   divides_refl, divides_trans   divisibility is reflexive and transitive
--   inside_up              what a monomial of the ideal divides is in the ideal
--   inside_none            an empty table has an empty ideal
--   inside_zeros           a row of zeros gives every monomial
--   same_ideal_refl, -sym, -trans, same_ideal_rows
--   failure_unique, failure_test   there is one first failure, and none exactly where u divides q
use mathlib.Core.Path.{◌≡◌, refl, ap}
use mathlib.Core.Bool.{not}
use mathlib.Core.List.Memᴰ
use mathlib.Core.List.{[]}
use mathlib.Core.Logic.{by_cases}
use Rattle.std.specs.Prelude.{Option, None, Some, is_some}
use Rattle.terms.specs.declared.Variable.{Variable}
use Prim.Native.Nat.{ℕ}
use native.Mathlib.Decide.{dec_le, dec_lt}
use native.Mathlib.Omega.{arith}
use lib.ListN.{length}
use Rattle.checks.specs.Tests.{Tests}
use Rattle.checks.proofs.TestLaws.{decide, tests_as, tests_le, tests_each, tests_any, tests_true, tests_false}
use Rattle.terms.specs.Monomials.{Monomial, Table, ◌!◌, ◌∈◌}
use Rattle.terms.specs.Ideal.{Divides, Inside, SameIdeal, FirstFailure, divides_test, inside_test}
use Rattle.terms.proofs.MonomialLaws.{beyond, positive}

-- at what is no variable of u it has exponent 0, so u's own variables decide
pub tests_divides : (u q : Monomial) → Tests (divides_test u q) (Divides u q)
unfolding divides_test
tests_divides u q = tests_as (tests_each (length u) (λ (i : ℕ). tests_le (u ! i) (q ! i)))
    (λ d i. by_cases (dec_le (u ! i) (q ! i)) (λ l. l) (λ g.
    by_cases (dec_lt (length u) i) (λ h. omega (arith, beyond u i h)) (λ h. d i (positive u i (omega arith)) (omega arith))))
    (λ d i p l. d i)

pub tests_inside : (G : Table) (q : Monomial) → Tests (inside_test G q) (Inside G q)
unfolding inside_test
tests_inside G q = tests_as (tests_any G (λ (u : Monomial) m. tests_divides u q))
    (λ r. record { row = r.0; member = r.1; divides = r.2 })
    (λ h. (h.row, h.member, h.divides))

pub inside? : (G : Table) (q : Monomial) → Dec (Inside G q)
inside? G q = decide (tests_inside G q)

pub divides_refl : (u : Monomial) → Divides u u
divides_refl u i = omega arith

pub divides_trans : (u v w : Monomial) → Divides u v → Divides v w → Divides u w
divides_trans u v w d e i = omega (arith, d i, e i)

pub inside_up : {G : Table} {q r : Monomial} → Inside G q → Divides q r → Inside G r
inside_up {q = q} {r = r} h d = record { row = h.row; member = h.member; divides = divides_trans h.row q r h.divides d }

pub inside_row_lem : {G : Table} {u : Monomial} → u ∈ G → Inside G u
inside_row_lem {u = u} m = record { row = u; member = m; divides = divides_refl u }

pub inside_none : (q : Monomial) → Inside [] q → ⊥
inside_none q h = Memᴰ.not-nil h.member

pub inside_zeros : (G : Table) (u q : Monomial) → u ∈ G → ((i : ℕ) → u ! i ≡ 0) → Inside G q
inside_zeros G u q m z = record { row = u; member = m; divides = λ i. omega (arith, z i) }

-- ---- the same ideal

pub same_ideal_refl : (n : ℕ) (G : Table) → SameIdeal n G G
same_ideal_refl n G = record { into = λ q e h. h; back = λ q e h. h }

pub same_ideal_sym : {n : ℕ} {G H : Table} → SameIdeal n G H → SameIdeal n H G
same_ideal_sym s = record { into = s.back; back = s.into }

pub same_ideal_trans : {n : ℕ} {G H K : Table} → SameIdeal n G H → SameIdeal n H K → SameIdeal n G K
same_ideal_trans s t = record { into = λ q e h. t.into q e (s.into q e h); back = λ q e h. s.back q e (t.back q e h) }

-- tables whose rows are in each other's ideal have the same ideal
pub same_ideal_rows : (n : ℕ) (G H : Table) → ((u : Monomial) → u ∈ G → Inside H u) → ((u : Monomial) → u ∈ H → Inside G u) → SameIdeal n G H
same_ideal_rows n G H f g = record {
  into = λ q e h. inside_up (f h.row h.member) h.divides;
  back = λ q e h. inside_up (g h.row h.member) h.divides;
}

-- ---- the first failure

pub failure_unique : (u q : Monomial) {a b : Option Variable} → FirstFailure u q a → FirstFailure u q b → a ≡ b
failure_unique u q {a = None} {b = None} h k = refl
failure_unique u q {a = None} {b = Some j} h k = absurd (omega (arith, k.exceeds, h j.0))
failure_unique u q {a = Some i} {b = None} h k = absurd (omega (arith, h.exceeds, k i.0))
failure_unique u q {a = Some i} {b = Some j} h k = ap (λ (v : ℕ). Some (record { 0 = v })) (by_cases (dec_lt i.0 j.0)
    (λ l. absurd (omega (arith, h.exceeds, k.first i.0 l)))
    (λ g. by_cases (dec_lt j.0 i.0) (λ l. absurd (omega (arith, k.exceeds, h.first j.0 l))) (λ f. omega arith)))

-- so there is none exactly where u divides q
pub failure_test : (u q : Monomial) (a : Option Variable) → FirstFailure u q a → not (is_some a) ≡ divides_test u q
failure_test u q None d = tests_true (tests_divides u q) d
failure_test u q (Some i) h = tests_false (tests_divides u q) (λ d. omega (arith, h.exceeds, d i.0))
