-- Laws of Janet's marks and cones (rules 2, 3 and 4): the tests agree with the rules, and the cones of different rows are disjoint.
--
--   tests_same_before, tests_multiplicative, tests_janet, tests_covered, tests_complete  the tests agree with the rules
--   in_group, group_in     a row is in the list `group` exactly where it is in the group
--   multiplicative_same    marks depend on the exponents up to the variable alone
--   multiplicative_none    what is no variable of the rows is multiplicative
--   divisor_at, at_divisor   a divisor by its row, and by its row number
--   at_most_one            where cones are disjoint, a monomial has at most one divisor by row number
--   largest                in the group of a Janet divisor of q, no exponent that q reaches is larger than the divisor's
--   same_prefix            Janet divisors of monomials that are equal before i are equal before i
--   unique                 Janet divisors of one monomial are equal
--   janet_disjoint         in a table of distinct rows Janet's cones are disjoint
use mathlib.Core.Path.{◌≡◌, refl, sym, ◌∙◌, subst}
use mathlib.Core.List.{[]}
use mathlib.Core.Logic.{by_cases}
use Prim.Native.Nat.{ℕ, zero, suc, ◌≤◌, ◌<◌}
use native.Mathlib.Nat.{le_of_suc-le-suc, le_antisymm}
use native.Mathlib.Decide.{dec_le, dec_lt, ℕ_discrete}
use native.Mathlib.Omega.{arith}
use lib.ListN.{length}
use Rattle.checks.specs.Tests.{Tests}
use Rattle.checks.proofs.TestLaws.{decide, tests_as, tests_le, tests_lt, tests_eq, tests_and, tests_not, tests_implies, tests_each, tests_all, tests_any}
use Rattle.checks.proofs.TestLaws.{keep_in, keep_make}
use Rattle.terms.specs.Monomials.{Monomial, Table, ◌!◌, ◌∈◌, row_at, OfSize, Distinct, SameBefore, times}
use Rattle.terms.proofs.MonomialLaws.{beyond, within, positive, before_zero, before_suc, same_all}
use Rattle.terms.proofs.IdealLaws.{tests_divides}
use Rattle.terms.proofs.RowsLaws.{member_at, member_index}
use Rattle.division.specs.Cones.{Division, Cone, Divisor, DivisorAt, Disjoint}
use Rattle.division.specs.Janet.{InGroup, group, Multiplicative, JanetDivisor, Complete, same_before_test, multiplicative_test, janet_test, covered_test}
use Rattle.division.specs.Janet.{complete_test}

-- ---- the tests

-- what is no variable has the same exponent 0 everywhere
pub tests_same_before : (i : ℕ) (u v : Monomial) → Tests (same_before_test i u v) (SameBefore i u v)
unfolding same_before_test
tests_same_before zero u v = record { sound = λ t. before_zero u v; complete = λ s. tt }
tests_same_before (suc i) u v = tests_as (tests_each i (λ (j : ℕ). tests_eq (u ! j) (v ! j)))
    (λ h j l. from h j l)
    (λ s j p l. s j (omega arith))
  where
    from : ((j : ℕ) → 0 < j → j ≤ i → u ! j ≡ v ! j) → (j : ℕ) → j < suc i → u ! j ≡ v ! j
    from h zero l = refl
    from h (suc j) l = h (suc j) (omega arith) (le_of_suc-le-suc l)

module _ (G : Table) (u : Monomial) (i : ℕ) where
  pub group_in : (v : Monomial) → v ∈ group G u i → InGroup G u i v
  unfolding group
  group_in v m =
      let k = keep_in (λ (w : Monomial). same_before_test i w u) G v m in
      record { member = k.0; same = (tests_same_before i v u).sound k.1 }

  pub in_group : (v : Monomial) → InGroup G u i v → v ∈ group G u i
  unfolding group
  in_group v h = keep_make (λ (w : Monomial). same_before_test i w u) G v h.member ((tests_same_before i v u).complete h.same)

  pub tests_multiplicative : Tests (multiplicative_test G u i) (Multiplicative G u i)
  unfolding multiplicative_test
  tests_multiplicative = tests_as (tests_all (group G u i) (λ (v : Monomial) m. tests_le (v ! i) (u ! i)))
      (λ h v g. h v (in_group v g))
      (λ h v m. h v (group_in v m))

  pub multiplicative? : Dec (Multiplicative G u i)
  multiplicative? = decide tests_multiplicative

-- q exceeds u in variables of q alone, so those decide
pub tests_janet : (G : Table) (u q : Monomial) → u ∈ G → Tests (janet_test G u q) (JanetDivisor G u q)
unfolding janet_test
tests_janet G u q m = tests_as
    (tests_and (tests_divides u q) (λ d. tests_each (length q) (λ (i : ℕ). tests_implies (tests_lt (u ! i) (q ! i)) (λ l. tests_multiplicative G u i))))
    (λ r. record { member = m; cone = record { divides = r.0; only = λ i l. r.1 i (positive q i (omega arith)) (within q i (omega arith)) l } })
    (λ (d : JanetDivisor G u q). (d.cone.divides, λ i p t l. d.cone.only i l))

pub tests_covered : (G : Table) (q : Monomial) → Tests (covered_test G q) ((u : Monomial) × JanetDivisor G u q)
unfolding covered_test
tests_covered G q = tests_as (tests_any G (λ (u : Monomial) m. tests_janet G u q m)) (λ r. (r.0, r.2)) (λ r. (r.0, r.1.member, r.1))

pub tests_complete : (n : ℕ) (G : Table) → Tests (complete_test n G) (Complete n G)
unfolding complete_test
tests_complete n G = tests_as
    (tests_all G (λ (u : Monomial) m. tests_each n (λ (i : ℕ). tests_implies (tests_not (tests_multiplicative G u i)) (λ g. tests_covered G (times u i 1)))))
    (λ h u m i p l g. h u m i p l g)
    (λ h u m i p l g. h u m i p l g)

-- ---- marks

-- what is multiplicative for u is so for each row that equals u up to the variable
pub multiplicative_same : (G : Table) (u v : Monomial) (i : ℕ) → SameBefore i u v → u ! i ≡ v ! i → Multiplicative G u i → Multiplicative G v i
multiplicative_same G u v i s e m w h =
    omega (arith, m w (record { member = h.member; same = λ j l. h.same j l ∙ sym (s j l) }))

-- variable 0 is none: each exponent there is 0
pub multiplicative_zero : (G : Table) (u : Monomial) → Multiplicative G u 0
multiplicative_zero G u v h = omega arith

-- past the last variable each exponent is 0
pub multiplicative_past : {n : ℕ} {G : Table} → OfSize n G → (u : Monomial) (i : ℕ) → n < i → Multiplicative G u i
multiplicative_past {n} {G} z u i l v h = omega (arith, beyond v i (omega (arith, z v h.member)))

pub multiplicative_none : {n : ℕ} {G : Table} → OfSize n G → (u : Monomial) (i : ℕ) → (0 < i → i ≤ n → ⊥) → Multiplicative G u i
multiplicative_none {n} {G} z u zero f = multiplicative_zero G u
multiplicative_none {n} {G} z u (suc i) f = multiplicative_past z u (suc i) (by_cases (dec_lt n (suc i)) (λ l. l) (λ g. absurd (f (omega arith) (omega arith))))

-- ---- divisors by row and by row number

pub divisor_at : {M : Division} {G : Table} {u q : Monomial} → Divisor M G u q → (r : ℕ) × DivisorAt M G r q × (row_at G r ≡ u)
divisor_at {M} {G} {u} {q} d =
    let p = member_index G [] u d.member in
    (p.0, record { within = p.1; cone = subst (λ (w : Monomial). Cone (M G w) w q) (sym p.2) d.cone }, p.2)

pub at_divisor : {M : Division} {G : Table} {r : ℕ} {q : Monomial} → DivisorAt M G r q → Divisor M G (row_at G r) q
at_divisor {G = G} {r = r} d = record { member = member_at G [] r d.within; cone = d.cone }

-- ---- disjoint cones, over any marks

pub at_most_one : {M : Division} {G : Table} {r s : ℕ} {q : Monomial} → Disjoint M G → DivisorAt M G r q → DivisorAt M G s q → r ≡ s
at_most_one {r = r} {s = s} {q = q} f d e = by_cases (ℕ_discrete r s) (λ p. p) (λ g. absurd (f r s g q d e))

-- ---- one Janet divisor

-- Were v above u at i, q would exceed u there, so that i is multiplicative for u: but v is in u's group.
pub largest : {G : Table} {u v q : Monomial} {i : ℕ} → JanetDivisor G u q → v ∈ G → SameBefore i v u → v ! i ≤ q ! i → v ! i ≤ u ! i
largest {G} {u} {v} {q} {i} d m s h = by_cases (dec_le (v ! i) (u ! i)) (λ l. l)
    (λ g. d.cone.only i (omega arith) v (record { member = m; same = s }))

pub same_prefix : {G : Table} {u v q r : Monomial} (i : ℕ) → JanetDivisor G u q → JanetDivisor G v r → SameBefore i q r → SameBefore i u v
same_prefix {u = u} {v = v} zero d e s = before_zero u v
same_prefix {u = u} {v = v} (suc i) d e s =
    let ih : SameBefore i u v = same_prefix i d e (λ j l. s j (omega arith)) in
    before_suc i u v ih (le_antisymm
    (largest e d.member ih (omega (arith, d.cone.divides i, s i (omega arith))))
    (largest d e.member (λ j l. sym (ih j l)) (omega (arith, e.cone.divides i, s i (omega arith)))))

pub unique : {n : ℕ} {G : Table} {u v q : Monomial} → OfSize n G → JanetDivisor G u q → JanetDivisor G v q → u ≡ v
unique {u = u} {v = v} z d e =
    same_all u v (z u d.member ∙ sym (z v e.member)) (λ i. same_prefix (suc i) d e (λ j l. refl) i (omega arith))

pub janet_disjoint : {n : ℕ} {G : Table} → OfSize n G → Distinct G → Disjoint Multiplicative G
janet_disjoint z f r s g q d e =
    let same = unique z (at_divisor d) (at_divisor e) in
    by_cases (dec_lt r s)
    (λ l. f (s, e.within, (r, l, same)))
    (λ k. f (r, d.within, (s, omega (arith, g), sym same)))
