-- Laws of the order of rows.
--
--   precedes_irreflexive, precedes_trans   the order is strict
--   tests_precedes, tests_ascending        the tests agree with the order
--   ascending_between, ascending_distinct   in an ascending table an earlier row precedes a later one, so no two are equal
--   ascending_unique       two ascending tables with the same rows are equal
use mathlib.Core.Path.{◌≡◌, refl, sym, ap₂, ◌∙◌, subst}
use mathlib.Core.List.Memᴰ
use mathlib.Core.List.{[], ◌∷◌}
use mathlib.Core.Logic.{◌⊎◌, inl, inr, ⊎_elim, by_cases}
use Prim.Native.Nat.{ℕ, zero, suc, ◌<◌}
use native.Mathlib.Nat.{not-suc-le-zero, le_of_suc-le-suc, eq-or-lt_of_le}
use native.Mathlib.Decide.{dec_lt}
use native.Mathlib.Omega.{arith}
use lib.ListN.{length}
use Rattle.checks.specs.Tests.{Tests}
use Rattle.checks.proofs.TestLaws.{tests_as, tests_and, tests_or, tests_lt, tests_eq}
use Rattle.terms.specs.Monomials.{Monomial, Table, ◌!◌, ◌∈◌, row_at, SameBefore, Distinct}
use Rattle.terms.specs.Order.{Precedes, Ascending, precedes_test, ascending_test}
use Rattle.terms.proofs.MonomialLaws.{before_first}

-- ---- the order is strict

pub precedes_irreflexive : (u : Monomial) → Precedes u u → ⊥
precedes_irreflexive u b = omega (arith, b.less)

pub precedes_trans : {u v w : Monomial} → Precedes u v → Precedes v w → Precedes u w
precedes_trans {u} {v} {w} a b = by_cases (dec_lt b.at a.at)
    (λ l. record { at = b.at; same = λ j t. a.same j (omega arith) ∙ b.same j t; less = omega (arith, a.same b.at l, b.less) })
    (λ g. by_cases (dec_lt a.at b.at)
    (λ l. record { at = a.at; same = λ j t. a.same j t ∙ b.same j (omega arith); less = omega (arith, b.same a.at l, a.less) })
    (λ h.
    let e : b.at ≡ a.at = omega arith in
    let f : v ! a.at < w ! a.at = subst (λ (k : ℕ). v ! k < w ! k) e b.less in
    record { at = a.at; same = λ j t. a.same j t ∙ b.same j (omega arith); less = omega (arith, a.less) }))

-- ---- the tests

-- equal first exponents, and the rest equal before i
same_cons : (a b : ℕ) (u v : Monomial) (i : ℕ) → a ≡ b → SameBefore i u v → SameBefore (suc i) (a ∷ u) (b ∷ v)
same_cons a b u v i e s zero l = refl
same_cons a b u v i e s (suc zero) l = e
same_cons a b u v i e s (suc (suc j)) l = s (suc j) (le_of_suc-le-suc l)

-- the first exponents decide, or they are equal and the rest decides
precedes_cons : (a b : ℕ) (u v : Monomial) → (a < b) ⊎ ((a ≡ b) × Precedes u v) → Precedes (a ∷ u) (b ∷ v)
precedes_cons a b u v (inl l) = record { at = 1; same = before_first (a ∷ u) (b ∷ v); less = l }
precedes_cons a b u v (inr p) = deeper p.1.at p.1.same p.1.less
  where
    deeper : (i : ℕ) → SameBefore i u v → u ! i < v ! i → Precedes (a ∷ u) (b ∷ v)
    deeper zero s l = absurd (omega arith)
    deeper (suc i) s l = record { at = suc (suc i); same = same_cons a b u v (suc i) p.0 s; less = l }

precedes_uncons : (a b : ℕ) (u v : Monomial) → Precedes (a ∷ u) (b ∷ v) → (a < b) ⊎ ((a ≡ b) × Precedes u v)
precedes_uncons a b u v p = by_place p.at p.same p.less
  where
    rest : (i : ℕ) → SameBefore (suc (suc i)) (a ∷ u) (b ∷ v) → SameBefore (suc i) u v
    rest i s zero l = refl
    rest i s (suc j) l = s (suc (suc j)) (omega arith)

    by_place : (i : ℕ) → SameBefore i (a ∷ u) (b ∷ v) → (a ∷ u) ! i < (b ∷ v) ! i → (a < b) ⊎ ((a ≡ b) × Precedes u v)
    by_place zero s l = absurd (omega arith)
    by_place (suc zero) s l = inl l
    by_place (suc (suc i)) s l = inr (s 1 (omega arith), record { at = suc i; same = rest i s; less = l })

-- the order looks at exponents alone
precedes_alike : {u v : Monomial} (w x : Monomial) → ((i : ℕ) → u ! i ≡ w ! i) → ((i : ℕ) → v ! i ≡ x ! i) → Precedes u v → Precedes w x
precedes_alike w x e f p = record {
  at = p.at;
  same = λ j t. sym (e j) ∙ p.same j t ∙ f j;
  less = omega (arith, e p.at, f p.at, p.less);
}

-- what has no exponent at all is as one exponent 0
nil_zero : (i : ℕ) → [] ! i ≡ (0 ∷ []) ! i
nil_zero zero = refl
nil_zero (suc zero) = refl
nil_zero (suc (suc i)) = refl

nothing_below : (u : Monomial) → Precedes u [] → ⊥
nothing_below u p = none p.at p.less
  where
    none : (i : ℕ) → u ! i < [] ! i → ⊥
    none zero l = omega arith
    none (suc i) l = omega arith

pub tests_precedes : (u v : Monomial) → Tests (precedes_test u v) (Precedes u v)
unfolding precedes_test
tests_precedes [] [] = record { sound = λ t. absurd t; complete = λ p. nothing_below [] p }
tests_precedes (a ∷ u) [] = record { sound = λ t. absurd t; complete = λ p. nothing_below (a ∷ u) p }
tests_precedes [] (b ∷ v) = tests_as (tests_or (tests_lt 0 b) (tests_and (tests_eq 0 b) (λ e. tests_precedes [] v)))
    (λ h. precedes_alike [] (b ∷ v) (λ i. sym (nil_zero i)) (λ i. refl) (precedes_cons 0 b [] v h))
    (λ p. precedes_uncons 0 b [] v (precedes_alike (0 ∷ []) (b ∷ v) nil_zero (λ i. refl) p))
tests_precedes (a ∷ u) (b ∷ v) =
    tests_as (tests_or (tests_lt a b) (tests_and (tests_eq a b) (λ e. tests_precedes u v))) (precedes_cons a b u v) (precedes_uncons a b u v)

pub ascending_tail : (u : Monomial) (G : Table) → Ascending (u ∷ G) → Ascending G
ascending_tail u G a r l = a (suc r) (omega arith)

ascending_cons : (u v : Monomial) (G : Table) → Precedes u v → Ascending (v ∷ G) → Ascending (u ∷ (v ∷ G))
ascending_cons u v G p a zero l = p
ascending_cons u v G p a (suc r) l = a r (le_of_suc-le-suc l)

pub tests_ascending : (G : Table) → Tests (ascending_test G) (Ascending G)
unfolding ascending_test
tests_ascending [] = record { sound = λ t r l. absurd (not-suc-le-zero l); complete = λ a. tt }
tests_ascending (u ∷ []) = record { sound = λ t r l. absurd (omega arith); complete = λ a. tt }
tests_ascending (u ∷ (v ∷ G)) = tests_as (tests_and (tests_precedes u v) (λ p. tests_ascending (v ∷ G)))
    (λ p. ascending_cons u v G p.0 p.1)
    (λ a. (a 0 (omega arith), ascending_tail u (v ∷ G) a))

-- ---- ascending tables

pub ascending_between : (G : Table) → Ascending G → (r s : ℕ) → r < s → s < length G → Precedes (row_at G r) (row_at G s)
ascending_between G a r zero l h = absurd (not-suc-le-zero l)
ascending_between G a r (suc s) l h = ⊎_elim
    (λ e. subst (λ (k : ℕ). Precedes (row_at G k) (row_at G (suc s))) (sym e) (a s h))
    (λ k. precedes_trans (ascending_between G a r s k (omega arith)) (a s h))
    (eq-or-lt_of_le (le_of_suc-le-suc l))

-- so no two of its rows are equal
pub ascending_distinct : (G : Table) → Ascending G → Distinct G
ascending_distinct G a (s, l, (r, h, e)) =
    precedes_irreflexive (row_at G s) (subst (λ (u : Monomial). Precedes u (row_at G s)) e (ascending_between G a r s h l))

-- each later row of an ascending table comes after the first
pub all_after : (u : Monomial) (G : Table) → Ascending (u ∷ G) → (v : Monomial) → v ∈ G → Precedes u v
all_after u [] a v m = absurd (Memᴰ.not-nil m)
all_after u (w ∷ G) a v m = ⊎_elim
    (λ e. subst (λ (x : Monomial). Precedes u x) (sym e) (a 0 (omega arith)))
    (λ i. precedes_trans (a 0 (omega arith)) (all_after w G (ascending_tail u (w ∷ G) a) v i))
    (Memᴰ.cases_cons m)

first_same : (u v : Monomial) (G H : Table) → Ascending (u ∷ G) → Ascending (v ∷ H) → u ∈ (v ∷ H) → v ∈ (u ∷ G) → u ≡ v
first_same u v G H a b m k = ⊎_elim (λ e. e) (λ i. ⊎_elim (λ e. sym e)
    (λ j. absurd (precedes_irreflexive u (precedes_trans (all_after u G a v j) (all_after v H b u i))))
    (Memᴰ.cases_cons k)) (Memᴰ.cases_cons m)

rest_within : (u v : Monomial) (G H : Table) → Ascending (u ∷ G) → u ≡ v → ((w : Monomial) → w ∈ (u ∷ G) → w ∈ (v ∷ H)) → (w : Monomial) → w ∈ G → w ∈ H
rest_within u v G H a e s w m = ⊎_elim
    (λ p. absurd (precedes_irreflexive u (subst (λ (x : Monomial). Precedes u x) (p ∙ sym e) (all_after u G a w m))))
    (λ i. i)
    (Memᴰ.cases_cons (s w (Memᴰ.tail m)))

pub ascending_unique : (G H : Table) → Ascending G → Ascending H → ((u : Monomial) → u ∈ G → u ∈ H) → ((u : Monomial) → u ∈ H → u ∈ G) → G ≡ H
ascending_unique [] [] a b s t = refl
ascending_unique [] (v ∷ H) a b s t = absurd (Memᴰ.not-nil (t v (Memᴰ.head refl)))
ascending_unique (u ∷ G) [] a b s t = absurd (Memᴰ.not-nil (s u (Memᴰ.head refl)))
ascending_unique (u ∷ G) (v ∷ H) a b s t =
    let e : u ≡ v = first_same u v G H a b (s u (Memᴰ.head refl)) (t v (Memᴰ.head refl)) in
    let r : G ≡ H = ascending_unique G H (ascending_tail u G a) (ascending_tail v H b) (rest_within u v G H a e s) (rest_within v u H G b (sym e) t) in
    ap₂ (λ (x : Monomial) (y : Table). x ∷ y) e r
