-- Laws of equal rows.
--
--   answer_same            what an answer about two rows says
--   ascends_none           strictly ascending rows are not equal
--   neighbours_equal, neighbours_none   two neighbours of a listing are equal; where no two are, no two rows are
--   neighbour_test k   whether the rows at places k − 1 and k of the list are equal
--   neighbours_tested      some two neighbours are equal just where two rows are
--   distinct_precedes      of distinct rows, each that is listed precedes every later one
use mathlib.Core.Path.{◌≡◌, refl, sym, ap, ◌∙◌, subst}
use mathlib.Core.Bool.{Bool, true, false}
use mathlib.Core.List.{List}
use mathlib.Core.Logic.{◌⊎◌, inl, inr, by_cases, ⊎_elim}
use Prim.Native.Nat.{ℕ, zero, suc, ◌+◌, ◌-◌, ◌≤◌, ◌<◌}
use native.Mathlib.Decide.{dec_lt, ℕ_discrete}
use native.Mathlib.Omega.{arith}
use lib.ListN.{length}
use Rattle.checks.specs.Tests.{Tests}
use Rattle.checks.proofs.TestLaws.{stable, tests_as, tests_false, tests_or, tests_same, tests_true, true_tests}
use Rattle.terms.specs.Monomials.{Monomial, Table, row_at, EqualRows, Distinct}
use Rattle.terms.specs.Order.{Precedes, ascending_test}
use Rattle.terms.proofs.OrderLaws.{precedes_irreflexive, precedes_trans, tests_ascending, ascending_distinct}
use Rattle.ordering.specs.Listing.{Comes, listed, Listing}
use Rattle.std.specs.List.{list_any, range_with_len}
use Rattle.ordering.specs.Passes.{at}
use Rattle.distinct.specs.EqualRows.{same_test, equal_rows_test, tests_same_monomial, tests_equal_rows}

-- ---- two rows

pub answer_same : (u v : Monomial) (answer : Bool) → (answer ≡ true → u ≡ v) → (answer ≡ false → u ≡ v → ⊥) → answer ≡ same_test u v
answer_same u v true same differ = tests_true (tests_same_monomial u v) (same refl)
answer_same u v false same differ = tests_false (tests_same_monomial u v) (differ refl)

-- ---- ascending tables

unequal : (u v : Monomial) → u ≡ v → Precedes u v → ⊥
unequal u v e p = precedes_irreflexive v (subst (λ (w : Monomial). Precedes w v) e p)

pub ascends_none : (G : Table) (answer : Bool) → answer ≡ ascending_test G → answer ≡ true → false ≡ equal_rows_test G
ascends_none G answer e f = tests_false (tests_equal_rows G) (ascending_distinct G (true_tests (tests_ascending G) (sym e ∙ f)))

-- ---- neighbours

module _ (G : Table) (order : List ℕ) (t : Listing G order) where
  abbrev row : ℕ → Monomial
  row = listed G order

  -- whether the rows at places k − 1 and k of the list are equal
  abbrev pub neighbour_test : ℕ → Bool
  neighbour_test k = same_test (row (k - 1)) (row k)

  pub neighbours_equal : (k : ℕ) → suc k < length G → row k ≡ row (suc k) → EqualRows G
  neighbours_equal k l e = by_order (t.ordered k (suc k) (omega arith) l)
    where
      by_order : Comes G (at order k) (at order (suc k)) → EqualRows G
      by_order (inl p) = absurd (unequal (row k) (row (suc k)) e p)
      by_order (inr p) = (at order (suc k), t.numbers (suc k) l, (at order k, p.1, e))

  module _ (none : (k : ℕ) → suc k < length G → row k ≡ row (suc k) → ⊥) where
    -- so each listed row precedes the next, and every later one
    next : (k : ℕ) → suc k < length G → Precedes (row k) (row (suc k))
    next k l = ⊎_elim (λ p. p) (λ p. absurd (none k l p.0)) (t.ordered k (suc k) (omega arith) l)

    later : (k l : ℕ) → k < l → l < length G → row k ≡ row l → ⊥
    later k l h g e = by_cases (dec_lt (suc k) l)
        (λ b. unequal (row k) (row l) e (⊎_elim
        (λ p. precedes_trans (next k (omega arith)) p)
        (λ p. subst (λ (w : Monomial). Precedes (row k) w) p.0 (next k (omega arith)))
        (t.ordered (suc k) l b g)))
        (λ b. let z : l ≡ suc k = omega arith in none k (omega arith) (e ∙ ap row z))

    pub neighbours_none : Distinct G
    neighbours_none (second, within, (first, earlier, equal)) =
        let r = t.places first (omega arith) in
        let s = t.places second within in
        let e : row r.0 ≡ row s.0 = ap (row_at G) r.2 ∙ equal ∙ ap (row_at G) (sym s.2) in
        by_cases (dec_lt r.0 s.0)
        (λ h. later r.0 s.0 h s.1 e)
        (λ g. by_cases (dec_lt s.0 r.0)
        (λ h. later s.0 r.0 h r.1 (sym e))
        (λ f. let z : r.0 ≡ s.0 = omega arith in omega (arith, r.2, s.2, ap (at order) z)))

  pub distinct_precedes : Distinct G → (k l : ℕ) → k < l → l < length G → Precedes (row k) (row l)
  distinct_precedes d k l h g = ⊎_elim
      (λ p. p)
      (λ p. absurd (d (at order l, t.numbers l g, (at order k, p.1, p.0))))
      (t.ordered k l h g)

  -- two neighbours from place a on
  abbrev Neighbours : ℕ → ℕ → Type 0
  Neighbours a m = (k : ℕ) × (a ≤ k) × (k < a + m) × (row (k - 1) ≡ row k)

  tests_neighbours : (a m : ℕ) → Tests (list_any neighbour_test (range_with_len a m)) (Neighbours a m)
  tests_neighbours a zero = record { sound = λ x. absurd x; complete = λ p. absurd (omega (arith, p.1, p.2)) }
  tests_neighbours a (suc m) = tests_as (tests_or (tests_same_monomial (row (a - 1)) (row a)) (tests_neighbours (a + 1) m)) found split
    where
      found : (row (a - 1) ≡ row a) ⊎ Neighbours (a + 1) m → Neighbours a (suc m)
      found (inl e) = (a, omega arith, omega arith, e)
      found (inr p) = (p.0, omega (arith, p.1), omega (arith, p.2), p.3)

      split : Neighbours a (suc m) → (row (a - 1) ≡ row a) ⊎ Neighbours (a + 1) m
      split (k, l, h, e) = by_cases (ℕ_discrete a k)
          (λ z. inl (subst (λ (j : ℕ). row (j - 1) ≡ row j) (sym z) e))
          (λ z. inr (k, omega (arith, z), omega arith, e))

  pub neighbours_tested : list_any neighbour_test (range_with_len 1 (length G - 1)) ≡ equal_rows_test G
  neighbours_tested = tests_same _ _ (tests_as tests found split) (tests_equal_rows G)
    where
      tests : Tests (list_any neighbour_test (range_with_len 1 (length G - 1))) (Neighbours 1 (length G - 1))
      tests = tests_neighbours 1 (length G - 1)

      found : Neighbours 1 (length G - 1) → EqualRows G
      found (k, l, h, e) =
          let z : k ≡ suc (k - 1) = omega arith in
          neighbours_equal (k - 1) (omega arith) (e ∙ ap row z)

      split : EqualRows G → Neighbours 1 (length G - 1)
      split e = stable tests (λ none. neighbours_none (λ k l q.
          let z : k ≡ suc k - 1 = omega arith in
          none (suc k, omega arith, omega arith, subst (λ (j : ℕ). row j ≡ row (suc k)) z q)) e)
