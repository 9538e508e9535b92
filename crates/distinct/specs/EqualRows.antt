-- The check 12: two equal rows in one table.
--
--   equal_rows_check n table   12: two equal rows in the table
--   distinct_checks n table   the checks 1 to 4, then 12. An operation's list is these and then its own
--
-- With the tests `same_test` of two monomials, and `equal_rows_test` of `EqualRows` (`terms/specs/Monomials`).
use Rattle.std.specs.Prelude.{◌≡◌, refl, Bool, true, false, ◌&&◌, List, [], ◌∷◌, ◌++◌, ℕ, eqb, length}
use Rattle.std.proofs.Common.{sym, ap, ap₂, arith, lit<}
use Rattle.checks.specs.Tests.{Tests, some_below}
use Rattle.checks.specs.Refusals.{Check, check}
use Rattle.checks.proofs.TestLaws.{tests_as, tests_and, tests_eq, tests_some_below}
use Rattle.terms.specs.Monomials.{Monomial, Table, row_at, EqualRows}
use Rattle.terms.specs.Rows.{rows}
use Rattle.terms.specs.TableChecks.{table_checks}

-- ---- the tests

unfoldable pub same_test : Monomial → Monomial → Bool
same_test [] [] = true
same_test [] (b ∷ v) = false
same_test (a ∷ u) [] = false
same_test (a ∷ u) (b ∷ v) = eqb a b && same_test u v

uncons : (a b : ℕ) (u v : Monomial) → a ∷ u ≡ b ∷ v → (a ≡ b) × (u ≡ v)
uncons a b u v e = (cc, cc)

nil_cons : (b : ℕ) (v : Monomial) → [] ≡ b ∷ v → ⊥
nil_cons b v e = omega (arith, ap length e)

pub tests_same_monomial : (u v : Monomial) → Tests (same_test u v) (u ≡ v)
unfolding same_test
tests_same_monomial [] [] = record { sound = λ t. refl; complete = λ e. tt }
tests_same_monomial [] (b ∷ v) = record { sound = λ t. absurd t; complete = λ e. nil_cons b v e }
tests_same_monomial (a ∷ u) [] = record { sound = λ t. absurd t; complete = λ e. nil_cons a u (sym e) }
tests_same_monomial (a ∷ u) (b ∷ v) = tests_as (tests_and (tests_eq a b) (λ e. tests_same_monomial u v))
    (λ p. ap₂ (λ (x : ℕ) (y : Monomial). x ∷ y) p.0 p.1) (uncons a b u v)

unfoldable pub equal_rows_test : Table → Bool
equal_rows_test G = some_below (length G) (λ s. some_below s (λ r. same_test (row_at G r) (row_at G s)))

pub tests_equal_rows : (G : Table) → Tests (equal_rows_test G) (EqualRows G)
unfolding equal_rows_test
tests_equal_rows G = tests_some_below (length G) (λ s. tests_some_below s (λ r. tests_same_monomial (row_at G r) (row_at G s)))

-- ---- the check

abbrev pub equal_rows_check : ℕ → List ℕ → Check
equal_rows_check n table = check 12 (lit< tt) (tests_equal_rows (rows n table))

abbrev pub distinct_checks : ℕ → List ℕ → List Check
distinct_checks n table = table_checks n table ++ (equal_rows_check n table ∷ [])
