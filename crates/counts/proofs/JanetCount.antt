-- The count by Janet's cones: of a complete ascending table they are disjoint and cover the ideal, so the laws for any marks hold of them.
--
--   CountTable n G   what is asked of the table: n exponents a row, complete, ascending
--   janet_shares     the sum of the shares is the number of monomials of the ideal up to s
--   janet_count      rule 7: with the count they make C(n + s, n)
use mathlib.Core.Path.{◌≡◌, ap, ◌∙◌}
use Prim.Native.Nat.{ℕ, ◌+◌, ◌≤◌}
use lib.ListN.{length}
use Rattle.binomial.specs.Choose.{choose}
use Rattle.checks.specs.Tests.{Tests, keep}
use Rattle.terms.specs.Monomials.{Monomial, Table, ◌∈◌, OfSize, degree}
use Rattle.terms.specs.Ideal.{inside_test}
use Rattle.terms.specs.Order.{Ascending}
use Rattle.division.proofs.Facade.{Multiplicative, multiplicative_test, marks_count, marks_in, Complete, tests_multiplicative, marks_in_count, janet_disjoint}
use Rattle.terms.proofs.OrderLaws.{ascending_distinct}
use Rattle.division.proofs.Facade.{cover}
use Rattle.counts.specs.Counts.{sum, monomials_up_to, count_at, share}
use Rattle.counts.proofs.SumLaws.{sum_same}
use Rattle.counts.proofs.CountLaws.{shares_inside, count_formula}

pub record CountTable (n : ℕ) (G : Table) : Type 0 where
  pub size : OfSize n G
  pub complete : Complete n G
  pub ascending : Ascending G

abbrev pub janet_share : ℕ → Table → ℕ → Monomial → ℕ
janet_share n G s u = share s (degree u) (marks_in n G u)

module _ (n : ℕ) (G : Table) (t : CountTable n G) (s : ℕ) where
  agrees : (u : Monomial) → u ∈ G → (i : ℕ) → 1 ≤ i → i ≤ n → Tests (multiplicative_test G u i) (Multiplicative G u i)
  agrees u m i p l = tests_multiplicative G u i

  -- the shares by the number of marks are those by the variables that are multiplicative
  shares_in : sum (janet_share n G s) G ≡ sum (λ u. share s (degree u) (marks_count n (multiplicative_test G u))) G
  shares_in = sum_same _ _ G (λ u m. ap (share s (degree u)) (marks_in_count n G u))

  pub janet_shares : sum (janet_share n G s) G ≡ length (keep (inside_test G) (monomials_up_to n s))
  janet_shares = shares_in ∙ shares_inside Multiplicative (multiplicative_test G) n G t.size agrees
      (janet_disjoint t.size (ascending_distinct G t.ascending)) (cover t.size t.complete) s

  pub janet_count : count_at n G s + sum (janet_share n G s) G ≡ choose (n + s) n
  janet_count = ap (λ (x : ℕ). count_at n G s + x) shares_in ∙ count_formula Multiplicative (multiplicative_test G) n G t.size agrees
      (janet_disjoint t.size (ascending_distinct G t.ascending)) (cover t.size t.complete) s
