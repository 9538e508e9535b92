-- Laws of the contracts of count, polynomial and steady.
--
--   count_unique, polynomial_unique, steady_unique   two answers that a promise allows are equal
--   count_refused, count_given ..  what an operation has to show, refused and accepted
--   late_5, late_passed, countable_6, countable_7, countable_0   the checks 5, 6 and 7
--   count_checked, steady_checked  what is known of a table that no check refuses
--   can_mark                       so count and polynomial may mark it
use mathlib.Core.Path.{◌≡◌, sym, ap, ◌∙◌}
use mathlib.Core.List.{List, [], ◌∷◌}
use Prim.Native.Nat.{ℕ, ◌≤◌}
use native.Mathlib.Omega.{arith}
use lib.IntN.{ℤ, pos}
use Rattle.std.specs.Prelude.{Result, Ok, Err}
use Rattle.checks.specs.declared.Refusal.{Refusal}
use Rattle.checks.specs.Outcomes.{number}
use Rattle.checks.specs.Refusals.{refusal}
use Rattle.checks.proofs.TestLaws.{stable, tests_le}
use Rattle.checks.proofs.RefusalLaws.{accepted, refusal_none, refusal_holds, refusal_passes, accepts_head, accepts_tail, rest_passes, answered_accepted}
use Rattle.checks.proofs.RefusalLaws.{answered_refused}
use Rattle.checks.proofs.OutcomeLaws.{number_positive, same_outcome}
use Rattle.terms.specs.Order.{Ascending}
use Rattle.terms.specs.Rows.{rows}
use Rattle.terms.specs.TableChecks.{table_checks, TableAccepted}
use Rattle.terms.specs.declared.Degree.{Degree}
use Rattle.terms.proofs.OrderLaws.{tests_ascending}
use Rattle.terms.proofs.TableLaws.{table_listed}
use Rattle.division.proofs.Facade.{NotAscending, order_check, Complete, tests_complete}
use Rattle.marking.specs.Operation.{Markable}
use Rattle.counts.specs.Counts.{count_at, polynomial_at, steady_of}
use Rattle.summing.specs.Sums.{Checked}
use Rattle.counting.specs.Operations.{Above300, NotComplete, degree_check, complete_check, countable_checks, count_checks, steady_checks, CountPromise}
use Rattle.counting.specs.Operations.{PolynomialPromise, SteadyPromise}

-- ---- one answer

pub count_unique : (n : ℕ) (table : List ℕ) (s : ℕ) (a b : Result ℕ Refusal) → CountPromise n table s a → CountPromise n table s b → a ≡ b
count_unique n table s a b p q = same_outcome 0 a b (p.number ∙ sym q.number) (p.value ∙ sym q.value)

pub polynomial_unique : (n : ℕ) (table : List ℕ) (s : ℕ) (a b : Result ℤ Refusal) → PolynomialPromise n table s a → PolynomialPromise n table s b → a ≡ b
polynomial_unique n table s a b p q = same_outcome (pos 0) a b (p.number ∙ sym q.number) (p.value ∙ sym q.value)

pub steady_unique : (n : ℕ) (table : List ℕ) (a b : Result Degree Refusal) → SteadyPromise n table a → SteadyPromise n table b → a ≡ b
steady_unique n table a b p q = same_outcome (record { 0 = 0 }) a b (p.number ∙ sym q.number) (ap (λ (d : ℕ). record { 0 = d }) (p.value ∙ sym q.value))

-- ---- what an operation has to show

module _ (n : ℕ) (table : List ℕ) (s : ℕ) where
  pub count_refused : (e : Refusal) → number e ≡ refusal (count_checks n table s) → CountPromise n table s (Err e)
  count_refused e m = record { number = m; value = sym (answered_refused _ _ 0 (λ z. omega (arith, m, z, number_positive e))) }

  pub count_given : refusal (count_checks n table s) ≡ 0 → (v : ℕ) → v ≡ count_at n (rows n table) s → CountPromise n table s (Ok v)
  count_given e v is = record { number = sym e; value = is ∙ sym (answered_accepted _ _ 0 e) }

  pub polynomial_refused : (e : Refusal) → number e ≡ refusal (count_checks n table s) → PolynomialPromise n table s (Err e)
  polynomial_refused e m = record { number = m; value = sym (answered_refused _ _ (pos 0) (λ z. omega (arith, m, z, number_positive e))) }

  pub polynomial_given : refusal (count_checks n table s) ≡ 0 → (v : ℤ) → v ≡ polynomial_at n (rows n table) s → PolynomialPromise n table s (Ok v)
  polynomial_given e v is = record { number = sym e; value = is ∙ sym (answered_accepted _ _ (pos 0) e) }

module _ (n : ℕ) (table : List ℕ) where
  pub steady_refused : (e : Refusal) → number e ≡ refusal (steady_checks n table) → SteadyPromise n table (Err e)
  steady_refused e m = record { number = m; value = sym (answered_refused _ _ 0 (λ z. omega (arith, m, z, number_positive e))) }

  pub steady_given : refusal (steady_checks n table) ≡ 0 → (d : Degree) → d.0 ≡ steady_of (rows n table) → SteadyPromise n table (Ok d)
  steady_given e d is = record { number = sym e; value = is ∙ sym (answered_accepted _ _ 0 e) }

-- ---- the checks, one after another

module _ (n : ℕ) (table : List ℕ) where
  pub countable_6 : NotAscending n table → 6 ≡ refusal (countable_checks n table)
  countable_6 f = sym (refusal_holds (order_check n table) (complete_check n table ∷ []) f)

  -- past 6 the check 7 decides
  past_6 : Ascending (rows n table) → refusal (countable_checks n table) ≡ refusal (complete_check n table ∷ [])
  past_6 a = refusal_passes (order_check n table) (complete_check n table ∷ []) (λ g. g a)

  pub countable_7 : Ascending (rows n table) → NotComplete n table → 7 ≡ refusal (countable_checks n table)
  countable_7 a f = sym (past_6 a ∙ refusal_holds (complete_check n table) [] f)

  pub countable_0 : Ascending (rows n table) → Complete n (rows n table) → 0 ≡ refusal (countable_checks n table)
  countable_0 a c = sym (past_6 a ∙ refusal_passes (complete_check n table) [] (λ g. g c) ∙ refusal_none)

  -- what passes all
  checked : TableAccepted n table → refusal (countable_checks n table) ≡ 0 → Checked n table
  checked t e =
      let a = accepted (countable_checks n table) e in
      record {
        accepted = t;
        ascending = stable (tests_ascending (rows n table)) (accepts_head (order_check n table) (complete_check n table ∷ []) a);
        complete = stable (tests_complete n (rows n table))
            (accepts_head (complete_check n table) [] (accepts_tail (order_check n table) (complete_check n table ∷ []) a));
      }

  pub steady_checked : refusal (steady_checks n table) ≡ 0 → Checked n table
  steady_checked e = checked (table_listed n table (countable_checks n table) e) (rest_passes (table_checks n table) (countable_checks n table) e)

module _ (n : ℕ) (table : List ℕ) (s : ℕ) where
  pub late_5 : Above300 s → 5 ≡ refusal (degree_check s ∷ countable_checks n table)
  late_5 h = sym (refusal_holds (degree_check s) (countable_checks n table) h)

  pub late_passed : s ≤ 300 → refusal (degree_check s ∷ countable_checks n table) ≡ refusal (countable_checks n table)
  late_passed h = refusal_passes (degree_check s) (countable_checks n table) (λ g. omega arith)

  pub count_checked : refusal (count_checks n table s) ≡ 0 → Checked n table × (s ≤ 300)
  count_checked e =
      let g = rest_passes (table_checks n table) (degree_check s ∷ countable_checks n table) e in
      let h : s ≤ 300 = stable (tests_le s 300) (λ f. omega (arith, late_5 (omega (arith, f)))) in
      (checked n table (table_listed n table (degree_check s ∷ countable_checks n table) e) (sym (late_passed h) ∙ g), h)

-- ---- count and polynomial mark the table that they were asked of, into 4,096 bytes

pub can_mark : (n : ℕ) (table : List ℕ) (s : ℕ) → refusal (count_checks n table s) ≡ 0 → Markable n (rows n table) 4096 × Ascending (rows n table)
can_mark n table s e =
    let c = (count_checked n table s e).0 in
    let t = c.accepted in
    (record { some = t.some; six = t.six; limited = t.limited; room = t.limited }, c.ascending)
