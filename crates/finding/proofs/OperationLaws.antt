-- Laws of what `find` promises.
--
--   find_unique            two answers that the promise allows are equal
--   find_accepts           where no check refuses: what rule 6's descent gives
--   find_refuses           where one does: its number
--   find_finds             an accepted find answers with the Janet divisor's row number, or with none where there is none
--   find_steps_lem         the steps are at most the degree of the query plus n
--   refuses_length, refuses_order, refuses_none   the number of the first check that refuses, where the table's pass
--   find_ready, find_length   what is known of inputs that passed
use mathlib.Core.Path.{◌≡◌, sym, ap, ◌∙◌}
use mathlib.Core.List.{List, [], ◌∷◌}
use mathlib.Core.Option.{none}
use Prim.Native.Nat.{ℕ, ◌+◌, ◌≤◌}
use native.Mathlib.Omega.{arith}
use lib.ListN.{length}
use Rattle.checks.proofs.TestLaws.{stable, tests_eq}
use Rattle.terms.specs.Monomials.{degree}
use Rattle.terms.specs.Order.{Ascending}
use Rattle.terms.specs.Rows.{rows}
use Rattle.checks.specs.Refusals.{Check, Accepts, refusal}
use Rattle.terms.specs.TableChecks.{table_checks}
use Rattle.terms.proofs.OrderLaws.{tests_ascending}
use Rattle.terms.proofs.RowsLaws.{rows_size}
use Rattle.checks.proofs.RefusalLaws.{accepted, refusal_none, refusal_holds, refusal_passes, passes_first, accepts_head, accepts_tail, accepts_right}
use Rattle.checks.proofs.RefusalLaws.{answered_accepted, answered_refused}
use Rattle.terms.proofs.TableLaws.{table_listed}
use Rattle.division.specs.Janet.{Multiplicative}
use Rattle.division.specs.Scan.{Answers, found_row, number_found}
use Rattle.division.specs.Descent.{Descent, descent}
use Rattle.division.specs.Checks.{Ready, OtherLength, NotAscending, length_check, order_check}
use Rattle.finding.specs.Operation.{find_checks, nothing, find_row, find_steps, FindPromise}
use Rattle.division.proofs.DescentLaws.{descent_finds, descent_steps}
use Rattle.division.proofs.RangeLaws.{found_number}
use Rattle.finding.specs.declared.Finding.{Finding}
use Rattle.checks.specs.declared.Refusal.{Refusal}
use Rattle.checks.specs.Outcomes.{number, value_or}
use Rattle.checks.proofs.OutcomeLaws.{number_positive, same_outcome}
use Rattle.std.specs.Prelude.{Result, Ok, Err}

-- ---- one answer

same_finding : (f g : Finding) → number_found f.row ≡ number_found g.row → f.steps ≡ g.steps → f ≡ g
same_finding f g e h = let row : f.row ≡ g.row = sym (found_number f.row) ∙ ap found_row e ∙ found_number g.row in λ i. record { row = row i; steps = h i }

pub find_unique : {n : ℕ} {table query : List ℕ} {a b : Result Finding Refusal} → FindPromise n table query a → FindPromise n table query b → a ≡ b
find_unique {a = a} {b = b} p q = same_outcome nothing a b (p.number ∙ sym q.number)
    (same_finding (value_or nothing a) (value_or nothing b) (p.row ∙ sym q.row) (p.steps ∙ sym q.steps))

module _ (n : ℕ) (table query : List ℕ) where
  abbrev checks : List Check
  checks = find_checks n table query

  abbrev gives : Descent
  gives = descent n (rows n table) query

  -- ---- accepted and refused

  pub find_accepts : refusal checks ≡ 0 → (f : Finding) → number_found f.row ≡ gives.found → f.steps ≡ gives.steps → FindPromise n table query (Ok f)
  find_accepts e f row steps = record {
    number = sym e;
    row = row ∙ sym (answered_accepted checks _ none e);
    steps = steps ∙ sym (answered_accepted checks _ 0 e);
  }

  pub find_refuses : (e : Refusal) → number e ≡ refusal checks → FindPromise n table query (Err e)
  find_refuses e m =
      let f : refusal checks ≡ 0 → ⊥ = λ z. omega (arith, m, z, number_positive e) in
      record {
        number = m;
        row = sym (answered_refused checks _ none f);
        steps = sym (answered_refused checks _ 0 f);
      }

  -- ---- the first check that refuses

  abbrev own_checks : List Check
  own_checks = length_check n query ∷ (order_check n table ∷ [])

  module _ (a : refusal (table_checks n table) ≡ 0) where
    pub refuses_length : OtherLength n query → 5 ≡ refusal (find_checks n table query)
    refuses_length h = passes_first (table_checks n table) own_checks 5 a (sym (refusal_holds (length_check n query) (order_check n table ∷ []) h))

    module _ (e : length query ≡ n) where
      of_order : (m : ℕ) → m ≡ refusal (order_check n table ∷ []) → m ≡ refusal (find_checks n table query)
      of_order m h = passes_first (table_checks n table) own_checks m a
          (h ∙ sym (refusal_passes (length_check n query) (order_check n table ∷ []) (λ f. f e)))

      pub refuses_order : NotAscending n table → 6 ≡ refusal (find_checks n table query)
      refuses_order h = of_order 6 (sym (refusal_holds (order_check n table) [] h))

      pub refuses_none : Ascending (rows n table) → 0 ≡ refusal (find_checks n table query)
      refuses_none h = of_order 0 (sym (refusal_passes (order_check n table) [] (λ f. f h) ∙ refusal_none))

  -- ---- inputs that passed

  own_passed : refusal (find_checks n table query) ≡ 0 → Accepts own_checks
  own_passed e = accepts_right (table_checks n table) own_checks (accepted (find_checks n table query) e)

  pub find_length : refusal (find_checks n table query) ≡ 0 → length query ≡ n
  find_length e = stable (tests_eq (length query) n) (accepts_head (length_check n query) (order_check n table ∷ []) (own_passed e))

  pub find_ready : refusal (find_checks n table query) ≡ 0 → Ready n (rows n table)
  find_ready e =
      let t = table_listed n table own_checks e in
      let order : Accepts (order_check n table ∷ []) = accepts_tail (length_check n query) (order_check n table ∷ []) (own_passed e) in
      record {
        some = t.some;
        six = t.six;
        limited = t.limited;
        ascends = stable (tests_ascending (rows n table)) (accepts_head (order_check n table) [] order);
      }

  -- ---- what an accepted find answers, in the words of rules 3 and 6

  module _ (answer : Result Finding Refusal) (p : FindPromise n table query answer) (e : refusal (find_checks n table query) ≡ 0) where
    pub find_finds : Answers Multiplicative (rows n table) query (find_row answer)
    find_finds = rw (p.row ∙ answered_accepted checks _ none e) (descent_finds (rows_size n table) query (find_length e))

    pub find_steps_lem : find_steps answer ≤ degree query + n
    find_steps_lem = rw (p.steps ∙ answered_accepted checks _ 0 e) (descent_steps n (rows n table) query (find_length e))
