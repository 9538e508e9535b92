-- Laws of the operation inside.
--
--   inside_unique          two answers that the promise allows are equal
--   inside_accepts, inside_refuses   where no check refuses: the first row that divides; where one does: its number
--   inside_finds           what an accepted answer says
--   refuses_length, refuses_none   the number of the first check that refuses, where the table's pass
--   inside_passed, inside_length   what is known of inputs that passed
--   found_query            what the code finds for the query as a row it finds for the query
use mathlib.Core.Path.{◌≡◌, sym, ap, ◌∙◌}
use mathlib.Core.List.{List, [], ◌∷◌}
use mathlib.Core.Option.{none}
use Prim.Native.Nat.{ℕ}
use native.Mathlib.Omega.{arith}
use lib.ListN.{length}
use Rattle.std.specs.Prelude as code
use Rattle.std.specs.Prelude.{Result, Ok, Err}
use Rattle.checks.specs.declared.Refusal.{Refusal}
use Rattle.checks.specs.Outcomes.{number, value_or}
use Rattle.checks.specs.Refusals.{Check, refusal}
use Rattle.checks.proofs.TestLaws.{stable, tests_eq}
use Rattle.checks.proofs.RefusalLaws.{accepted, refusal_none, refusal_holds, refusal_passes, passes_first, accepts_head, accepts_right, answered_accepted}
use Rattle.checks.proofs.RefusalLaws.{answered_refused}
use Rattle.checks.proofs.OutcomeLaws.{number_positive, same_outcome}
use Rattle.terms.specs.Monomials.{Monomial, Table}
use Rattle.terms.specs.Rows.{rows, as_row}
use Rattle.terms.specs.TableChecks.{TableAccepted}
use Rattle.terms.specs.declared.RowNumber.{RowNumber}
use Rattle.distinct.specs.EqualRows.{distinct_checks}
use Rattle.distinct.proofs.CheckLaws.{distinct_listed}
use Rattle.division.specs.Scan.{found_row, number_found}
use Rattle.division.specs.Checks.{OtherLength, length_check}
use Rattle.division.proofs.RangeLaws.{found_number, number_row}
use Rattle.inside.specs.FirstDividing.{first_dividing, DividesFirst}
use Rattle.inside.specs.Operation.{inside_checks, inside_row, InsidePromise}
use Rattle.inside.proofs.FirstLaws.{divides_first, first_padded}

-- ---- one answer

same_row : (f g : code.Option RowNumber) → number_found f ≡ number_found g → f ≡ g
same_row f g e = sym (found_number f) ∙ ap found_row e ∙ found_number g

pub inside_unique : {n : ℕ} {table query : List ℕ} {a b : Result (code.Option RowNumber) Refusal} → InsidePromise n table query a
    → InsidePromise n table query b → a ≡ b
inside_unique {a = a} {b = b} p q = same_outcome code.None a b (p.number ∙ sym q.number)
    (same_row (value_or code.None a) (value_or code.None b) (p.row ∙ sym q.row))

-- ---- the query as a row

pub found_query : (G : Table) (n : ℕ) (query : Monomial) → found_row (first_dividing G (as_row n query).exponents) ≡ found_row (first_dividing G query)
unfolding as_row first_dividing
found_query G n query = ap found_row (first_padded 0 G query)

module _ (n : ℕ) (table query : List ℕ) where
  abbrev checks : List Check
  checks = inside_checks n table query

  -- ---- accepted and refused

  pub inside_accepts : refusal checks ≡ 0 → (f : code.Option RowNumber) → f ≡ found_row (first_dividing (rows n table) query)
      → InsidePromise n table query (Ok f)
  inside_accepts e f is = record {
    number = sym e;
    row = ap number_found is ∙ number_row (first_dividing (rows n table) query) ∙ sym (answered_accepted checks _ none e);
  }

  pub inside_refuses : (e : Refusal) → number e ≡ refusal checks → InsidePromise n table query (Err e)
  inside_refuses e m = record { number = m; row = sym (answered_refused checks _ none (λ z. omega (arith, m, z, number_positive e))) }

  -- ---- the first check that refuses

  module _ (a : refusal (distinct_checks n table) ≡ 0) where
    pub refuses_length : OtherLength n query → 5 ≡ refusal (inside_checks n table query)
    refuses_length h = passes_first (distinct_checks n table) (length_check n query ∷ []) 5 a (sym (refusal_holds (length_check n query) [] h))

    pub refuses_none : length query ≡ n → 0 ≡ refusal (inside_checks n table query)
    refuses_none e = passes_first (distinct_checks n table) (length_check n query ∷ []) 0 a
        (sym (refusal_passes (length_check n query) [] (λ f. f e) ∙ refusal_none))

  -- ---- inputs that passed

  module _ (e : refusal (inside_checks n table query) ≡ 0) where
    pub inside_passed : TableAccepted n table
    inside_passed = distinct_listed n table (length_check n query ∷ []) e

    pub inside_length : length query ≡ n
    inside_length = stable (tests_eq (length query) n) (accepts_head (length_check n query) []
        (accepts_right (distinct_checks n table) (length_check n query ∷ []) (accepted (inside_checks n table query) e)))

    -- ---- what an accepted answer says, in the words of rule 1

    pub inside_finds : (answer : Result (code.Option RowNumber) Refusal) → InsidePromise n table query answer
        → DividesFirst (rows n table) query (inside_row answer)
    inside_finds answer p = rw (p.row ∙ answered_accepted checks _ none e) (divides_first (rows n table) query)
