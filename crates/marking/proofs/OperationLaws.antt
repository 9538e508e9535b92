-- Laws of the operation marks.
--
--   marks_unique           two results that the promise allows are equal
--   marks_accepts, marks_refuses   where no check refuses: the marks; where one does: its number, and the buffer as it was
--   refuses_table, refuses_rows    the number by which the table is refused: by 1 to 4, or where these pass by 12
--   marks_short, marks_done   where the table is accepted: 8 where there is no room, or the marks
use mathlib.Core.Path.{◌≡◌, refl, sym, ◌∙◌}
use mathlib.Core.List.{List, [], ◌∷◌}
use Prim.Native.Nat.{ℕ, ◌≤◌, ◌<◌}
use native.Mathlib.Omega.{arith}
use lib.ListN.{length}
use Rattle.std.specs.Prelude.{Result, Ok, Err, ⊤}
use Rattle.checks.specs.declared.Refusal.{Refusal}
use Rattle.checks.specs.declared.Refusal.TheVariants.{Room}
use Rattle.checks.specs.Outcomes.{number}
use Rattle.checks.specs.Refusals.{Check, refusal}
use Rattle.checks.proofs.RefusalLaws.{refusal_none, refusal_holds, refusal_passes, refuses_first, passes_first, answered_accepted, answered_refused}
use Rattle.checks.proofs.RefusalLaws.{accepts_refusal}
use Rattle.checks.proofs.OutcomeLaws.{number_positive, same_outcome, refused_on}
use Rattle.terms.specs.Monomials.{EqualRows, Distinct}
use Rattle.terms.specs.Rows.{rows}
use Rattle.terms.specs.TableChecks.{table_checks, TableAccepted}
use Rattle.terms.proofs.TableLaws.{accepts_table}
use Rattle.distinct.specs.EqualRows.{equal_rows_check, distinct_checks}
use Rattle.distinct.proofs.CheckLaws.{refuses_equal, refuses_distinct}
use Rattle.marking.specs.Operation.{buffer_check, marks_checks, marked, MarksPromise}

pub marks_unique : {n : ℕ} {table buffer : List ℕ} {a b : Result ⊤ Refusal} {c d : List ℕ} → MarksPromise n table buffer a c
    → MarksPromise n table buffer b d → (a ≡ b) × (c ≡ d)
marks_unique {a = a} {b = b} p q = (same_outcome tt a b (p.number ∙ sym q.number) refl, p.writes ∙ sym q.writes)

-- what is accepted passes the checks 1 to 4
passes_table : (n : ℕ) (table : List ℕ) → TableAccepted n table → refusal (table_checks n table) ≡ 0
passes_table n table t = accepts_refusal (table_checks n table) (accepts_table n table t)

module _ (n : ℕ) (table : List ℕ) (size : ℕ) where
  -- the first check that refuses
  pub refuses_table : (e : Refusal) → number e ≡ refusal (table_checks n table) → number e ≡ refusal (marks_checks n table size)
  refuses_table e m = refused_on (distinct_checks n table) (buffer_check n table size ∷ []) e
      (refused_on (table_checks n table) (equal_rows_check n table ∷ []) e m)

  pub refuses_rows : TableAccepted n table → EqualRows (rows n table) → 12 ≡ refusal (marks_checks n table size)
  refuses_rows t h = refuses_first (distinct_checks n table) (buffer_check n table size ∷ []) 12 (refuses_equal n table (passes_table n table t) h)
      (λ z. omega (arith, z))

module _ (n : ℕ) (table buffer : List ℕ) where
  abbrev checks : List Check
  checks = marks_checks n table (length buffer)

  pub marks_accepts : refusal checks ≡ 0 → MarksPromise n table buffer (Ok tt) (marked n (rows n table) buffer)
  marks_accepts e = record { number = sym e; writes = sym (answered_accepted checks (marked n (rows n table) buffer) buffer e) }

  pub marks_refuses : (e : Refusal) → number e ≡ refusal checks → MarksPromise n table buffer (Err e) buffer
  marks_refuses e m = record {
    number = m;
    writes = sym (answered_refused checks (marked n (rows n table) buffer) buffer (λ z. omega (arith, m, z, number_positive e)));
  }

-- where the table is accepted, the room decides
module _ (n : ℕ) (table buffer : List ℕ) (t : TableAccepted n table) (d : Distinct (rows n table)) where
  passed : refusal (distinct_checks n table) ≡ 0
  passed = sym (refuses_distinct n table (passes_table n table t) d)

  abbrev room : Check
  room = buffer_check n table (length buffer)

  pub marks_short : length buffer < length (rows n table) → MarksPromise n table buffer (Err Room) buffer
  marks_short h = marks_refuses n table buffer Room (passes_first (distinct_checks n table) (room ∷ []) 8 passed (sym (refusal_holds room [] h)))

  pub marks_done : length (rows n table) ≤ length buffer → (after : List ℕ) → after ≡ marked n (rows n table) buffer → MarksPromise n table buffer (Ok tt) after
  marks_done h after e = rw e (marks_accepts n table buffer (sym (passes_first (distinct_checks n table) (room ∷ []) 0 passed
      (sym (refusal_passes room [] (λ f. omega (arith, f, h)) ∙ refusal_none)))))
