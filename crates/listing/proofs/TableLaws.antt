-- Laws of the text of a table as it is made: from the marks in a buffer, and from what `complete` answers.
--
--   marked_length          marks at the front of a buffer serve as the marks of the rows
--   completed_ascends, completed_lines   rows that are the completed table of given rows: they ascend, and their lines are the text of the given table
--   Made n table k after   what stands in a buffer after k completed rows were written into it
--   made_rows              an accepted completion
--   made_none              a completion into 4,096 rows that is refused, of a table that passed the checks 1 to 4
use mathlib.Core.Path.{◌≡◌, refl, sym, ap, ap₂, ◌∙◌, subst}
use mathlib.Core.List.{List, ◌++◌}
use mathlib.Core.Logic.{by_cases}
use Prim.Native.Nat.{ℕ, zero, suc, ◌*◌, ◌≤◌, ◌<◌}
use native.Mathlib.Nat.{le-min, le-div_iff_mul-le}
use native.Mathlib.Decide.{dec_le}
use native.Mathlib.Omega.{arith}
use lib.ListN.{length, take, drop, length-append, get_or-append}
use Rattle.terms.specs.Monomials.{Table, OfSize}
use Rattle.terms.specs.Order.{Ascending}
use Rattle.terms.specs.Rows.{rows, flat}
use Rattle.checks.specs.Refusals.{refusal, Accepts}
use Rattle.terms.specs.TableChecks.{TableAccepted}
use Rattle.distinct.specs.EqualRows.{distinct_checks}
use Rattle.terms.proofs.RowsLaws.{rows_flat}
use Rattle.distinct.proofs.CheckLaws.{distinct_table}
use Rattle.checks.proofs.RefusalLaws.{accepted}
use Rattle.division.specs.Janet.{table_marks}
use Rattle.marking.specs.Operation.{marked}
use Rattle.division.proofs.MarkByteLaws.{length_table_marks}
use Rattle.completing.specs.Operation.{room_for, completed_of, CompletePromise}
use Rattle.std.specs.Prelude.{Ok, Err}
use Rattle.checks.specs.declared.Refusal.{Refusal}
use Rattle.checks.proofs.OutcomeLaws.{number_positive}
use Rattle.completion.specs.Completed.{completed}
use Rattle.completion.proofs.RuleFive.{completed_table}
use Rattle.completing.proofs.OperationLaws.{complete_count, complete_front, complete_length, room_enough, room_fits, accepted_room}
use Rattle.completing.proofs.OperationLaws.{room_limited, completed_of_size}
use Rattle.counts.specs.Counts.{steady_of}
use Rattle.listing.specs.Text.{row_lines, table_line, steady_line, whole_text, completed_text, table_text}
use Rattle.listing.proofs.BoundLaws.{table_text_room}

-- ---- marks

marked_lines : (H : Table) (marks rest : List ℕ) (k : ℕ) → k ≤ length marks → row_lines H (marks ++ rest) k ≡ row_lines H marks k
unfolding row_lines
marked_lines H marks rest zero h = refl
marked_lines H marks rest (suc k) h = rw (marked_lines H marks rest k (omega arith), get_or-append marks rest 0 k h)

pub marked_length : (n : ℕ) (H : Table) (buffer : List ℕ) {marks : List ℕ} → marks ≡ marked n H buffer → length H ≤ length marks
marked_length n H buffer e = omega (arith, ap length e, length-append (table_marks n H) (drop (length H) buffer), length_table_marks n H)

marked_text : (n j given : ℕ) (H : Table) (buffer : List ℕ) {marks : List ℕ} → marks ≡ marked n H buffer
    → whole_text j given H marks (steady_of H) ≡ completed_text n j given H
unfolding completed_text whole_text
marked_text n j given H buffer {marks} e =
    let lines : row_lines H marks (length H) ≡ row_lines H (table_marks n H) (length H) =
    rw e (marked_lines H (table_marks n H) (drop (length H) buffer) (length H) (omega (arith, length_table_marks n H))) in
    ap (λ (l : List ℕ). table_line j given (length H) ++ (l ++ steady_line (steady_of H))) lines

-- ---- rows that are the completed table of given rows

module _ (n : ℕ) (G : Table) {H : Table} (e : H ≡ completed n G) where
  pub completed_ascends : OfSize n G → Ascending H
  completed_ascends z = subst Ascending (sym e) (completed_table n G z).ascends

  -- with their marks they give the text of the given table
  pub completed_lines : (j : ℕ) → length H ≤ 4096 → (buffer : List ℕ) {marks : List ℕ} → marks ≡ marked n H buffer → {given : ℕ} → given ≡ length G
      → whole_text j given H marks (steady_of H) ≡ table_text n j G
  completed_lines j l buffer m {given} g =
      marked_text n j given H buffer m ∙ ap₂ (completed_text n j) g e ∙ sym (table_text_room n j G (omega (arith, ap length e)))

-- ---- the completed rows

pub record Made (n : ℕ) (table : List ℕ) (k : ℕ) (after : List ℕ) : Type 0 where
  pub some : 0 < n
  pub six : n ≤ 6
  pub fits : k * n ≤ length after
  pub same : rows n (take (k * n) after) ≡ completed_of n table
  pub limited : length (completed_of n table) ≤ 4096

pub made_rows : {n : ℕ} {table buffer : List ℕ} {k : ℕ} {after : List ℕ} → refusal (distinct_checks n table) ≡ 0
    → CompletePromise n table buffer (Ok k) after → Made n table k after
made_rows {n} {table} {buffer} {k} {after} r p =
    let t : TableAccepted n table = distinct_table n table r in
    let H : Table = completed_of n table in
    let z = completed_of_size n table in
    let counted : k ≡ length H = complete_count p in
    let front : take (k * n) after ≡ flat H = complete_front p in
    let room = accepted_room n table (length buffer) (sym p.number) in
    record {
      some = t.some;
      six = t.six;
      fits = omega (arith, room_fits n (length buffer) k (omega arith), complete_length p);
      same = ap (rows n) front ∙ rows_flat n H t.some z;
      limited = omega (arith, room_limited n (length buffer));
    }

-- six bytes for each of 4,096 rows are room for 4,096 rows
room_whole : (n : ℕ) → 0 < n → n ≤ 6 → 4096 ≤ room_for n (4096 * 6)
unfolding room_for
room_whole n h l = le-min (omega arith) ((le-div_iff_mul-le h).1 (omega arith))

pub made_none : {n : ℕ} {table buffer : List ℕ} {e : Refusal} {after : List ℕ} → refusal (distinct_checks n table) ≡ 0
    → CompletePromise n table buffer (Err e) after → length buffer ≡ 4096 * 6 → 4096 < length (completed_of n table)
made_none {n} {table} {buffer} {e} r p s =
    let a : Accepts (distinct_checks n table) = accepted (distinct_checks n table) r in
    let t = distinct_table n table r in
    by_cases (dec_le (length (completed_of n table)) 4096)
    (λ l.
    let room : length (completed_of n table) ≤ room_for n (length buffer) = rw s (omega (arith, room_whole n t.some t.six)) in
    absurd (omega (arith, number_positive e, p.number, room_enough n table (length buffer) a room)))
    (λ g. omega arith)
