-- Laws of what `complete` promises.
--
--   complete_unique        two results that the promise allows are equal
--   complete_accepts       where no check refuses: the row count, the rows at the front, and the bytes behind them
--   complete_refuses       where one does: its number, and the buffer as it was
--   complete_rows_lem      an accepted result: the first rows of the buffer are rule 5's table of the given rows, and the bytes behind them stay
--   complete_count, complete_written, complete_front, complete_behind   its row count, the buffer, the bytes of those rows, and the bytes behind them
--   complete_length        no result changes the buffer's length
--   room_fits, room_holds   rows within the room fit the buffer, and so many rows that fit are within it
--   room_enough, no_room   8 after the checks 1 to 4 and 12 passed, in terms of the completed table
use mathlib.Core.Path.{◌≡◌, sym, ap, ◌∙◌, subst}
use mathlib.Core.List.{List, [], ◌∷◌}
use Prim.Native.Nat.{ℕ, min, ◌*◌, ◌/◌, ◌≤◌, ◌<◌}
use Rattle.std.proofs.lemmas.Nat.{le-div}
use native.Mathlib.Nat.{le_trans, min-le_left, min-le_right, le-min, mul-le-mul_right, le_of_mul-le-mul_right, div-mul-le_self}
use native.Mathlib.Omega.{arith}
use lib.ListN.{length, take, drop, length-append, length-drop}
use lib.Seq.{take_at, drop_at}
use Rattle.checks.proofs.TestLaws.{stable, tests_le}
use Rattle.terms.specs.Monomials.{Table, OfSize}
use Rattle.terms.specs.Rows.{rows, first_rows, flat}
use Rattle.std.specs.Prelude.{Result, Ok, Err}
use Rattle.checks.specs.declared.Refusal.{Refusal}
use Rattle.checks.specs.Outcomes.{number}
use Rattle.checks.proofs.OutcomeLaws.{number_positive, same_outcome}
use Rattle.checks.specs.Refusals.{Check, Accepts, refusal}
use Rattle.distinct.specs.EqualRows.{distinct_checks}
use Rattle.checks.proofs.RefusalLaws.{accepted, accepts_head, accepts_right, refusal_none, refusal_holds, refusal_passes, refusal_append, answered_accepted}
use Rattle.checks.proofs.RefusalLaws.{answered_refused}
use Rattle.terms.proofs.RowsLaws.{rows_size, length_flat, first_rows_flat}
use Rattle.completion.specs.Completed.{CompletedTable}
use Rattle.completing.specs.Operation.{room_for, completed_of, NoRoom, room_check, complete_checks, completed_buffer, CompletePromise}
use Rattle.completion.proofs.RuleFive.{completed_table}
use Rattle.completion.proofs.SmallestTable.{completion_size}

-- ---- one result

pub complete_unique : {n : ℕ} {table buffer : List ℕ} {r s : Result ℕ Refusal} {x y : List ℕ} → CompletePromise n table buffer r x →
    CompletePromise n table buffer s y → (r ≡ s) × (x ≡ y)
complete_unique p q = (
  same_outcome 0 _ _ (p.number ∙ sym q.number) (p.count ∙ sym q.count),
  p.writes ∙ sym q.writes,
)

-- ---- accepted and refused

module _ (n : ℕ) (table buffer : List ℕ) where
  abbrev checks : List Check
  checks = complete_checks n table (length buffer)

  pub complete_accepts : refusal checks ≡ 0 → CompletePromise n table buffer (Ok (length (completed_of n table))) (completed_buffer n table buffer)
  complete_accepts e = record {
    number = sym e;
    count = sym (answered_accepted checks _ 0 e);
    writes = sym (answered_accepted checks (completed_buffer n table buffer) buffer e);
  }

  pub complete_refuses : (e : Refusal) → number e ≡ refusal checks → CompletePromise n table buffer (Err e) buffer
  complete_refuses e m =
      let f : refusal checks ≡ 0 → ⊥ = λ z. omega (arith, m, z, number_positive e) in
      record {
        number = m;
        count = sym (answered_refused checks _ 0 f);
        writes = sym (answered_refused checks (completed_buffer n table buffer) buffer f);
      }

-- ---- after the checks 1 to 4 and 12

pub room_enough : (n : ℕ) (table : List ℕ) (size : ℕ) → Accepts (distinct_checks n table) → length (completed_of n table) ≤ room_for n size →
    refusal (complete_checks n table size) ≡ 0
room_enough n table size a l =
    refusal_append (distinct_checks n table) (room_check n table size ∷ []) a
    ∙ refusal_passes (room_check n table size) [] (λ (h : NoRoom n table size). omega arith)
    ∙ refusal_none

pub no_room : (n : ℕ) (table : List ℕ) (size : ℕ) → Accepts (distinct_checks n table) → NoRoom n table size → refusal (complete_checks n table size) ≡ 8
no_room n table size a h = refusal_append (distinct_checks n table) (room_check n table size ∷ []) a ∙ refusal_holds (room_check n table size) [] h

-- ---- what stands in the buffer

pub room_fits : (n size k : ℕ) → k ≤ room_for n size → k * n ≤ size
unfolding room_for
room_fits n size k h =
    let l : k * n ≤ size / n * n = mul-le-mul_right n (le_trans h (min-le_right 4096 (size / n))) in
    le_trans l (div-mul-le_self size n)

-- and rows that fit the buffer, or the bytes of 4,096 rows where these are fewer, are within the room
pub room_holds : (n size k : ℕ) → 0 < n → k * n ≤ min size (4096 * n) → k ≤ room_for n size
unfolding room_for
room_holds n size k p h = le-min
    (le_of_mul-le-mul_right (le_trans h (min-le_right size (4096 * n))) p)
    (le-div k size n p (le_trans h (min-le_left size (4096 * n))))

-- there is never room for more than 4,096 rows
pub room_limited : (n size : ℕ) → room_for n size ≤ 4096
unfolding room_for
room_limited n size = min-le_left 4096 (size / n)

-- a table that is accepted has room
pub accepted_room : (n : ℕ) (table : List ℕ) (size : ℕ) → refusal (complete_checks n table size) ≡ 0 → length (completed_of n table) ≤ room_for n size
accepted_room n table size e = stable (tests_le (length (completed_of n table)) (room_for n size)) (λ g. accepts_head (room_check n table size) []
    (accepts_right (distinct_checks n table) (room_check n table size ∷ []) (accepted (complete_checks n table size) e)) (omega (arith, g)))

-- the completed rows have n exponents each
pub completed_of_size : (n : ℕ) (table : List ℕ) → OfSize n (completed_of n table)
completed_of_size n table = completion_size (completed_table n (rows n table) (rows_size n table))

module _ {n : ℕ} {table buffer : List ℕ} {k : ℕ} {after : List ℕ} (p : CompletePromise n table buffer (Ok k) after) where
  pub complete_count : k ≡ length (completed_of n table)
  complete_count = p.count ∙ answered_accepted (checks n table buffer) _ 0 (sym p.number)

  pub complete_written : after ≡ completed_buffer n table buffer
  complete_written = p.writes ∙ answered_accepted (checks n table buffer) (completed_buffer n table buffer) buffer (sym p.number)

  pub complete_rows_lem : CompletedTable n (rows n table) (first_rows n k after)
  complete_rows_lem =
      let e : first_rows n k after ≡ completed_of n table = rw (complete_count, complete_written)
      (first_rows_flat n (completed_of n table) (drop (length (completed_of n table) * n) buffer) (completed_of_size n table)) in
      subst (λ (H : Table). CompletedTable n (rows n table) H) (sym e) (completed_table n (rows n table) (rows_size n table))

  -- the bytes at the front are the completed rows
  pub complete_front : take (k * n) after ≡ flat (completed_of n table)
  complete_front =
      let l : length (flat (completed_of n table)) ≡ length (completed_of n table) * n = length_flat n (completed_of n table) (completed_of_size n table) in
      rw (complete_count, complete_written) (take_at (flat (completed_of n table)) (drop (length (completed_of n table) * n) buffer)
      (length (completed_of n table) * n) l)

  pub complete_behind : drop (k * n) after ≡ drop (k * n) buffer
  complete_behind =
      let l : length (flat (completed_of n table)) ≡ length (completed_of n table) * n = length_flat n (completed_of n table) (completed_of_size n table) in
      rw (complete_count, complete_written) (drop_at (flat (completed_of n table)) (drop (length (completed_of n table) * n) buffer)
      (length (completed_of n table) * n) l)

  complete_same : length after ≡ length buffer
  complete_same =
      let H : Table = completed_of n table in
      let l : length (flat H) ≡ length H * n = length_flat n H (completed_of_size n table) in
      let f : length H * n ≤ length buffer = room_fits n (length buffer) (length H) (accepted_room n table (length buffer) (sym p.number)) in
      ap length (complete_written) ∙ length-append (flat H) (drop (length H * n) buffer) ∙ omega (arith, length-drop (length H * n) buffer)

-- beside a refusal the buffer stays
complete_kept : {n : ℕ} {table buffer : List ℕ} {e : Refusal} {after : List ℕ} → CompletePromise n table buffer (Err e) after → after ≡ buffer
complete_kept {n} {table} {buffer} {e} p =
    p.writes ∙ answered_refused (checks n table buffer) (completed_buffer n table buffer) buffer (λ z. omega (arith, number_positive e, p.number, z))

pub complete_length : {n : ℕ} {table buffer : List ℕ} {answer : Result ℕ Refusal} {after : List ℕ} → CompletePromise n table buffer answer after →
    length after ≡ length buffer
complete_length {answer = Ok k} p = complete_same p
complete_length {answer = Err e} p = ap length (complete_kept p)
