-- Laws of what `write_bundle` promises.
--
--   write_unique           two results that the promise allows are equal
--   write_accepts          where no check refuses: the bundle's length, the bundle at the front, and the bytes behind it
--   write_refuses          where one does: its number, and the buffer as it was
--   write_size, write_written, write_front, write_behind   an accepted result: its length, the buffer, the bundle, the bytes behind it
--   write_bound            a length is at most 65,535
use mathlib.Core.Path.{◌≡◌, sym, ◌∙◌}
use mathlib.Core.List.{List}
use Prim.Native.Nat.{ℕ, ◌≤◌}
use native.Mathlib.Omega.{arith}
use lib.ListN.{length, take, drop}
use lib.Seq.{take_at, drop_at}
use Rattle.checks.specs.Refusals.{Check, refusal}
use Rattle.checks.specs.declared.Refusal.{Refusal}
use Rattle.checks.specs.Outcomes.{number}
use Rattle.checks.proofs.OutcomeLaws.{number_positive, same_outcome}
use Rattle.checks.proofs.RefusalLaws.{answered_accepted, answered_refused}
use Rattle.std.specs.Prelude.{Result, Ok, Err}
use Rattle.packing.specs.GivenTables.{given_bundle}
use Rattle.packing.specs.Operation.{write_checks, written_buffer, WritePromise}
use Rattle.packing.proofs.CheckLaws.{writable}

pub write_unique : {n : ℕ} {counts tables buffer : List ℕ} {r s : Result ℕ Refusal} {x y : List ℕ} → WritePromise n counts tables buffer r x
    → WritePromise n counts tables buffer s y → (r ≡ s) × (x ≡ y)
write_unique {r = r} {s} p q = (same_outcome 0 r s (p.number ∙ sym q.number) (p.size ∙ sym q.size), p.writes ∙ sym q.writes)

-- ---- accepted and refused

module _ (n : ℕ) (counts tables buffer : List ℕ) where
  abbrev checks : List Check
  checks = write_checks n counts tables (length buffer)

  pub write_accepts : (size : ℕ) (after : List ℕ) → refusal checks ≡ 0 → size ≡ length (given_bundle n counts tables)
      → after ≡ written_buffer n counts tables buffer → WritePromise n counts tables buffer (Ok size) after
  write_accepts size after e l w = record {
    number = sym e;
    size = l ∙ sym (answered_accepted checks (length (given_bundle n counts tables)) 0 e);
    writes = w ∙ sym (answered_accepted checks (written_buffer n counts tables buffer) buffer e);
  }

  pub write_refuses : (e : Refusal) → number e ≡ refusal checks → WritePromise n counts tables buffer (Err e) buffer
  write_refuses e m =
      let f : refusal checks ≡ 0 → ⊥ = λ z. omega (arith, m, z, number_positive e) in
      record {
        number = m;
        size = sym (answered_refused checks (length (given_bundle n counts tables)) 0 f);
        writes = sym (answered_refused checks (written_buffer n counts tables buffer) buffer f);
      }

-- ---- what stands in the buffer

module _ {n : ℕ} {counts tables buffer : List ℕ} {k : ℕ} {after : List ℕ} (p : WritePromise n counts tables buffer (Ok k) after) where
  pub write_size : k ≡ length (given_bundle n counts tables)
  write_size = p.size ∙ answered_accepted (checks n counts tables buffer) (length (given_bundle n counts tables)) 0 (sym p.number)

  pub write_written : after ≡ written_buffer n counts tables buffer
  write_written = p.writes ∙ answered_accepted (checks n counts tables buffer) (written_buffer n counts tables buffer) buffer (sym p.number)

  pub write_front : take k after ≡ given_bundle n counts tables
  write_front = rw write_written (take_at (given_bundle n counts tables) _ k (sym write_size))

  pub write_behind : drop k after ≡ drop k buffer
  write_behind = rw (write_written, ← write_size) (drop_at (given_bundle n counts tables) (drop k buffer) k (sym write_size))

  pub write_bound : k ≤ 65535
  write_bound = omega (arith, write_size, (writable n counts tables (length buffer) (sym p.number)).short)
