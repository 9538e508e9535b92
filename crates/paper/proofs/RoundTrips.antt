-- What is written is opened, and what is accepted is written again.
--
--   round_trips
use Rattle.std.specs.Prelude.{Result, Ok, Err}
use Rattle.checks.proofs.OutcomeLaws.{number_positive}
use Rattle.checks.specs.Outcomes.{number_of}
use Rattle.checks.specs.declared.Refusal.{Refusal}
use mathlib.Core.Path.{◌≡◌, refl, sym, ap, ◌∙◌, subst}
use mathlib.Core.List.{List, [], ◌++◌}
use Prim.Native.Nat.{ℕ, ◌*◌, ◌≤◌, ◌<◌}
use native.Mathlib.Omega.{arith}
use denote.Ref.{Bor}
use lib.ListN.{length, get_or, take, drop}
use Rattle.terms.specs.Monomials.{Table}
use Rattle.terms.specs.Rows.{flat}
use Rattle.terms.proofs.RowsLaws.{length_first_rows}
use Rattle.checks.specs.Refusals.{Accepts, refusal}
use Rattle.checks.proofs.RefusalLaws.{accepted, accepts_refusal, answered_accepted}
use Rattle.bundle.specs.Format.{variables_of, table_count, tables_of, Bytes, counts_of, bodies_of, body_of}
use Rattle.bundle.specs.Checks.{bundle_checks, open_checks}
use Rattle.bundle.specs.Operation.{OpenPromise, opened_bytes}
use Rattle.bundle.specs.declared.OpenedTable.{OpenedTable}
use Rattle.bundle.proofs.BytesLaws.{length_tables_from}
use Rattle.bundle.proofs.ReadLaws.{opens_table, numbers}
use Rattle.packing.specs.GivenTables.{given_tables}
use Rattle.packing.specs.Operation.{WritePromise, write_length}
use Rattle.packing.proofs.CheckLaws.{writable, writable_passes}
use Rattle.packing.proofs.GivenLaws.{length_given, counts_given, bodies_given, given_at, length_counts}
use Rattle.packing.proofs.OperationLaws.{write_unique, write_accepts, write_front}
use Rattle.packing.proofs.RoundLaws.{Opens, opens_at, opens_count, opens_body, written_opens}
use Rattle.packing.proofs.AgainLaws.{given_same, again_writable}
use Rattle.interface.specs.Exports.{OpenExport, WriteExport}
use Rattle.paper.specs.RoundTrips.{Shows, Opened, Apart, RoundTrips}

-- what `open` gives of a bundle of known tables
shows : {n : ℕ} {Ts : List Table} (b : Bor (List ℕ)) → Opens b.now n Ts → (j : ℕ) → j < length Ts → (answer : Result OpenedTable Refusal) → OpenPromise b j answer
    → Shows n (get_or Ts j []) answer
shows {n} {Ts} b o j h answer p =
    let checks = open_checks b.now j in
    let z : refusal checks ≡ 0 = sym (opens_table b.now j o.passes (omega (arith, o.count))) in
    let body : opened_bytes answer ≡ body_of b.now j = p.shown ∙ answered_accepted checks (body_of b.now j) [] z in
    record {
      number = p.number ∙ z;
      variables = p.variables ∙ answered_accepted checks _ 0 z ∙ o.variables;
      count = p.count ∙ answered_accepted checks _ 0 z ∙ opens_count o j h;
      bytes = body ∙ opens_body o j h;
      table = rw (body, ← o.variables) (opens_at o j h);
    }

opened : {bundle : List ℕ} {n : ℕ} {Ts : List Table} → Opens bundle n Ts → Opened bundle n Ts
opened {bundle} {n} {Ts} o = record {
  accepted = accepted (bundle_checks bundle) o.passes;
  variables = o.variables;
  count = o.count;
  tables = opens_at o;
  opens = λ b e j h answer p. shows b (subst (λ (x : List ℕ). Opens x n Ts) (sym e) o) j h answer p;
}

-- ---- what is written

module _ {n : ℕ} {counts tables buffer : List ℕ} where
  write_opens : (answer : Result ℕ Refusal) {after : List ℕ} → WritePromise n counts tables buffer answer after → number_of answer ≡ 0
      → Opens (take (write_length answer) after) n (given_tables n counts tables)
  write_opens (Ok k) p e = rw (write_front p) (written_opens (writable n counts tables (length buffer) (sym p.number)))
  write_opens (Err x) p e = absurd (omega (arith, e, number_positive x))

  write_given : (answer : Result ℕ Refusal) {after : List ℕ} → WritePromise n counts tables buffer answer after → number_of answer ≡ 0
      → (counts_of (given_tables n counts tables) ≡ counts) × (bodies_of (given_tables n counts tables) ≡ tables)
  write_given answer p e = (
    counts_given n counts tables,
    bodies_given n counts tables (writable n counts tables (length buffer) (sym p.number ∙ e)).shape.whole,
  )

-- ---- what is accepted

reads : (bundle : List ℕ) → Accepts (bundle_checks bundle) → Opens bundle (variables_of bundle) (tables_of bundle)
reads bundle a = record {
  passes = accepts_refusal (bundle_checks bundle) a;
  variables = refl;
  count = sym (length_tables_from bundle 0 (table_count bundle));
  tables = refl;
}

apart : (bundle : List ℕ) → Accepts (bundle_checks bundle) → Apart bundle
apart bundle a =
    let o = reads bundle a in
    record {
      counts = length_counts (tables_of bundle) ∙ sym o.count;
      opens = λ b e j h answer p. (opened o).opens b e j (omega (arith, o.count)) answer p;
    }

write_again : (bundle : List ℕ) → Bytes bundle → Accepts (bundle_checks bundle) → (buffer : List ℕ) → length bundle ≤ length buffer
    → (answer : Result ℕ Refusal) (after : List ℕ)
    → WritePromise (variables_of bundle) (counts_of (tables_of bundle)) (bodies_of (tables_of bundle)) buffer answer after
    → (number_of answer ≡ 0) × (write_length answer ≡ length bundle) × (after ≡ bundle ++ drop (length bundle) buffer)
write_again bundle bytes a buffer h answer after p =
    let n = variables_of bundle in
    let counts = counts_of (tables_of bundle) in
    let tables = bodies_of (tables_of bundle) in
    let z = accepts_refusal (bundle_checks bundle) a in
    let same = given_same bundle bytes z in
    let accepts = writable_passes n counts tables (length buffer) (again_writable bundle bytes z (length buffer) h) in
    let u = write_unique p (write_accepts n counts tables buffer (length bundle) (bundle ++ drop (length bundle) buffer) accepts
    (ap length (sym same)) (rw same)) in
    (ap number_of u.0, ap write_length u.0, u.1)

-- ---- the exported functions

exported_opens : (n : ℕ) (counts tables buffer : List ℕ) (size : ℕ) (after : List ℕ) → WriteExport n counts tables buffer 0 size after
    → (j : ℕ) → j < length counts → (number m count offset : ℕ) → OpenExport (take size after) j number m count offset
    → (number ≡ 0) × (m ≡ n) × (count ≡ get_or counts j 0)
    × (take (count * m) (drop offset (take size after)) ≡ flat (get_or (given_tables n counts tables) j []))
exported_opens n counts tables buffer size after x j h number m count offset y =
    let bundle = take size after in
    let Ts = given_tables n counts tables in
    let o : Opens bundle n Ts = rw x.size_is (write_opens x.answer x.promise (sym x.returned)) in
    let l : j < length Ts = omega (arith, length_given n counts tables) in
    let z : refusal (open_checks bundle j) ≡ 0 = sym (opens_table bundle j o.passes (omega (arith, o.count))) in
    let f = numbers bundle j y.answer y.promise z in (
      y.returned ∙ y.promise.number ∙ z,
      y.variables ∙ f.0 ∙ o.variables,
      y.count ∙ f.1 ∙ opens_count o j l ∙ ap length (given_at n counts tables j h) ∙ length_first_rows n (get_or counts j 0) _,
      rw (y.variables, y.count, y.begins, f.0, f.1, f.2) (opens_body o j l),
    )

pub round_trips : RoundTrips
round_trips = record {
  opens = λ n counts tables buffer answer after p e. opened (write_opens answer p e);
  given = λ n counts tables buffer answer after p e. write_given answer p e;
  again = write_again;
  apart = apart;
  exported_opens = exported_opens;
  exported_again = λ bundle bytes a buffer h number size after x.
      let w = write_again bundle bytes a buffer h x.answer after x.promise in (x.returned ∙ w.0, x.size_is ∙ w.1, w.2);
}
