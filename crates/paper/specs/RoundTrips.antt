-- Bundles out as well as in: what the writer writes, the reader opens; what the reader accepts, the writer writes again.
--
--   Shows n G answer      what `open` gave is the table G with its n and its row count
--   Opened bundle n Ts    the reader accepts the bundle: it has this n and as many tables, and table j of it, by rule and by `open`, is the j-th of Ts
--   Apart bundle          n, row counts and bodies of a bundle are what `open` gives of it, table by table
--   RoundTrips            both, of every result that the promises of `write_bundle` and of `open` allow, and of the exported functions
--
-- Of a bundle b, n is `variables_of b`, its tables are `tables_of b`, the row counts are `counts_of` of these, and the bodies `bodies_of`.
use Rattle.std.specs.Prelude.{Result}
use Rattle.checks.specs.Outcomes.{number_of}
use Rattle.checks.specs.declared.Refusal.{Refusal}
use Rattle.std.specs.Prelude.{◌≡◌, List, [], ◌++◌, ℕ, ◌*◌, ◌≤◌, ◌<◌, length, get_or, take, drop}
use Rattle.std.specs.Borrow.{Bor}
use Rattle.terms.specs.Monomials.{Table}
use Rattle.terms.specs.Rows.{rows, flat}
use Rattle.checks.specs.Refusals.{Accepts}
use Rattle.bundle.specs.Format.{variables_of, table_count, table_of, tables_of, Bytes, counts_of, bodies_of}
use Rattle.bundle.specs.Checks.{bundle_checks}
use Rattle.bundle.specs.Operation.{OpenPromise, opened_n, opened_rows, opened_bytes}
use Rattle.bundle.specs.declared.OpenedTable.{OpenedTable}
use Rattle.packing.specs.GivenTables.{given_tables}
use Rattle.packing.specs.Operation.{WritePromise, write_length}
use Rattle.interface.specs.Exports.{OpenExport, WriteExport}

pub record Shows (n : ℕ) (G : Table) (answer : Result OpenedTable Refusal) : Type 0 where
  pub number : number_of answer ≡ 0
  pub variables : opened_n answer ≡ n
  pub count : opened_rows answer ≡ length G
  pub bytes : opened_bytes answer ≡ flat G
  pub table : rows n (opened_bytes answer) ≡ G

pub record Opened (bundle : List ℕ) (n : ℕ) (Ts : List Table) : Type 1 where
  pub accepted : Accepts (bundle_checks bundle)
  pub variables : variables_of bundle ≡ n
  pub count : table_count bundle ≡ length Ts
  pub tables : (j : ℕ) → j < length Ts → table_of bundle j ≡ get_or Ts j []
  pub opens : (b : Bor (List ℕ)) → b.now ≡ bundle → (j : ℕ) → j < length Ts → (answer : Result OpenedTable Refusal) → OpenPromise b j answer → Shows n (get_or Ts j []) answer

pub record Apart (bundle : List ℕ) : Type 0 where
  pub counts : length (counts_of (tables_of bundle)) ≡ table_count bundle
  pub opens : (b : Bor (List ℕ)) → b.now ≡ bundle → (j : ℕ) → j < table_count bundle → (answer : Result OpenedTable Refusal) → OpenPromise b j answer
      → Shows (variables_of bundle) (get_or (tables_of bundle) j []) answer

pub record RoundTrips : Type 1 where
  -- what is written is opened, table for table
  pub opens : (n : ℕ) (counts tables buffer : List ℕ) (answer : Result ℕ Refusal) (after : List ℕ) → WritePromise n counts tables buffer answer after
      → number_of answer ≡ 0 → Opened (take (write_length answer) after) n (given_tables n counts tables)
  -- the tables given: as many as counts, each with as many rows as its count says, and end to end the bytes given
  pub given : (n : ℕ) (counts tables buffer : List ℕ) (answer : Result ℕ Refusal) (after : List ℕ) → WritePromise n counts tables buffer answer after
      → number_of answer ≡ 0 → (counts_of (given_tables n counts tables) ≡ counts) × (bodies_of (given_tables n counts tables) ≡ tables)
  -- what is accepted, taken apart and written into a buffer that holds it, is the same length and the same bytes; those behind stay
  pub again : (bundle : List ℕ) → Bytes bundle → Accepts (bundle_checks bundle) → (buffer : List ℕ) → length bundle ≤ length buffer
      → (answer : Result ℕ Refusal) (after : List ℕ)
      → WritePromise (variables_of bundle) (counts_of (tables_of bundle)) (bodies_of (tables_of bundle)) buffer answer after
      → (number_of answer ≡ 0) × (write_length answer ≡ length bundle) × (after ≡ bundle ++ drop (length bundle) buffer)
  pub apart : (bundle : List ℕ) → Accepts (bundle_checks bundle) → Apart bundle
  -- the same of the exported functions
  pub exported_opens : (n : ℕ) (counts tables buffer : List ℕ) (size : ℕ) (after : List ℕ) → WriteExport n counts tables buffer 0 size after
      → (j : ℕ) → j < length counts → (number m count offset : ℕ) → OpenExport (take size after) j number m count offset
      → (number ≡ 0) × (m ≡ n) × (count ≡ get_or counts j 0)
      × (take (count * m) (drop offset (take size after)) ≡ flat (get_or (given_tables n counts tables) j []))
  pub exported_again : (bundle : List ℕ) → Bytes bundle → Accepts (bundle_checks bundle) → (buffer : List ℕ) → length bundle ≤ length buffer
      → (number size : ℕ) (after : List ℕ)
      → WriteExport (variables_of bundle) (counts_of (tables_of bundle)) (bodies_of (tables_of bundle)) buffer number size after
      → (number ≡ 0) × (size ≡ length bundle) × (after ≡ bundle ++ drop (length bundle) buffer)
