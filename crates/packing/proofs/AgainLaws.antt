-- What is read is written again.
--
--   sized_read             the tables of a bundle have rows of n exponents
--   given_same             a bundle that the reader accepts, taken apart into row counts and bodies, is the bundle of these
--   again_writable         the writer accepts what it was taken apart into, where the buffer holds it
use mathlib.Core.Path.{◌≡◌, sym, ap, ◌∙◌, subst}
use mathlib.Core.List.Memᴰ
use mathlib.Core.List.{List, Memᴰ}
use mathlib.Core.Logic.{⊎_elim}
use Prim.Native.Nat.{ℕ, zero, suc, ◌+◌, ◌≤◌, ◌<◌}
use native.Mathlib.Omega.{arith}
use lib.ListN.{length, drop}
use Rattle.checks.specs.Refusals.{refusal}
use Rattle.checks.proofs.TestLaws.{false_tests, tests_false}
use Rattle.terms.specs.Monomials.{Table, OfSize, Distinct}
use Rattle.terms.specs.TableChecks.{EntryAbove50, tests_entry_above50}
use Rattle.terms.proofs.RowsLaws.{rows_size}
use Rattle.bundle.specs.Format.{variables_of, table_count, header_length, body_of, table_of, tables_from, tables_of}
use Rattle.bundle.specs.Format.{Bytes, counts_of, bodies_of, bundle_of, place_of}
use Rattle.bundle.specs.Checks.{bundle_checks, LargeEntry, tests_large_entry}
use Rattle.bundle.proofs.AcceptedLaws.{Laid, Accepted, accepted_bundle, entries_here, length_table}
use Rattle.bundle.proofs.BytesLaws.{length_tables_from, read_bodies, bundle_again}
use Rattle.packing.specs.GivenTables.{given_bundle}
use Rattle.packing.proofs.CheckLaws.{Writable}
use Rattle.packing.proofs.GivenLaws.{given_again, total_bodies, length_counts}

-- what holds of each table by number holds of each
read_each : (b : List ℕ) (P : Table → Type 0) → ((j : ℕ) → j < table_count b → P (table_of b j)) → (m j : ℕ) → j + m ≡ table_count b
    → (G : Table) → Memᴰ G (tables_from b j m) → P G
unfolding tables_from
read_each b P f zero j e G i = absurd (Memᴰ.not-nil i)
read_each b P f (suc m) j e G i = ⊎_elim
    (λ q. subst P (sym q) (f j (omega arith)))
    (read_each b P f m (suc j) (omega arith) G)
    (Memᴰ.cases_cons i)

-- the tables of a bundle have rows of n exponents
pub sized_read : (b : List ℕ) (m j : ℕ) (G : Table) → Memᴰ G (tables_from b j m) → OfSize (variables_of b) G
unfolding tables_from
sized_read b zero j G i = absurd (Memᴰ.not-nil i)
sized_read b (suc m) j G i = ⊎_elim
    (λ q. subst (λ (F : Table). OfSize (variables_of b) F) (sym q) (rows_size (variables_of b) (body_of b j)))
    (sized_read b m (suc j) G)
    (Memᴰ.cases_cons i)

-- and at most 4,096 of them
counts_limited : (b : List ℕ) → Laid b → (m j : ℕ) → j + m ≡ table_count b → (c : ℕ) → Memᴰ c (counts_of (tables_from b j m)) → c ≤ 4096
unfolding counts_of tables_from
counts_limited b a zero j e c i = absurd (Memᴰ.not-nil i)
counts_limited b a (suc m) j e c i =
    let h : j < table_count b = omega arith in
    ⊎_elim
    (λ q. omega (arith, q, length_table b a j h, (a.tables j h).limited))
    (counts_limited b a m (suc j) (omega arith) c)
    (Memᴰ.cases_cons i)

module _ (b : List ℕ) (bytes : Bytes b) (e : refusal (bundle_checks b) ≡ 0) where
  abbrev a : Accepted b
  a = accepted_bundle b e

  abbrev tables : List Table
  tables = tables_of b

  pub given_same : given_bundle (variables_of b) (counts_of tables) (bodies_of tables) ≡ b
  given_same = ap (bundle_of (variables_of b)) (given_again (variables_of b) tables (sized_read b (table_count b) 0)) ∙ bundle_again b bytes a.layout

  small_bodies : EntryAbove50 (bodies_of tables) → ⊥
  unfolding place_of
  small_bodies =
      let none : LargeEntry b → ⊥ = λ r. omega (arith, a.small r.0 r.2.0 r.1 r.2.1, r.2.2) in
      let behind : bodies_of tables ≡ drop (header_length b) b = read_bodies b bytes a.layout (table_count b) 0 (omega arith) in
      false_tests (tests_entry_above50 (bodies_of tables)) (rw behind (entries_here b a.layout ∙ sym (tests_false (tests_large_entry b) none)))

  pub again_writable : (room : ℕ) → length b ≤ room → Writable (variables_of b) (counts_of tables) (bodies_of tables) room
  again_writable room h =
      let f = a.layout.frame in
      let k : length (counts_of tables) ≡ table_count b = length_counts tables ∙ length_tables_from b 0 (table_count b) in
      let same = ap length given_same in
      record {
        shape = record {
          some_variables = f.some_variables;
          six = f.six;
          some_tables = omega (arith, f.some_tables);
          sixteen = omega (arith, f.sixteen);
          whole = total_bodies (variables_of b) tables (sized_read b (table_count b) 0);
          limited = counts_limited b a.layout (table_count b) 0 (omega arith);
        };
        small = small_bodies;
        distinct = rw (given_again (variables_of b) tables (sized_read b (table_count b) 0))
            (read_each b Distinct a.distinct (table_count b) 0 (omega arith));
        fits = omega arith;
        short = omega (arith, f.short);
      }
