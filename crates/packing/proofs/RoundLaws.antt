-- What is written is read.
--
--   Read, read_from        tables whose entries and bodies stand in a bundle are the tables read from it
--   Packable, Opens, bundle_opens   the bundle of tables is accepted, and its n and its tables are those given
--   opens_at, opens_count, opens_body   table j of it, its row count and its body
--   written_opens          so is what the writer makes of inputs that it accepts
use mathlib.Core.Path.{◌≡◌, refl, sym, ap, ◌∙◌, subst}
use mathlib.Core.List.Memᴰ
use mathlib.Core.List.{List, [], ◌∷◌, ◌++◌, Memᴰ}
use mathlib.Core.Logic.{by_cases, ⊎_elim}
use Prim.Native.Nat.{ℕ, suc, ◌+◌, ◌*◌, ◌≤◌, ◌<◌}
use native.Mathlib.Nat.{div-add-mod'}
use native.Mathlib.Decide.{ℕ_discrete}
use native.Mathlib.Omega.{arith}
use lib.ListN.{length, get_or, drop, length-append}
use lib.Seq.{drop-drop, take_at, drop_at, get_or-drop}
use Rattle.checks.specs.Refusals.{refusal}
use Rattle.checks.proofs.TestLaws.{stable, false_tests, tests_le, tests_false}
use Rattle.terms.specs.Monomials.{Table, OfSize, Distinct}
use Rattle.terms.specs.Rows.{flat}
use Rattle.terms.specs.TableChecks.{EntryAbove50, tests_entry_above50}
use Rattle.terms.proofs.RowsLaws.{member_at, length_flat, rows_flat}
use Rattle.bundle.specs.Format.{byte_at, number16, variables_of, table_count, row_count, offset_of, place_of, body_of, table_of}
use Rattle.bundle.specs.Format.{tables_from, tables_of, low, high, counts_of, entries_of, bodies_of, bundle_of}
use Rattle.bundle.specs.Checks.{LargeEntry, bundle_checks, tests_large_entry}
use Rattle.bundle.proofs.CheckLaws.{TableLaid}
use Rattle.bundle.proofs.AcceptedLaws.{Laid, accepted_bundle, bundle_accepted, entries_here, length_table, flat_table}
use Rattle.bundle.proofs.BytesLaws.{tables_from_at}
use Rattle.packing.specs.GivenTables.{given_tables, given_bundle}
use Rattle.packing.proofs.CheckLaws.{Writable}
use Rattle.packing.proofs.GivenLaws.{length_given, counts_given, sized_given, bodies_given, length_entries, length_bundle, length_counts}

-- ---- the tables read from a bundle whose header and bodies are those of tables

pub record Read (b : List ℕ) (j : ℕ) (Ts : List Table) : Type 0 where
  pub tables : tables_from b j (length Ts) ≡ Ts
  pub laid : (i : ℕ) → j ≤ i → i < j + length Ts → TableLaid b i
  pub ends : place_of b (j + length Ts) ≡ length b

-- a 16-bit number from its two bytes
two_bytes : (b : List ℕ) (i m : ℕ) (rest : List ℕ) → drop i b ≡ low m ∷ high m ∷ rest → number16 b i ≡ m
two_bytes b i m rest e =
    let l : byte_at b i ≡ low m = let z : i + 0 ≡ i = omega arith in rw z at (sym (get_or-drop i b 0 0) ∙ ap (λ (t : List ℕ). get_or t 0 0) e) in
    let h : byte_at b (i + 1) ≡ high m = sym (get_or-drop i b 1 0) ∙ ap (λ (t : List ℕ). get_or t 1 0) e in
    rw (l, h) (omega (arith, div-add-mod' m 256))

-- what stands behind the first x elements of what stands from i on
behind : (b : List ℕ) (i x k : ℕ) (s t : List ℕ) → drop i b ≡ s ++ t → length s ≡ x → i + x ≡ k → drop k b ≡ t
behind b i x k s t e l z = ap (λ (y : ℕ). drop y b) (sym z) ∙ sym (drop-drop x i b) ∙ ap (λ (y : List ℕ). drop x y) e ∙ drop_at s t x l

module _ (b : List ℕ) (n : ℕ) (v : variables_of b ≡ n) (some : 0 < n) (rest : List ℕ) where
  -- the first table: its row count, its offset and its body
  module _ (j p : ℕ) (G : Table) (Ts : List Table) (e : drop (2 + 4 * j) b ≡ entries_of n p (counts_of (G ∷ Ts)) ++ rest)
      (d : drop p b ≡ bodies_of (G ∷ Ts)) (here : place_of b j ≡ p) (size : OfSize n G) where
    first_rows_lem : row_count b j ≡ length G
    unfolding row_count entries_of counts_of
    first_rows_lem = two_bytes b (2 + 4 * j) (length G) _ e

    first_offset : offset_of b j ≡ p
    unfolding offset_of entries_of counts_of
    first_offset =
        two_bytes b (4 + 4 * j) p (entries_of n (p + length G * n) (counts_of Ts) ++ rest)
        (behind b (2 + 4 * j) 2 (4 + 4 * j) (low (length G) ∷ high (length G) ∷ []) _ e refl (omega arith))

    next_entries : drop (2 + 4 * suc j) b ≡ entries_of n (p + length G * n) (counts_of Ts) ++ rest
    unfolding entries_of counts_of
    next_entries =
        behind b (2 + 4 * j) 4 (2 + 4 * suc j) (low (length G) ∷ high (length G) ∷ low p ∷ high p ∷ []) _ e refl (omega arith)

    next_place : place_of b (suc j) ≡ p + length G * n
    unfolding place_of
    next_place = rw (here, first_rows_lem, v)

    next_bodies : drop (p + length G * n) b ≡ bodies_of Ts
    unfolding bodies_of
    next_bodies = behind b p (length G * n) (p + length G * n) (flat G) (bodies_of Ts) d (length_flat n G size) refl

    first_body : body_of b j ≡ flat G
    unfolding bodies_of
    first_body = rw (here, first_rows_lem, v, d) (take_at (flat G) (bodies_of Ts) (length G * n) (length_flat n G size))

    first_table : table_of b j ≡ G
    first_table = rw (first_body, v) (rows_flat n G some size)

    first_laid : length G ≤ 4096 → p + length G * n ≤ length b → TableLaid b j
    first_laid l w = record { limited = rw first_rows_lem l; begins = rw here first_offset; within = rw (here, first_rows_lem, v) w }

  pub read_from : (Ts : List Table) (j p : ℕ) → drop (2 + 4 * j) b ≡ entries_of n p (counts_of Ts) ++ rest → drop p b ≡ bodies_of Ts → place_of b j ≡ p
      → p + length (bodies_of Ts) ≡ length b
      → ((G : Table) → Memᴰ G Ts → OfSize n G) → ((G : Table) → Memᴰ G Ts → length G ≤ 4096) → Read b j Ts
  unfolding tables_from bodies_of
  read_from [] j p e d here end size few =
      let z : j + 0 ≡ j = omega arith in
      record { tables = refl; laid = λ i g h. absurd (omega arith); ends = rw z (omega arith) }
  read_from (G ∷ Ts) j p e d here end size few =
      let s : OfSize n G = size G (Memᴰ.head refl) in
      let f = length_flat n G s in
      let a = length-append (flat G) (bodies_of Ts) in
      let first : TableLaid b j = first_laid j p G Ts e d here s (few G (Memᴰ.head refl)) (omega arith) in
      let r : Read b (suc j) Ts =
      read_from Ts (suc j) (p + length G * n)
      (next_entries j p G Ts e d here s) (next_bodies j p G Ts e d here s) (next_place j p G Ts e d here s) (omega arith)
      (λ F m. size F (Memᴰ.tail m)) (λ F m. few F (Memᴰ.tail m)) in
      let z : j + suc (length Ts) ≡ suc j + length Ts = omega arith in
      record {
        tables = rw (first_table j p G Ts e d here s, r.tables);
        laid = λ i g h. by_cases (ℕ_discrete j i) (λ q. subst (TableLaid b) q first) (λ q. r.laid i (omega arith) (omega arith));
        ends = rw z r.ends;
      }

-- ---- the bundle of tables is one that the reader opens

-- the tables that a bundle can hold
pub record Packable (n : ℕ) (Ts : List Table) : Type 0 where
  pub some_variables : 0 < n
  pub six : n ≤ 6
  pub some_tables : 0 < length Ts
  pub sixteen : length Ts ≤ 16
  pub sized : (G : Table) → Memᴰ G Ts → OfSize n G
  pub limited : (G : Table) → Memᴰ G Ts → length G ≤ 4096
  pub small : EntryAbove50 (bodies_of Ts) → ⊥
  pub distinct : (G : Table) → Memᴰ G Ts → Distinct G
  pub short : length (bundle_of n Ts) ≤ 65535

-- the reader accepts b, and reads n and these tables
pub record Opens (b : List ℕ) (n : ℕ) (Ts : List Table) : Type 0 where
  pub passes : refusal (bundle_checks b) ≡ 0
  pub variables : variables_of b ≡ n
  pub count : table_count b ≡ length Ts
  pub tables : tables_of b ≡ Ts

-- table j of it is the j-th
read_at : (b : List ℕ) (m : ℕ) (Ts : List Table) → tables_from b 0 m ≡ Ts → (j : ℕ) → j < m → table_of b j ≡ get_or Ts j []
read_at b m Ts e j h =
    let z : 0 + j ≡ j = omega arith in
    ap (table_of b) (sym z) ∙ sym (tables_from_at b 0 m j h) ∙ ap (λ (Ts : List Table). get_or Ts j []) e

pub opens_at : {b : List ℕ} {n : ℕ} {Ts : List Table} → Opens b n Ts → (j : ℕ) → j < length Ts → table_of b j ≡ get_or Ts j []
opens_at {b} {Ts = Ts} o j h = read_at b (table_count b) Ts o.tables j (omega (arith, o.count))

-- its row count and its body are those of the j-th
pub opens_count : {b : List ℕ} {n : ℕ} {Ts : List Table} → Opens b n Ts → (j : ℕ) → j < length Ts → row_count b j ≡ length (get_or Ts j [])
opens_count {b} o j h = sym (length_table b (accepted_bundle b o.passes).layout j (omega (arith, o.count))) ∙ ap length (opens_at o j h)

pub opens_body : {b : List ℕ} {n : ℕ} {Ts : List Table} → Opens b n Ts → (j : ℕ) → j < length Ts → body_of b j ≡ flat (get_or Ts j [])
opens_body {b} o j h = sym (flat_table b (accepted_bundle b o.passes).layout j (omega (arith, o.count))) ∙ ap flat (opens_at o j h)

module _ (n : ℕ) (Ts : List Table) (w : Packable n Ts) where
  bundle_bodies : drop (2 + 4 * length Ts) (bundle_of n Ts) ≡ bodies_of Ts
  unfolding bundle_of
  bundle_bodies =
      let k = 2 + 4 * length Ts in
      drop_at (n ∷ length Ts ∷ entries_of n k (counts_of Ts)) (bodies_of Ts) k (omega (arith, length_entries n k (counts_of Ts), length_counts Ts))

  bundle_read : Read (bundle_of n Ts) 0 Ts
  unfolding bundle_of place_of
  bundle_read =
      let k = 2 + 4 * length Ts in
      read_from (bundle_of n Ts) n refl w.some_variables (bodies_of Ts) Ts 0 k refl bundle_bodies refl (sym (length_bundle n Ts)) w.sized w.limited

  bundle_laid : Laid (bundle_of n Ts)
  unfolding bundle_of
  bundle_laid =
      let l = length_bundle n Ts in
      let z : 0 + length Ts ≡ length Ts = omega arith in
      record {
        frame = record {
          long = omega arith;
          short = w.short;
          some_tables = w.some_tables;
          sixteen = w.sixteen;
          header = omega arith;
          some_variables = w.some_variables;
          six = w.six;
        };
        tables = λ j h. bundle_read.laid j (omega arith) (omega arith);
        ends = sym (ap (place_of (bundle_of n Ts)) (sym z) ∙ bundle_read.ends);
      }

  no_large : LargeEntry (bundle_of n Ts) → ⊥
  unfolding bundle_of
  no_large =
      let f = tests_false (tests_entry_above50 (bodies_of Ts)) w.small in
      let e = entries_here (bundle_of n Ts) bundle_laid in
      false_tests (tests_large_entry (bundle_of n Ts)) (sym e ∙ rw bundle_bodies (sym f))

  distinct_tables : (j : ℕ) → j < length Ts → Distinct (table_of (bundle_of n Ts) j)
  distinct_tables j h =
      subst Distinct (sym (read_at (bundle_of n Ts) (length Ts) Ts bundle_read.tables j h)) (w.distinct (get_or Ts j []) (member_at Ts [] j h))

  pub bundle_opens : Opens (bundle_of n Ts) n Ts
  unfolding bundle_of
  bundle_opens = record {
    passes = bundle_accepted (bundle_of n Ts) (record {
      layout = bundle_laid;
      small = λ j e h m. stable (tests_le e 50) (λ g. no_large (j, h, (e, m, omega (arith, g))));
      distinct = distinct_tables;
    });
    variables = refl;
    count = refl;
    tables = bundle_read.tables;
  }

-- ---- the writer's inputs

-- the row count of a table is among the row counts of the tables
counted : (Ts : List Table) (G : Table) → Memᴰ G Ts → Memᴰ (length G) (counts_of Ts)
unfolding counts_of
counted [] G m = absurd (Memᴰ.not-nil m)
counted (F ∷ Ts) G m = ⊎_elim (λ g. Memᴰ.head (ap length g)) (λ i. Memᴰ.tail (counted Ts G i)) (Memᴰ.cases_cons m)

given_packable : (n : ℕ) (counts tables : List ℕ) (room : ℕ) → Writable n counts tables room → Packable n (given_tables n counts tables)
given_packable n counts tables room w =
    let s = w.shape in
    let Ts = given_tables n counts tables in
    let l = length_given n counts tables in
    let limit : (c : ℕ) → Memᴰ c (counts_of Ts) → c ≤ 4096 = rw (counts_given n counts tables) s.limited in
    record {
      some_variables = s.some_variables;
      six = s.six;
      some_tables = omega (arith, s.some_tables);
      sixteen = omega (arith, s.sixteen);
      sized = sized_given n counts tables (omega (arith, s.whole));
      limited = λ G m. limit (length G) (counted Ts G m);
      small = rw (bodies_given n counts tables s.whole) w.small;
      distinct = w.distinct;
      short = w.short;
    }

-- what the writer makes of inputs that it accepts: the reader accepts it, with the same n and the same tables
pub written_opens : {n : ℕ} {counts tables : List ℕ} {room : ℕ} → Writable n counts tables room
    → Opens (given_bundle n counts tables) n (given_tables n counts tables)
written_opens {n} {counts} {tables} {room} w = bundle_opens n (given_tables n counts tables) (given_packable n counts tables room w)
