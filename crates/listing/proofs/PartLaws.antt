-- Laws of the output part by part.
--
--   part_refused, part_silent   what is written of a refused bundle
--   part_none, part_first  what is written where no table is located
--   refusal_line_bound     the line of a refusal has room
--   Found b j t            what is known of the table t that `part` shows where `locate` found table j
--   table_part             part j of an accepted bundle is the text of its table j
--   part_found             it is known of each table that is found
--   part_written           a text written from the start that is part j keeps the promise
--   part_unique, part_front   the promise allows one result, and the front of the buffer is the part
--   bundle_parts           the whole output is its 16 parts, one behind the other
use mathlib.Core.Path.{◌≡◌, refl, sym, ap, ◌∙◌}
use mathlib.Core.List.{List, [], ◌++◌, append-nil}
use mathlib.Core.Logic.{by_cases}
use Prim.Native.Nat.{ℕ, zero, suc, ◌+◌, ◌*◌, ◌-◌, ◌≤◌, ◌<◌}
use native.Mathlib.Nat.{zero-add, suc-add, pos_of_ne-zero}
use native.Mathlib.Decide.{ℕ_discrete}
use native.Mathlib.Omega.{arith}
use lib.Dec.{eqb, ltb}
use lib.ListN.{length, take, drop, length-append}
use lib.Seq.{take-append_seam}
use Rattle.checks.specs.Tests.{pick}
use Rattle.checks.proofs.TestLaws.{pick_true, pick_false, tests_lt, tests_eq}
use Rattle.terms.specs.Rows.{rows_of}
use Rattle.terms.specs.declared.FlatTable.{FlatTable}
use Rattle.checks.specs.Refusals.{refusal}
use Rattle.distinct.specs.EqualRows.{distinct_checks}
use Rattle.distinct.proofs.CheckLaws.{distinct_table}
use Rattle.bundle.specs.Format.{variables_of, table_count, table_of}
use Rattle.bundle.specs.Checks.{bundle_checks, number_checks}
use Rattle.checks.proofs.RefusalLaws.{refusal_first}
use Rattle.bundle.specs.Operation.{LocatePromise}
use Rattle.bundle.specs.declared.Located.{Located}
use Rattle.bundle.proofs.AcceptedLaws.{accepted_bundle, bundle_accepted, table_passes_checks}
use Rattle.bundle.proofs.ReadLaws.{opens_table, open_accepted, found_shows}
use Rattle.std.specs.Prelude.{Ok, Err}
use Rattle.checks.specs.declared.Refusal.{Refusal}
use Rattle.checks.specs.declared.Refusal.TheVariants.{Variables, Length, Rows, Entry, Argument, Order, Incomplete, Room, Frame, Place, End, EqualRows}
use Rattle.checks.specs.Outcomes.{number}
use Rattle.checks.proofs.OutcomeLaws.{number_positive}
use Rattle.text.proofs.DecimalLaws.{decimal_length}
use Rattle.listing.specs.Text.{text_size, refusal_line, table_text, tables_text, bundle_text, part_text, parts_text}
use Rattle.writing.specs.Written.{written, Wrote}
use Rattle.listing.specs.Operation.{PartPromise}
use Rattle.listing.proofs.TextLaws.{refusal_line_length}
use Rattle.listing.proofs.BoundLaws.{text_bound}

-- ---- where no table is written

refused_part : (b : List ℕ) (j : ℕ) {m : ℕ} → m ≡ refusal (bundle_checks b) → (m ≡ 0 → ⊥) → pick (eqb j 0) (refusal_line m) [] ≡ part_text b j
unfolding part_text
refused_part b j {m} e f =
    ap (λ (k : ℕ). pick (eqb j 0) (refusal_line k) []) e
    ∙ pick_false (tests_eq (refusal (bundle_checks b)) 0) _ _ (λ z. f (e ∙ z))

accepted_part : (b : List ℕ) (j : ℕ) → refusal (bundle_checks b) ≡ 0
    → pick (ltb j (table_count b)) (table_text (variables_of b) j (table_of b j)) [] ≡ part_text b j
unfolding part_text
accepted_part b j e = pick_true (tests_eq (refusal (bundle_checks b)) 0) _ _ e

pub part_refused : (b : List ℕ) (j : ℕ) {m : ℕ} → m ≡ refusal (bundle_checks b) → (m ≡ 0 → ⊥) → j ≡ 0 → refusal_line m ≡ part_text b j
part_refused b j {m} e f z = pick_true (tests_eq j 0) (refusal_line m) [] z ∙ refused_part b j e f

pub part_silent : (b : List ℕ) (j : ℕ) {m : ℕ} → m ≡ refusal (bundle_checks b) → (m ≡ 0 → ⊥) → (j ≡ 0 → ⊥) → [] ≡ part_text b j
part_silent b j {m} e f z = pick_false (tests_eq j 0) (refusal_line m) [] z ∙ refused_part b j e f

past_part : (b : List ℕ) (j : ℕ) → refusal (bundle_checks b) ≡ 0 → (j < table_count b → ⊥) → [] ≡ part_text b j
past_part b j e g =
    pick_false (tests_lt j (table_count b)) (table_text (variables_of b) j (table_of b j)) [] g ∙ accepted_part b j e

pub table_part : (b : List ℕ) (j : ℕ) → refusal (bundle_checks b) ≡ 0 → j < table_count b → table_text (variables_of b) j (table_of b j) ≡ part_text b j
table_part b j e h =
    pick_true (tests_lt j (table_count b)) (table_text (variables_of b) j (table_of b j)) [] h ∙ accepted_part b j e

-- a table that is not located
pub part_none : (b : List ℕ) (j : ℕ) {e : Refusal} → LocatePromise b j (Err e) → (j ≡ 0 → ⊥) → [] ≡ part_text b j
part_none b j {e} p f = by_cases (ℕ_discrete (refusal (bundle_checks b)) 0)
    (λ z. past_part b j z (λ h. omega (arith, p.number, opens_table b j z h, number_positive e)))
    (λ g. part_silent b j refl g f)

-- in part 0 the bundle is refused: one that is accepted has a table 0
pub part_first : (b : List ℕ) (j : ℕ) {e : Refusal} → LocatePromise b j (Err e) → j ≡ 0 → refusal_line (number e) ≡ part_text b j
part_first b j {e} p z = by_cases (ℕ_discrete (refusal (bundle_checks b)) 0)
    (λ y.
    let some = (accepted_bundle b y).layout.frame.some_tables in
    absurd (omega (arith, p.number, opens_table b j y (omega arith), number_positive e)))
    (λ g. part_refused b j (p.number ∙ refusal_first (bundle_checks b) (number_checks b j) (pos_of_ne-zero g)) (λ y. omega (arith, number_positive e)) z)

number_short : (e : Refusal) → number e < 1000
number_short Variables = omega arith
number_short Length = omega arith
number_short Rows = omega arith
number_short Entry = omega arith
number_short Argument = omega arith
number_short Order = omega arith
number_short Incomplete = omega arith
number_short Room = omega arith
number_short Frame = omega arith
number_short Place = omega arith
number_short End = omega arith
number_short EqualRows = omega arith

pub refusal_line_bound : (e : Refusal) → length (refusal_line (number e)) ≤ text_size
refusal_line_bound e = omega (arith, refusal_line_length (number e), decimal_length 2 (number e) (number_short e))

-- ---- a table that is found

-- the table t is the part of the bundle that `part` shows
pub record Found (b : List ℕ) (j : ℕ) (t : FlatTable) : Type 0 where
  pub checks : refusal (distinct_checks t.n t.bytes.now) ≡ 0
  pub text : table_text t.n j (rows_of t) ≡ part_text b j
  pub bound : length (table_text t.n j (rows_of t)) ≤ text_size

pub part_found : (b : List ℕ) (j : ℕ) {f : Located} {t : FlatTable} → LocatePromise b j (Ok f) → t.n ≡ f.n
    → t.bytes.now ≡ take (f.rows * f.n) (drop f.place b) → Found b j t
part_found b j {f} {t} p v s =
    let a = open_accepted b j (sym p.number) in
    let shows = found_shows b j f p {t = t} v s in
    let checks : refusal (distinct_checks t.n t.bytes.now) ≡ 0 = rw (shows.body, shows.variables) (table_passes_checks b a.0 j a.1) in
    let most = a.0.layout.frame.sixteen in
    record {
      checks = checks;
      text = rw (shows.body, shows.variables) (table_part b j (bundle_accepted b a.0) a.1);
      bound = text_bound t.n j t.bytes.now (distinct_table t.n t.bytes.now checks) (omega (arith, a.1));
    }

-- ---- what is promised of a part

-- a text written from the start is no longer than the buffer
pub part_written : (b : List ℕ) (j : ℕ) {before text : List ℕ} {size : ℕ} {after : List ℕ} → Wrote before 0 text size after → text ≡ part_text b j
    → PartPromise b j before size after
unfolding written
part_written b j {before} {text} w e =
    let parts = length-append text (drop (0 + length text) before) in
    record {
      counts = w.ends ∙ zero-add (length text) ∙ ap length e;
      fits = omega (arith, w.ends, ap length w.bytes, parts);
      writes = w.bytes ∙ ap (λ (l : List ℕ). written before 0 l) e;
    }

-- two results that are allowed are equal
pub part_unique : {b : List ℕ} {j : ℕ} {before : List ℕ} {r s : ℕ} {x y : List ℕ} → PartPromise b j before r x → PartPromise b j before s y → (r ≡ s) × (x ≡ y)
part_unique p q = (p.counts ∙ sym q.counts, p.writes ∙ sym q.writes)

-- the front of the buffer is the part
pub part_front : {b : List ℕ} {j : ℕ} {before : List ℕ} {r : ℕ} {x : List ℕ} → PartPromise b j before r x → take r x ≡ part_text b j
unfolding written
part_front {b} {j} {before} p = rw (p.counts, p.writes) (take-append_seam (part_text b j) (drop (0 + length (part_text b j)) before))

-- ---- the parts and the whole

accepted_text : (b : List ℕ) → refusal (bundle_checks b) ≡ 0 → tables_text b 0 (table_count b) ≡ bundle_text b
unfolding bundle_text
accepted_text b e =
    pick_true (tests_eq (refusal (bundle_checks b)) 0) (tables_text b 0 (table_count b)) (refusal_line (refusal (bundle_checks b))) e

refused_text : (b : List ℕ) → (refusal (bundle_checks b) ≡ 0 → ⊥) → refusal_line (refusal (bundle_checks b)) ≡ bundle_text b
unfolding bundle_text
refused_text b f =
    pick_false (tests_eq (refusal (bundle_checks b)) 0) (tables_text b 0 (table_count b)) (refusal_line (refusal (bundle_checks b))) f

-- parts of which each is empty
silent_parts : (b : List ℕ) (m j : ℕ) → ((i : ℕ) → j ≤ i → [] ≡ part_text b i) → [] ≡ parts_text b j m
unfolding parts_text
silent_parts b zero j f = refl
silent_parts b (suc m) j f =
    silent_parts b m (suc j) (λ i h. f i (omega arith)) ∙ ap (λ (l : List ℕ). l ++ parts_text b (suc j) m) (f j (omega arith))

-- the tables from j on, and then any number of empty parts
table_parts : (b : List ℕ) → refusal (bundle_checks b) ≡ 0 → (m j r : ℕ) → j + m ≡ table_count b → tables_text b j m ≡ parts_text b j (m + r)
unfolding tables_text parts_text
table_parts b e zero j r h = rw zero-add (silent_parts b r j (λ i l. past_part b i e (λ g. omega arith)))
table_parts b e (suc m) j r h =
    rw suc-add
    (ap (λ (l : List ℕ). table_text (variables_of b) j (table_of b j) ++ l) (table_parts b e m (suc j) r (omega arith))
    ∙ ap (λ (l : List ℕ). l ++ parts_text b (suc j) (m + r)) (table_part b j e (omega arith)))

-- A bundle has at most 16 tables, so its tables are among the first 16 parts and the others are empty. Of a refused bundle part 0 is the line.
pub bundle_parts : (b : List ℕ) → bundle_text b ≡ parts_text b 0 16
unfolding parts_text
bundle_parts b = by_cases (ℕ_discrete (refusal (bundle_checks b)) 0)
    (λ e.
    let most = (accepted_bundle b e).layout.frame.sixteen in
    let all : table_count b + (16 - table_count b) ≡ 16 = omega arith in
    sym (accepted_text b e) ∙ table_parts b e (table_count b) 0 (16 - table_count b) (omega arith) ∙ ap (λ (k : ℕ). parts_text b 0 k) all)
    (λ f.
    let rest : [] ≡ parts_text b 1 15 = silent_parts b 15 1 (λ i h. part_silent b i refl f (λ z. omega arith)) in
    sym (refused_text b f) ∙ part_refused b 0 refl f refl ∙ sym (append-nil (part_text b 0)) ∙ ap (λ (l : List ℕ). part_text b 0 ++ l) rest)
