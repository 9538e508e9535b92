-- Laws of the reader: what `locate` and `open_table` give is what they promise, and nothing else is.
--
--   entry_four, entries_pass   4, decided by the pass over what stands behind the header
--   rows_twelve, rows_pass   12, decided by the pass over the tables
--   Stands, entry_stands     where table j stands, as its entry in the header says
--   Shows, stands_within, stands_shows   a table that shows the body of table j: the part of the bundle where it stands
--   shown_rows, shown_accepted   its rows are those of table j, and it passes the checks 1 to 4
--   opens_table              an accepted bundle that has a table j opens it
--   locate_refuses, locate_none, locate_opens   the three answers of `locate`
--   open_accepted            an opened table is one of an accepted bundle
--   numbers, zeros           the numbers of an answer of `locate`, and those beside a refusal
--   found_stands, found_within, found_shows   a table that is located stands there, within the bundle, and its part shows it
--   opens, open_refuses      so a table that is located and cut is opened, and a refusal shows nothing
--   locate_unique, open_unique   two results that the promise allows are equal
use mathlib.Core.Path.{◌≡◌, sym, ap, ap₂, ◌∙◌, subst}
use mathlib.Core.Bool.{Bool, true, false}
use mathlib.Core.List.{List, []}
use Prim.Native.Nat.{ℕ, ◌+◌, ◌*◌, ◌-◌, ◌≤◌, ◌<◌}
use native.Mathlib.Omega.{arith}
use lib.Dec.{ltb}
use lib.ListN.{length, take, drop, length-drop}
use lib.Seq.{take_all}
use Rattle.std.specs.Prelude.{Result, Ok, Err, IfOk}
use Rattle.checks.specs.Tests.{any}
use Rattle.checks.specs.declared.Refusal.{Refusal}
use Rattle.checks.specs.declared.Refusal.TheVariants.{Argument}
use Rattle.checks.specs.Outcomes.{number, value_or}
use Rattle.checks.specs.Refusals.{refusal}
use Rattle.checks.proofs.OutcomeLaws.{number_positive, refused_on, same_outcome}
use Rattle.checks.proofs.TestLaws.{stable, true_tests, false_tests, tests_lt}
use Rattle.checks.proofs.RefusalLaws.{refusal_none, refusal_holds, refusal_passes, passes_first, accepted, accepts_head, accepts_left}
use Rattle.checks.proofs.RefusalLaws.{accepts_right, answered_accepted, answered_refused}
use Rattle.bundle.specs.Format.{variables_of, table_count, header_length, row_count, body_length, place_of, body_of, table_of}
use Rattle.bundle.specs.Checks.{number_checks, open_checks, layout_checks, body_checks, bundle_checks, LargeEntry, large_entry_test, tests_large_entry}
use Rattle.bundle.specs.Checks.{equal_rows_in_test, tests_equal_rows_in}
use Rattle.bundle.specs.Operation.{Entered, nowhere, located_n, located_rows, located_place, LocatePromise, FoundWithin, PartOf, OpenPromise, SameOpened}
use Rattle.bundle.specs.declared.Located.{Located}
use Rattle.bundle.specs.declared.OpenedTable.{OpenedTable}
use denote.Ref.{Bor}
use Rattle.terms.specs.Rows as terms
use Rattle.terms.specs.Rows.{rows_of}
use Rattle.terms.specs.TableChecks.{TableAccepted}
use Rattle.terms.specs.declared.FlatTable.{FlatTable}
use Rattle.bundle.proofs.CheckLaws.{TableLaid}
use Rattle.bundle.proofs.AcceptedLaws.{laid, entries_here, entries_small, Accepted, accepted_by, accepted_bundle, body_accepted}

-- ---- 4 and 12

module _ (b : List ℕ) {tables : ℕ} {large : Bool} (passed : 0 ≡ refusal (layout_checks b)) (e : tables ≡ table_count b)
    (s : large ≡ any (λ x. ltb 50 x) (take (length b - (2 + 4 * tables)) (drop (2 + 4 * tables) b))) where
  -- the pass over what stands behind the header looks at all of it
  whole_part : take (length b - (2 + 4 * tables)) (drop (2 + 4 * tables) b) ≡ drop (header_length b) b
  whole_part = take_all (length b - (2 + 4 * tables)) (drop (2 + 4 * tables) b) (rw length-drop (omega arith)) ∙ rw e

  decides : large ≡ large_entry_test b
  decides = s ∙ rw whole_part (entries_here b (laid b (sym passed)))

  of_bodies : (m : ℕ) → m ≡ refusal (body_checks b) → m ≡ refusal (bundle_checks b)
  of_bodies m h = passes_first (layout_checks b) (body_checks b) m (sym passed) h

  pub entry_four : large ≡ true → 4 ≡ refusal (bundle_checks b)
  entry_four h = of_bodies 4 (sym (refusal_holds _ _ (true_tests (tests_large_entry b) (sym decides ∙ h))))

  module _ (f : large ≡ false) where
    pub entries_pass : LargeEntry b → ⊥
    entries_pass = false_tests (tests_large_entry b) (sym decides ∙ f)

    -- 12 is decided by the pass over the tables
    module _ {equal : Bool} (t : equal ≡ equal_rows_in_test b) where
      pub rows_twelve : equal ≡ true → 12 ≡ refusal (bundle_checks b)
      rows_twelve h = of_bodies 12 (sym (refusal_passes _ _ entries_pass ∙ refusal_holds _ _ (true_tests (tests_equal_rows_in b) (sym t ∙ h))))

      pub rows_pass : equal ≡ false → 0 ≡ refusal (bundle_checks b)
      rows_pass h =
          let none = false_tests (tests_equal_rows_in b) (sym t ∙ h) in
          of_bodies 0 (sym (refusal_passes _ _ entries_pass ∙ refusal_passes _ _ none ∙ refusal_none))

-- ---- where a table stands

pub record Stands (b : List ℕ) (j : ℕ) (f : Located) : Type 0 where
  pub variables : f.n ≡ variables_of b
  pub count : f.rows ≡ row_count b j
  pub begins : f.place ≡ place_of b j

-- where the layout passed, the header's offset is the place
pub entry_stands : {b : List ℕ} {j : ℕ} {f : Located} → TableLaid b j → Entered b j f → Stands b j f
entry_stands t e = record { variables = e.variables; count = e.count; begins = e.begins ∙ t.begins }

pub record Shows (b : List ℕ) (j : ℕ) (t : FlatTable) : Type 0 where
  pub variables : t.n ≡ variables_of b
  pub body : t.bytes.now ≡ body_of b j

module _ {b : List ℕ} {j : ℕ} {f : Located} (s : Stands b j f) where
  stands_size : f.rows * f.n ≡ body_length b j
  stands_size = rw (s.count, s.variables)

  pub stands_within : TableLaid b j → FoundWithin b f
  stands_within t = omega (arith, stands_size, s.begins, t.within)

  pub stands_shows : {t : FlatTable} → t.n ≡ f.n → t.bytes.now ≡ take (f.rows * f.n) (drop f.place b) → Shows b j t
  stands_shows v c = record { variables = v ∙ s.variables; body = c ∙ ap₂ (λ (k p : ℕ). take k (drop p b)) stands_size s.begins }

module _ {b : List ℕ} {j : ℕ} {t : FlatTable} (s : Shows b j t) where
  pub shown_rows : rows_of t ≡ table_of b j
  shown_rows = ap₂ terms.rows s.variables s.body

  pub shown_accepted : refusal (layout_checks b) ≡ 0 → (LargeEntry b → ⊥) → j < table_count b → TableAccepted t.n t.bytes.now
  shown_accepted passed small h =
      let a = body_accepted b (laid b passed) j h (λ x m. entries_small b small j x h m) in
      subst (λ (k : ℕ). TableAccepted k t.bytes.now) (sym s.variables) (subst (λ (l : List ℕ). TableAccepted (variables_of b) l) (sym s.body) a)

-- ---- the answers of `locate`

pub opens_table : (b : List ℕ) (j : ℕ) → refusal (bundle_checks b) ≡ 0 → j < table_count b → 0 ≡ refusal (open_checks b j)
opens_table b j e h =
    let f : table_count b ≤ j → ⊥ = λ x. omega arith in
    passes_first (bundle_checks b) (number_checks b j) 0 e (sym (refusal_passes _ _ f ∙ refusal_none))

module _ (b : List ℕ) (j : ℕ) where
  located_refusal : (e : Refusal) → number e ≡ refusal (open_checks b j) → LocatePromise b j (Err e)
  located_refusal e m =
      let f : refusal (open_checks b j) ≡ 0 → ⊥ = λ z. omega (arith, m, z, number_positive e) in
      record {
        number = m;
        variables = sym (answered_refused (open_checks b j) _ 0 f);
        count = sym (answered_refused (open_checks b j) _ 0 f);
        begins = sym (answered_refused (open_checks b j) _ 0 f);
      }

  -- the bundle is refused
  pub locate_refuses : (e : Refusal) → number e ≡ refusal (bundle_checks b) → LocatePromise b j (Err e)
  locate_refuses e m = located_refusal e (refused_on (bundle_checks b) (number_checks b j) e m)

  -- it has no table j
  pub locate_none : refusal (bundle_checks b) ≡ 0 → table_count b ≤ j → LocatePromise b j (Err Argument)
  locate_none e h = located_refusal Argument (passes_first (bundle_checks b) (number_checks b j) 5 e (sym (refusal_holds _ _ h)))

  -- table j is opened
  pub locate_opens : refusal (bundle_checks b) ≡ 0 → j < table_count b → (f : Located) → Entered b j f → LocatePromise b j (Ok f)
  locate_opens e h f entry =
      let p : 0 ≡ refusal (open_checks b j) = opens_table b j e h in
      let s = entry_stands ((accepted_bundle b e).layout.tables j h) entry in
      record {
        number = p;
        variables = s.variables ∙ sym (answered_accepted (open_checks b j) _ 0 (sym p));
        count = s.count ∙ sym (answered_accepted (open_checks b j) _ 0 (sym p));
        begins = s.begins ∙ sym (answered_accepted (open_checks b j) _ 0 (sym p));
      }

-- where table j is opened the bundle is accepted, and has a table j
pub open_accepted : (b : List ℕ) (j : ℕ) → refusal (open_checks b j) ≡ 0 → Accepted b × (j < table_count b)
open_accepted b j e =
    let a = accepted (open_checks b j) e in (
      accepted_by b (accepts_left (bundle_checks b) (number_checks b j) a),
      stable (tests_lt j (table_count b)) (λ h. accepts_head _ _ (accepts_right (bundle_checks b) (number_checks b j) a) (omega (arith, h))),
    )

module _ (b : List ℕ) (j : ℕ) (r : Result Located Refusal) (p : LocatePromise b j r) where
  -- n, row count and place, opened and refused
  pub numbers : refusal (open_checks b j) ≡ 0 → (located_n r ≡ variables_of b) × (located_rows r ≡ row_count b j) × (located_place r ≡ place_of b j)
  numbers e = (
    p.variables ∙ answered_accepted (open_checks b j) _ 0 e,
    p.count ∙ answered_accepted (open_checks b j) _ 0 e,
    p.begins ∙ answered_accepted (open_checks b j) _ 0 e,
  )

  pub zeros : (refusal (open_checks b j) ≡ 0 → ⊥) → (located_n r ≡ 0) × (located_rows r ≡ 0) × (located_place r ≡ 0)
  zeros g = (
    p.variables ∙ answered_refused (open_checks b j) _ 0 g,
    p.count ∙ answered_refused (open_checks b j) _ 0 g,
    p.begins ∙ answered_refused (open_checks b j) _ 0 g,
  )

-- a table that is located
module _ (b : List ℕ) (j : ℕ) (f : Located) (p : LocatePromise b j (Ok f)) where
  pub found_stands : Stands b j f
  found_stands = let z = numbers b j (Ok f) p (sym p.number) in record { variables = z.0; count = z.1; begins = z.2 }

  pub found_within : FoundWithin b f
  found_within = let a = open_accepted b j (sym p.number) in stands_within found_stands (a.0.layout.tables j a.1)

  pub found_shows : {t : FlatTable} → t.n ≡ f.n → t.bytes.now ≡ take (f.rows * f.n) (drop f.place b) → Shows b j t
  found_shows = stands_shows found_stands

-- ---- the table opened

pub opens : (b : Bor (List ℕ)) (j : ℕ) (f : Located) (t : FlatTable) → LocatePromise b.now j (Ok f) → t.n ≡ f.n
    → PartOf b f.place (f.rows * f.n) t.bytes → OpenPromise b j (Ok (record { bytes = t.bytes; n = f.n; rows = f.rows }))
opens b j f t p v c = record {
  number = p.number;
  variables = p.variables;
  count = p.count;
  shown = (found_shows b.now j f p {t = t} v c.bytes).body ∙ sym (answered_accepted (open_checks b.now j) (body_of b.now j) _ (sym p.number));
  block = c.block;
  begins = c.place_in ∙ ap (λ (k : ℕ). k + b.ref_ptr.1) (found_stands b.now j f p).begins;
}

pub open_refuses : (b : Bor (List ℕ)) (j : ℕ) (e : Refusal) → LocatePromise b.now j (Err e) → OpenPromise b j (Err e)
open_refuses b j e p =
    let f : refusal (open_checks b.now j) ≡ 0 → ⊥ = λ z. omega (arith, p.number, z, number_positive e) in
    record {
      number = p.number;
      variables = p.variables;
      count = p.count;
      shown = sym (answered_refused (open_checks b.now j) (body_of b.now j) [] f);
      block = tt;
      begins = tt;
    }

-- ---- one result

same_located : (f g : Located) → f.n ≡ g.n → f.rows ≡ g.rows → f.place ≡ g.place → f ≡ g
same_located f g u v w = λ i. record { n = u i; rows = v i; place = w i }

pub locate_unique : (b : List ℕ) (j : ℕ) (r s : Result Located Refusal) → LocatePromise b j r → LocatePromise b j s → r ≡ s
locate_unique b j r s p q = same_outcome nowhere r s (p.number ∙ sym q.number)
    (same_located (value_or nowhere r) (value_or nowhere s) (p.variables ∙ sym q.variables) (p.count ∙ sym q.count) (p.begins ∙ sym q.begins))

-- what stands at one place stands together
together : {A : Type 0} (f : OpenedTable → A) (x : A) (r s : Result OpenedTable Refusal) → IfOk r (λ o. f o ≡ x) → IfOk s (λ o. f o ≡ x)
    → IfOk r (λ o. IfOk s (λ p. f o ≡ f p))
together f x (Ok o) (Ok p) e h = e ∙ sym h
together f x (Ok o) (Err d) e h = tt
together f x (Err d) s e h = tt

pub open_unique : (b : Bor (List ℕ)) (j : ℕ) (r s : Result OpenedTable Refusal) → OpenPromise b j r → OpenPromise b j s → SameOpened r s
open_unique b j r s p q = record {
  number = p.number ∙ sym q.number;
  variables = p.variables ∙ sym q.variables;
  count = p.count ∙ sym q.count;
  shown = p.shown ∙ sym q.shown;
  block = together (λ (o : OpenedTable). o.bytes.ref_ptr.0) _ r s p.block q.block;
  place = together (λ (o : OpenedTable). o.bytes.ref_ptr.1) _ r s p.begins q.begins;
}
