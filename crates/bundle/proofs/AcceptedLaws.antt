-- What an accepted bundle determines.
--
--   Laid, laid               what is known of a bundle whose layout passed: frame, each table's rows and place, its end
--   laying, accepting        what is known of the frame of such a bundle and of an accepted one, fact by fact, as sets
--   from_place               what stands from body j on is body j and what stands from the next on
--   entries_here             4 over all bodies is one pass over what stands behind the header
--   Accepted, accepted_bundle, bundle_accepted   what is known of an accepted bundle, and that this is enough
--   length_body, length_table, flat_table   a table of it: the length of its body, its number of rows, its bytes again
--   body_accepted            a table of a bundle whose layout and entries passed passes the checks 1 to 4
--   table_passes_checks      a table of an accepted bundle passes the checks 1 to 4 and 12
use mathlib.Core.Path.{◌≡◌, refl, sym, ap, ◌∙◌, subst}
use mathlib.Core.List.Memᴰ
use mathlib.Core.List.{List, ◌++◌, Memᴰ}
use mathlib.Core.Logic.{⊎_elim, by_cases}
use Prim.Native.Nat.{ℕ, zero, suc, ◌+◌, ◌*◌, ◌-◌, ◌/◌, ◌≤◌, ◌<◌}
use native.Mathlib.Nat.{mul-div_left}
use native.Mathlib.Decide.{dec_lt}
use native.Mathlib.Omega.{arith}
use lib.Dec.{ltb}
use lib.ListN.{length, drop, take-append-drop, drop_of_length-le, length-drop}
use lib.Seq.{drop-drop, length-take-le}
use Rattle.checks.specs.Tests.{any, SomeBelow}
use Rattle.checks.proofs.TestLaws.{stable, tests_same, tests_as, tests_le}
use Rattle.terms.specs.Monomials.{Distinct}
use Rattle.terms.specs.Rows.{flat}
use Rattle.checks.specs.Refusals.{refusal, Accepts}
use Rattle.terms.specs.TableChecks.{EntryAbove50, tests_entry_above50, TableAccepted}
use Rattle.terms.proofs.RowsLaws.{member_take, member_drop, length_rows, flat_rows}
use Rattle.checks.proofs.RefusalLaws.{accepted, accepts_refusal, accepts_head, accepts_tail, accepts_left, accepts_right, refusal_none, refusal_passes}
use Rattle.checks.proofs.RefusalLaws.{passes_first}
use Rattle.terms.proofs.TableLaws.{accepts_table}
use Rattle.distinct.specs.EqualRows.{distinct_checks}
use Rattle.distinct.proofs.CheckLaws.{refuses_distinct}
use Rattle.bundle.specs.Format.{variables_of, table_count, header_length, row_count, offset_of, body_length, place_of, body_of, table_of}
use Rattle.bundle.specs.Checks.{LargeEntry, large_entry_test, tests_large_entry, frame_checks, table_checks_of, tables_checks, remain_checks, layout_checks}
use Rattle.bundle.specs.Checks.{EqualRowsIn, body_checks, bundle_checks}
use Rattle.bundle.specs.declared.Located.{Located}
use Rattle.bundle.proofs.CheckLaws.{Framed, framed_accepts, has_frame, frame_passes, TableLaid, tables_laid, table_passes}

-- ---- the layout

pub record Laid (b : List ℕ) : Type 0 where
  pub frame : Framed b
  pub tables : (j : ℕ) → j < table_count b → TableLaid b j
  pub ends : length b ≡ place_of b (table_count b)

-- the last body ends within the bundle
last_within : (b : List ℕ) (k : ℕ) → 0 < k → ((j : ℕ) → j < k → TableLaid b j) → place_of b k ≤ length b
unfolding place_of
last_within b zero p f = absurd (omega arith)
last_within b (suc k) p f = (f k (omega arith)).within

pub laid_accepts : (b : List ℕ) → Accepts (layout_checks b) → Laid b
laid_accepts b a =
    let rest = tables_checks b 0 (table_count b) ++ remain_checks b in
    let frame = framed_accepts b (accepts_left (frame_checks b) rest a) in
    let later = accepts_right (frame_checks b) rest a in
    let first = accepts_left (tables_checks b 0 (table_count b)) (remain_checks b) later in
    let each : (j : ℕ) → j < table_count b → TableLaid b j = λ j h. tables_laid b (table_count b) 0 first j (omega arith) (omega arith) in
    let last = last_within b (table_count b) frame.some_tables each in
    record {
      frame = frame;
      tables = each;
      ends = by_cases (dec_lt (place_of b (table_count b)) (length b))
          (λ h. absurd (accepts_head _ _ (accepts_right (tables_checks b 0 (table_count b)) (remain_checks b) later) h))
          (λ h. omega arith);
    }

pub laid : (b : List ℕ) → refusal (layout_checks b) ≡ 0 → Laid b
laid b e = laid_accepts b (accepted (layout_checks b) e)

-- of its frame, fact by fact
module _ (b : List ℕ) (e : refusal (layout_checks b) ≡ 0) where
  pub laid_long : 2 ≤ length b
  laid_long = (laid b e).frame.long

  pub laid_header : header_length b ≤ length b
  laid_header = (laid b e).frame.header

pub ruleset laying = (laid_long, laid_header)

-- ---- 4 over all bodies

-- no body begins before the header's end
pub place_from : (b : List ℕ) (j : ℕ) → header_length b ≤ place_of b j
unfolding place_of
place_from b zero = omega arith
place_from b (suc j) = omega (arith, place_from b j)

-- what stands from body j on is body j and what stands from the next on
pub from_place : (b : List ℕ) (j : ℕ) → drop (place_of b j) b ≡ body_of b j ++ drop (place_of b (suc j)) b
unfolding place_of
from_place b j =
    sym (take-append-drop (body_length b j) (drop (place_of b j) b))
    ∙ ap (λ (l : List ℕ). body_of b j ++ l) (drop-drop (body_length b j) (place_of b j) b)

-- an element of what stands from body j on is in some body from j on
in_body : (b : List ℕ) (e m j : ℕ) → length b ≤ place_of b (j + m) → Memᴰ e (drop (place_of b j) b) → (i : ℕ) × (i < j + m) × Memᴰ e (body_of b i)
in_body b e zero j h m =
    let z : j + 0 ≡ j = omega arith in
    let l : length b ≤ place_of b j = rw z at h in
    absurd (Memᴰ.not-nil (subst (Memᴰ e) (drop_of_length-le b l) m))
in_body b e (suc n) j h m =
    let z : suc j + n ≡ j + suc n = omega arith in
    ⊎_elim
    (λ i. (j, omega arith, i))
    (λ i. let r = in_body b e n (suc j) (rw z h) i in (r.0, omega (arith, r.1), r.2))
    (Memᴰ.append_cases (body_of b j) (subst (Memᴰ e) (from_place b j) m))

-- and an element of a body stands behind the header
behind_header : (b : List ℕ) (e j : ℕ) → Memᴰ e (body_of b j) → Memᴰ e (drop (header_length b) b)
behind_header b e j m =
    let x = place_of b j - header_length b in
    let d : header_length b + x ≡ place_of b j = omega (arith, place_from b j) in
    let s : drop x (drop (header_length b) b) ≡ drop (place_of b j) b = drop-drop x (header_length b) b ∙ ap (λ (k : ℕ). drop k b) d in
    member_drop x e (drop (header_length b) b)
    (subst (Memᴰ e) (sym s) (member_take (body_length b j) e (drop (place_of b j) b) m))

-- so one pass over what stands behind the header decides 4
pub entries_here : (b : List ℕ) → Laid b → any (λ e. ltb 50 e) (drop (header_length b) b) ≡ large_entry_test b
unfolding place_of
entries_here b laid = tests_same _ _ (tests_entry_above50 (drop (header_length b) b)) (tests_as (tests_large_entry b) into back)
  where
    into : SomeBelow (table_count b) (λ j. EntryAbove50 (body_of b j)) → EntryAbove50 (drop (header_length b) b)
    into r = (r.2.0, behind_header b r.2.0 r.0 r.2.1, r.2.2)

    back : EntryAbove50 (drop (header_length b) b) → SomeBelow (table_count b) (λ j. EntryAbove50 (body_of b j))
    back r =
        let z : 0 + table_count b ≡ table_count b = omega arith in
        let i = in_body b r.0 (table_count b) 0 (rw z (omega (arith, laid.ends))) r.1 in
        (i.0, omega (arith, i.1), (r.0, i.2, r.2))

-- ---- an accepted bundle

-- what an accepted bundle determines: its frame, each table's rows and place, where it ends, that its entries are small, and that the rows of
-- each table are distinct
pub record Accepted (b : List ℕ) : Type 0 where
  pub layout : Laid b
  pub small : (j e : ℕ) → j < table_count b → Memᴰ e (body_of b j) → e ≤ 50
  pub distinct : (j : ℕ) → j < table_count b → Distinct (table_of b j)

pub entries_small : (b : List ℕ) → (LargeEntry b → ⊥) → (j e : ℕ) → j < table_count b → Memᴰ e (body_of b j) → e ≤ 50
entries_small b f j x h m = stable (tests_le x 50) (λ g. f (j, h, (x, m, omega (arith, g))))

pub accepted_by : (b : List ℕ) → Accepts (bundle_checks b) → Accepted b
accepted_by b a =
    let bodies = accepts_right (layout_checks b) (body_checks b) a in
    record {
      layout = laid_accepts b (accepts_left (layout_checks b) (body_checks b) a);
      small = entries_small b (accepts_head _ _ bodies);
      distinct = λ j h r. accepts_head _ _ (accepts_tail _ _ bodies) (j, h, r);
    }

pub accepted_bundle : (b : List ℕ) → refusal (bundle_checks b) ≡ 0 → Accepted b
accepted_bundle b e = accepted_by b (accepted (bundle_checks b) e)

-- of its frame, fact by fact
module _ (b : List ℕ) (e : refusal (bundle_checks b) ≡ 0) where
  pub accepted_long : 2 ≤ length b
  accepted_long = (accepted_bundle b e).layout.frame.long

  pub accepted_header : header_length b ≤ length b
  accepted_header = (accepted_bundle b e).layout.frame.header

pub ruleset accepting = (accepted_long, accepted_header)

-- ---- and this is enough: a bundle of which it holds is accepted

table_enough : (b : List ℕ) (j : ℕ) → TableLaid b j → refusal (table_checks_of b j) ≡ 0
table_enough b j t =
    let entry : Located = record { n = variables_of b; rows = row_count b j; place = offset_of b j } in
    sym (table_passes b j entry (record { variables = refl; count = refl; begins = refl }) t.limited t.begins t.within)

tables_enough : (b : List ℕ) (m j : ℕ) → ((i : ℕ) → j ≤ i → i < j + m → TableLaid b i) → refusal (tables_checks b j m) ≡ 0
unfolding tables_checks
tables_enough b zero j f = refusal_none
tables_enough b (suc m) j f =
    let rest : 0 ≡ refusal (tables_checks b (suc j) m) = sym (tables_enough b m (suc j) (λ i g h. f i (omega arith) (omega arith))) in
    sym (passes_first (table_checks_of b j) (tables_checks b (suc j) m) 0 (table_enough b j (f j (omega arith) (omega arith))) rest)

laid_enough : (b : List ℕ) → Laid b → refusal (layout_checks b) ≡ 0
laid_enough b l =
    let f = l.frame in
    let is = has_frame b f.long f.short f.some_tables f.sixteen f.header in
    let frame : 0 ≡ refusal (frame_checks b) = frame_passes b is f.some_variables f.six in
    let tables : refusal (tables_checks b 0 (table_count b)) ≡ 0 = tables_enough b (table_count b) 0 (λ i g h. l.tables i (omega arith)) in
    let none : place_of b (table_count b) < length b → ⊥ = λ h. omega (arith, l.ends) in
    let remain : 0 ≡ refusal (remain_checks b) = sym (refusal_passes _ _ none ∙ refusal_none) in
    sym (passes_first (frame_checks b) (tables_checks b 0 (table_count b) ++ remain_checks b) 0 (sym frame)
    (passes_first (tables_checks b 0 (table_count b)) (remain_checks b) 0 tables remain))

pub bundle_accepted : (b : List ℕ) → Accepted b → refusal (bundle_checks b) ≡ 0
bundle_accepted b a =
    let none : LargeEntry b → ⊥ = λ r. omega (arith, a.small r.0 r.2.0 r.1 r.2.1, r.2.2) in
    let apart : EqualRowsIn b → ⊥ = λ r. a.distinct r.0 r.1 r.2 in
    sym (passes_first (layout_checks b) (body_checks b) 0 (laid_enough b a.layout)
    (sym (refusal_passes _ _ none ∙ refusal_passes _ _ apart ∙ refusal_none)))

-- ---- the tables of an accepted bundle

module _ (b : List ℕ) (a : Laid b) (j : ℕ) (h : j < table_count b) where
  pub length_body : length (body_of b j) ≡ body_length b j
  length_body = length-take-le (body_length b j) (drop (place_of b j) b) (rw length-drop (omega (arith, (a.tables j h).within)))

  -- the header's row count is the number of rows
  pub length_table : length (table_of b j) ≡ row_count b j
  length_table =
      length_rows (variables_of b) (body_of b j)
      ∙ ap (λ (m : ℕ). m / variables_of b) length_body
      ∙ mul-div_left (row_count b j) a.frame.some_variables

  -- and the rows end to end are the body
  pub flat_table : flat (table_of b j) ≡ body_of b j
  flat_table =
      let e : row_count b j ≡ length (body_of b j) / variables_of b = sym length_table ∙ length_rows (variables_of b) (body_of b j) in
      flat_rows (variables_of b) (body_of b j) (length_body ∙ ap (λ (m : ℕ). m * variables_of b) e)

  -- the table passes the checks of a table, where the entries are small; and where its rows are distinct, 12 as well
  module _ (small : (e : ℕ) → Memᴰ e (body_of b j) → e ≤ 50) where
    pub body_accepted : TableAccepted (variables_of b) (body_of b j)
    body_accepted = record {
      some = a.frame.some_variables;
      six = a.frame.six;
      whole = length_body ∙ ap (λ (m : ℕ). m * variables_of b) (sym length_table);
      limited = omega (arith, length_table, (a.tables j h).limited);
      small = small;
    }

pub table_passes_checks : (b : List ℕ) → Accepted b → (j : ℕ) → j < table_count b → refusal (distinct_checks (variables_of b) (body_of b j)) ≡ 0
table_passes_checks b a j h =
    let t = body_accepted b a.layout j h (λ e m. a.small j e h m) in
    sym (refuses_distinct (variables_of b) (body_of b j) (accepts_refusal _ (accepts_table (variables_of b) (body_of b j) t)) (a.distinct j h))
