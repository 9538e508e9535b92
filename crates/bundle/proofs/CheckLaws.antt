-- Laws of the bundle's checks: what the code asks, step by step, is the list of checks in its order.
--
--   Framed, framed           what is known of a bundle that passed 9 and 1
--   framing                  the same fact by fact, and that a body's length fits, as one set
--   frame_nine, frame_one, frame_passes   which check of the frame refuses
--   table_three, table_ten, table_eleven, table_passes   which check of one table refuses
--   TableLaid, table_laid    what is known of a table that passed 3, 10 and 11
--   refuses_here, goes_on_lem, past_last   the checks from table j on
--   Passed, passed-..        the loop over the tables
use mathlib.Core.Path.{◌≡◌, sym, ap, ◌∙◌, subst}
use mathlib.Core.List.{List, [], ◌++◌, append_assoc}
use mathlib.Core.Logic.{inl, inr, ⊎_elim, by_cases}
use Prim.Native.Nat.{ℕ, zero, suc, ◌+◌, ◌*◌, ◌-◌, ◌≤◌, ◌<◌}
use native.Mathlib.Nat.{mul-le-mul}
use native.Mathlib.Numerals.{add-one}
use native.Mathlib.Decide.{ℕ_discrete}
use native.Mathlib.Omega.{arith}
use lib.ListN.{length}
use Rattle.checks.proofs.TestLaws.{stable, tests_le, tests_lt, tests_eq, tests_and}
use Rattle.checks.specs.Refusals.{Check, refusal, Accepts}
use Rattle.terms.specs.TableChecks.{NotOneToSix}
use Rattle.checks.proofs.RefusalLaws.{refusal_none, refusal_holds, refusal_passes, refusal_append, refusal_first, accepted, accepts_head, accepts_tail}
use Rattle.checks.proofs.RefusalLaws.{accepts_left, accepts_right}
use Rattle.bundle.specs.Format.{variables_of, table_count, header_length, row_count, offset_of, body_length, place_of}
use Rattle.bundle.specs.Checks.{NoFrame, frame_checks, table_checks_of, tables_checks, remain_checks}
use Rattle.bundle.specs.Operation.{Entered}
use Rattle.bundle.specs.declared.Located.{Located}

-- ---- the frame

pub record Framed (b : List ℕ) : Type 0 where
  pub long : 2 ≤ length b
  pub short : length b ≤ 65535
  pub some_tables : 0 < table_count b
  pub sixteen : table_count b ≤ 16
  pub header : header_length b ≤ length b
  pub some_variables : 0 < variables_of b
  pub six : variables_of b ≤ 6

framed_by : (b : List ℕ) → (NoFrame b → ⊥) → (NotOneToSix (variables_of b) → ⊥) → Framed b
framed_by b f g =
    let tables = stable (tests_and (tests_lt 0 (table_count b)) (λ p. tests_le (table_count b) 16)) (λ h. f (inr (inr (inl h)))) in
    let variables = stable (tests_and (tests_lt 0 (variables_of b)) (λ p. tests_le (variables_of b) 6)) g in
    record {
      long = stable (tests_le 2 (length b)) (λ h. f (inl (omega (arith, h))));
      short = stable (tests_le (length b) 65535) (λ h. f (inr (inl (omega (arith, h)))));
      some_tables = tables.0;
      sixteen = tables.1;
      header = stable (tests_le (header_length b) (length b)) (λ h. f (inr (inr (inr (omega (arith, h))))));
      some_variables = variables.0;
      six = variables.1;
    }

pub framed_accepts : (b : List ℕ) → Accepts (frame_checks b) → Framed b
framed_accepts b a = framed_by b (accepts_head _ _ a) (accepts_head _ _ (accepts_tail _ _ a))

pub framed : (b : List ℕ) → refusal (frame_checks b) ≡ 0 → Framed b
framed b e = framed_accepts b (accepted (frame_checks b) e)

-- the same fact by fact
module _ (b : List ℕ) (e : refusal (frame_checks b) ≡ 0) where
  pub framed_long : 2 ≤ length b
  framed_long = (framed b e).long

  pub framed_short : length b ≤ 65535
  framed_short = (framed b e).short

  pub framed_sixteen : table_count b ≤ 16
  framed_sixteen = (framed b e).sixteen

  pub framed_header : header_length b ≤ length b
  framed_header = (framed b e).header

  pub framed_six : variables_of b ≤ 6
  framed_six = (framed b e).six

module _ (b : List ℕ) where
  pub frame_nine : NoFrame b → 9 ≡ refusal (frame_checks b)
  frame_nine h = sym (refusal_holds _ _ h)

  pub has_frame : 2 ≤ length b → length b ≤ 65535 → 0 < table_count b → table_count b ≤ 16 → header_length b ≤ length b → NoFrame b → ⊥
  has_frame l s p f h x = ⊎_elim (λ y. omega arith) (λ y. ⊎_elim (λ z. omega arith) (λ z. ⊎_elim (λ w. w (p, f)) (λ w. omega arith) z) y) x

  pub frame_one : (NoFrame b → ⊥) → NotOneToSix (variables_of b) → 1 ≡ refusal (frame_checks b)
  frame_one f h = sym (refusal_passes _ _ f ∙ refusal_holds _ _ h)

  pub frame_passes : (NoFrame b → ⊥) → 0 < variables_of b → variables_of b ≤ 6 → 0 ≡ refusal (frame_checks b)
  frame_passes f p l = let g : NotOneToSix (variables_of b) → ⊥ = λ h. h (p, l) in sym (refusal_passes _ _ f ∙ refusal_passes _ _ g ∙ refusal_none)

-- ---- the tables in turn

-- the checks from table j on, where some table is left
tables_next : (b : List ℕ) (j k : ℕ) → j < k → tables_checks b j (k - j) ≡ table_checks_of b j ++ tables_checks b (j + 1) (k - (j + 1))
unfolding tables_checks
tables_next b j k h =
    let e : k - j ≡ suc (k - (j + 1)) = omega arith in
    rw (e, add-one)

-- and where none is
tables_end : (b : List ℕ) (j k : ℕ) → k ≤ j → tables_checks b j (k - j) ≡ []
unfolding tables_checks
tables_end b j k h =
    let e : k - j ≡ 0 = omega arith in
    rw e

module _ (b : List ℕ) (j k : ℕ) (rest : List Check) where
  -- table j is refused, so this is the refusal
  pub refuses_here : j < k → 0 < refusal (table_checks_of b j) → refusal (tables_checks b j (k - j) ++ rest) ≡ refusal (table_checks_of b j)
  refuses_here h p =
      ap (λ (l : List Check). refusal (l ++ rest)) (tables_next b j k h)
      ∙ ap refusal (append_assoc (table_checks_of b j) (tables_checks b (j + 1) (k - (j + 1))) rest)
      ∙ refusal_first (table_checks_of b j) (tables_checks b (j + 1) (k - (j + 1)) ++ rest) p

  -- table j passes, so the others decide
  pub goes_on_lem : j < k → refusal (table_checks_of b j) ≡ 0
      → refusal (tables_checks b j (k - j) ++ rest) ≡ refusal (tables_checks b (j + 1) (k - (j + 1)) ++ rest)
  goes_on_lem h e =
      ap (λ (l : List Check). refusal (l ++ rest)) (tables_next b j k h)
      ∙ ap refusal (append_assoc (table_checks_of b j) (tables_checks b (j + 1) (k - (j + 1))) rest)
      ∙ refusal_append (table_checks_of b j) (tables_checks b (j + 1) (k - (j + 1)) ++ rest) (accepted (table_checks_of b j) e)

  pub past_last : k ≤ j → refusal (tables_checks b j (k - j) ++ rest) ≡ refusal rest
  past_last h = ap (λ (l : List Check). refusal (l ++ rest)) (tables_end b j k h)

-- a body's length fits
pub body_bound : (rows n : ℕ) → rows ≤ 65535 → n ≤ 6 → rows * n ≤ 393210
body_bound rows n h g = mul-le-mul h g

pub ruleset framing = (framed_long, framed_short, framed_sixteen, framed_header, framed_six, body_bound)

-- the entry of a table, and the first check that refuses it
module _ (b : List ℕ) (j : ℕ) (f : Located) (e : Entered b j f) where
  size : f.rows * f.n ≡ body_length b j
  size = rw (e.count, e.variables)

  pub table_three : 4096 < f.rows → 3 ≡ refusal (table_checks_of b j)
  table_three h = sym (refusal_holds _ _ (rw e.count at h))

  module _ (limited : f.rows ≤ 4096) where
    not_three : 4096 < row_count b j → ⊥
    not_three h = omega (arith, e.count)

    pub table_ten : (f.place ≡ place_of b j → ⊥) → 10 ≡ refusal (table_checks_of b j)
    table_ten h =
        let other : offset_of b j ≡ place_of b j → ⊥ = λ x. h (e.begins ∙ x) in
        sym (refusal_passes _ _ not_three ∙ refusal_holds _ _ other)

    module _ (begins : f.place ≡ place_of b j) where
      not_ten : (offset_of b j ≡ place_of b j → ⊥) → ⊥
      not_ten h = h (sym e.begins ∙ begins)

      pub table_eleven : length b < place_of b j + f.rows * f.n → 11 ≡ refusal (table_checks_of b j)
      table_eleven h = sym (refusal_passes _ _ not_three ∙ refusal_passes _ _ not_ten ∙ refusal_holds _ _ (rw size at h))

      pub table_passes : place_of b j + f.rows * f.n ≤ length b → 0 ≡ refusal (table_checks_of b j)
      table_passes h =
          let not_eleven : length b < place_of b j + body_length b j → ⊥ = λ x. omega (arith, size) in
          sym (refusal_passes _ _ not_three ∙ refusal_passes _ _ not_ten ∙ refusal_passes _ _ not_eleven ∙ refusal_none)

-- what passed the checks of one table
pub record TableLaid (b : List ℕ) (j : ℕ) : Type 0 where
  pub limited : row_count b j ≤ 4096
  pub begins : offset_of b j ≡ place_of b j
  pub within : place_of b j + body_length b j ≤ length b

table_laid_accepts : (b : List ℕ) (j : ℕ) → Accepts (table_checks_of b j) → TableLaid b j
table_laid_accepts b j a =
    let from10 = accepts_tail _ _ a in
    record {
      limited = stable (tests_le (row_count b j) 4096) (λ h. accepts_head _ _ a (omega (arith, h)));
      begins = stable (tests_eq (offset_of b j) (place_of b j)) (accepts_head _ _ from10);
      within = stable (tests_le (place_of b j + body_length b j) (length b)) (λ h. accepts_head _ _ (accepts_tail _ _ from10) (omega (arith, h)));
    }

pub table_laid : (b : List ℕ) (j : ℕ) → refusal (table_checks_of b j) ≡ 0 → TableLaid b j
table_laid b j e = table_laid_accepts b j (accepted (table_checks_of b j) e)

-- the loop over the tables, at table j: the place is where its body must begin, and the checks from it on decide
pub record Passed (b : List ℕ) (place j : ℕ) : Type 0 where
  pub below : j ≤ table_count b
  pub here : place ≡ place_of b j
  pub within : place ≤ length b
  pub same : refusal (tables_checks b 0 (table_count b) ++ remain_checks b) ≡ refusal (tables_checks b j (table_count b - j) ++ remain_checks b)

module _ (b : List ℕ) where
  pub passed_first : (place : ℕ) → Framed b → place ≡ header_length b → Passed b place 0
  unfolding place_of
  passed_first place f h =
      record { below = omega arith; here = h; within = omega (arith, f.header); same = let e : table_count b - 0 ≡ table_count b = omega arith in rw e }

  module _ (place j : ℕ) (p : Passed b place j) where
    pub passed_next : j < table_count b → (f : Located) → Entered b j f → 0 ≡ refusal (table_checks_of b j) → Passed b (place + f.rows * f.n) (j + 1)
    unfolding place_of
    passed_next h f e z =
        let t = table_laid b j (sym z) in
        let w : place + f.rows * f.n ≡ place_of b j + body_length b j = rw (p.here, size b j f e) in
        record {
          below = omega arith;
          here = w ∙ rw (add-one j);
          within = omega (arith, t.within);
          same = p.same ∙ goes_on_lem b j (table_count b) (remain_checks b) h (sym z);
        }

    pub passed_refuses : j < table_count b → (m : ℕ) → 0 < m → m ≡ refusal (table_checks_of b j)
        → m ≡ refusal (tables_checks b 0 (table_count b) ++ remain_checks b)
    passed_refuses h m q e = e ∙ sym (refuses_here b j (table_count b) (remain_checks b) h (rw e at q)) ∙ sym p.same

    module _ (h : table_count b ≤ j) where
      at_end : place_of b (table_count b) ≡ place
      at_end =
          let e : table_count b ≡ j = omega (arith, p.below) in
          rw e (sym p.here)

      pub passed_remain : place < length b → 11 ≡ refusal (tables_checks b 0 (table_count b) ++ remain_checks b)
      passed_remain l =
          let r : place_of b (table_count b) < length b = omega (arith, at_end) in
          sym (p.same ∙ past_last b j (table_count b) (remain_checks b) h ∙ refusal_holds _ _ r)

      pub passed_all : length b ≤ place → 0 ≡ refusal (tables_checks b 0 (table_count b) ++ remain_checks b)
      passed_all l =
          let r : place_of b (table_count b) < length b → ⊥ = λ x. omega (arith, at_end) in
          sym (p.same ∙ past_last b j (table_count b) (remain_checks b) h ∙ refusal_passes _ _ r ∙ refusal_none)

-- where the checks of the tables j to j + m − 1 pass, each of these tables is laid
pub tables_laid : (b : List ℕ) (m j : ℕ) → Accepts (tables_checks b j m) → (i : ℕ) → j ≤ i → i < j + m → TableLaid b i
unfolding tables_checks
tables_laid b zero j a i g h = absurd (omega arith)
tables_laid b (suc m) j a i g h = by_cases (ℕ_discrete j i)
    (λ e. subst (TableLaid b) e (table_laid_accepts b j (accepts_left (table_checks_of b j) (tables_checks b (suc j) m) a)))
    (λ f. tables_laid b m (suc j) (accepts_right (table_checks_of b j) (tables_checks b (suc j) m) a) i (omega arith) (omega arith))
