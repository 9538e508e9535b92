-- A search through the tables given for one with equal rows: those from table j on decide, and their rows are what is left of the bytes.
--
--   Looked                 so far no table has equal rows
--   looked_none, looked_more   before the first table, and one more
--   looked_found, looked_all   a table is found, and none is
--   part_fits, part_within, part_accepted   the bytes of the next table: how many, that they are there, and that they pass the checks 1 to 4
use mathlib.Core.Path.{◌≡◌, refl, sym, ap, ◌∙◌}
use mathlib.Core.Bool.{Bool, true, false, ◌||◌}
use mathlib.Core.List.{List, ◌∷◌, Memᴰ}
use Prim.Native.Nat.{ℕ, ◌+◌, ◌*◌, ◌≤◌, ◌<◌}
use native.Mathlib.Nat.{add-mul, mul-le-mul}
use native.Mathlib.Numerals.{add-one}
use native.Mathlib.Omega.{arith}
use lib.Dec.{ltb}
use lib.ListN.{length, get_or, take, drop, drop_of_length-le, length-drop}
use lib.Seq.{drop-cons, length-take-le}
use Rattle.checks.specs.Tests.{any}
use Rattle.checks.proofs.TestLaws.{stable, false_tests, tests_le}
use Rattle.checks.specs.Refusals.{refusal}
use Rattle.terms.specs.Monomials.{Table}
use Rattle.terms.specs.Rows.{rows, first_rows}
use Rattle.terms.specs.TableChecks.{TableAccepted, tests_entry_above50}
use Rattle.terms.proofs.RowsLaws.{member_at, member_take, member_drop, length_first_rows, rows_part}
use Rattle.distinct.specs.EqualRows.{equal_rows_test}
use Rattle.packing.specs.GivenTables.{total_rows, given_tables}
use Rattle.packing.specs.Operation.{shape_checks}
use Rattle.packing.proofs.CheckLaws.{Shaped, shaped}
use Rattle.packing.proofs.LoopLaws.{total_next}

-- whether a table given has equal rows
abbrev search : ℕ → List ℕ → List ℕ → Bool
search n counts tables = any equal_rows_test (given_tables n counts tables)

pub record Looked (n : ℕ) (counts tables : List ℕ) (j : ℕ) (left : List ℕ) : Type 0 where
  pub shape : Shaped n counts tables
  pub size : length left ≡ total_rows (drop j counts) * n
  pub small : (x : ℕ) → Memᴰ x left → x ≤ 50
  pub rest : search n (drop j counts) left ≡ search n counts tables

pub looked_none : {n : ℕ} {counts tables : List ℕ} → refusal (shape_checks n counts tables) ≡ 0 → any (λ x. ltb 50 x) tables ≡ false
    → Looked n counts tables 0 tables
looked_none {n} {counts} {tables} e f = record {
  shape = shaped n counts tables e;
  size = (shaped n counts tables e).whole;
  small = λ x m. stable (tests_le x 50) (λ o. false_tests (tests_entry_above50 tables) f (x, m, omega (arith, o)));
  rest = refl;
}

module _ {n : ℕ} {counts tables left : List ℕ} {j : ℕ} (l : Looked n counts tables j left) where
  -- no table is left
  pub looked_all : length counts ≤ j → false ≡ search n counts tables
  unfolding given_tables
  looked_all h = ap (λ (c : List ℕ). search n c left) (sym (drop_of_length-le counts h)) ∙ l.rest

  -- the next table has c rows
  module _ (c : ℕ) (h : j < length counts) (g : c ≡ get_or counts j 0) where
    limited : c ≤ 4096
    limited = rw g (l.shape.limited (get_or counts j 0) (member_at counts 0 j h))

    pub part_fits : c * n ≤ 4096 * 6
    part_fits = mul-le-mul limited l.shape.six

    -- what is left is its rows and those behind
    next_size : length left ≡ c * n + total_rows (drop (j + 1) counts) * n
    next_size =
        let d : total_rows (drop j counts) ≡ c + total_rows (drop (j + 1) counts) = rw g (total_next counts j h) in
        l.size ∙ ap (λ (x : ℕ). x * n) d ∙ add-mul c (total_rows (drop (j + 1) counts)) n

    pub part_within : c * n ≤ length left
    part_within = omega (arith, next_size)

    module _ {part : List ℕ} (front : part ≡ take (c * n) left) where
      part_table : rows n part ≡ first_rows n c left
      part_table = ap (rows n) front ∙ rows_part n c left l.shape.some_variables part_within

      -- its bytes are a table of n variables with at most 4,096 rows and small entries
      pub part_accepted : TableAccepted n part
      part_accepted = record {
        some = l.shape.some_variables;
        six = l.shape.six;
        whole = ap length front ∙ length-take-le (c * n) left part_within ∙ ap (λ (k : ℕ). k * n) (sym count);
        limited = omega (arith, count, limited);
        small = λ x m. l.small x (member_take (c * n) x left (rw front at m));
      }
        where
          count : length (rows n part) ≡ c
          count = ap length part_table ∙ length_first_rows n c left

      module _ {behind : List ℕ} (back : behind ≡ drop (c * n) left) where
        -- the next table decides, or those behind it
        next_search : equal_rows_test (rows n part) || search n (drop (j + 1) counts) behind ≡ search n counts tables
        unfolding given_tables
        next_search =
            let cut : drop j counts ≡ c ∷ drop (j + 1) counts = rw (add-one, g) (drop-cons counts j 0 h) in
            ap (λ (t : Table). equal_rows_test t || search n (drop (j + 1) counts) behind) part_table
            ∙ ap (λ (t : List ℕ). equal_rows_test (first_rows n c left) || search n (drop (j + 1) counts) t) back
            ∙ sym (ap (λ (k : List ℕ). search n k left) cut) ∙ l.rest

        module _ {found : Bool} (e : found ≡ equal_rows_test (rows n part)) where
          next_rest : found || search n (drop (j + 1) counts) behind ≡ search n counts tables
          next_rest = ap (λ (b : Bool). b || search n (drop (j + 1) counts) behind) e ∙ next_search

          pub looked_found : found ≡ true → true ≡ search n counts tables
          looked_found f = ap (λ (b : Bool). b || search n (drop (j + 1) counts) behind) (sym f) ∙ next_rest

          pub looked_more : found ≡ false → Looked n counts tables (j + 1) behind
          looked_more f = record {
            shape = l.shape;
            size = rw (back, length-drop) (omega (arith, next_size));
            small = λ x m. l.small x (member_drop (c * n) x left (rw back at m));
            rest = ap (λ (b : Bool). b || search n (drop (j + 1) counts) behind) (sym f) ∙ next_rest;
          }
