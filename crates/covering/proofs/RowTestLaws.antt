-- Laws of the check whether an ascending table is complete, for the code that asks it row by row.
--
--   row_asks, row_gives             what `row_complete` asks of a row that was read, and what it gives
--   product_covered                 a row's bytes with one of them raised are the row times that variable, and this has a Janet divisor
--                                   exactly where the descent finds a row
--   marked_variable, unmarked_variable   the test of a variable, by its bit of the marks
--   each_goes_on, each_fails        a test of each variable, one after the other
--   last_complete, next_complete, complete_fails, complete_whole, complete_none   rule 4's test, row after row from the end
--   turn_fails, turn_goes_on        one turn: the row that was read fails the test, and so the table; or it passes, and the walk goes on
use mathlib.Core.Path.{◌≡◌, refl, sym, ap, ◌∙◌, subst}
use mathlib.Core.Bool.{Bool, true, false}
use mathlib.Core.List.Memᴰ
use mathlib.Core.List.{List, [], ◌∷◌, Memᴰ}
use mathlib.Core.Logic.{⊎_elim}
use mathlib.Core.Option.{Option, none, some}
use Prim.Native.Nat.{ℕ, zero, suc, ◌+◌, ◌-◌, ◌/◌, ◌%◌, ◌^◌, ◌≤◌, ◌<◌}
use native.Mathlib.Nat.{not-suc-le-zero, le_of_suc-le-suc, eq-or-lt_of_le}
use native.Mathlib.Numerals.{add-one}
use native.Mathlib.Omega.{arith}
use lib.ListN.{length, take, drop, set, get_or, length-set}
use lib.Seq.{take-set-lt, get_or-take, length-take-le, drop-cons, drop-length}
use Rattle.std.specs.Prelude.{is_ok}
use Rattle.std.proofs.lemmas.Bool.{and_right}
use Rattle.checks.specs.Tests.{pick, each, all}
use Rattle.terms.specs.Monomials.{Monomial, Table, ◌!◌, row_at, AtMost, times}
use Rattle.terms.specs.Order.{Ascending}
use Rattle.terms.specs.Rows.{rows, as_row, monomial_of}
use Rattle.terms.proofs.RowsLaws.{rows_size, row_size, member_at, padded_at, row_read, row_variables}
use Rattle.division.specs.Janet.{multiplicative_test, marks_of, covered_test, complete_test}
use Rattle.division.specs.Scan.{found_test}
use Rattle.division.specs.Checks.{Ready}
use Rattle.division.specs.Descent.{descent}
use Rattle.finding.specs.Stepping.{found_or_ended, descended}
use Rattle.covering.specs.RowTest.{Small, variable_test, row_test}
use Rattle.division.proofs.MarkByteLaws.{marks_bit}
use Rattle.division.proofs.SuccessorLaws.{last_marks}
use Rattle.division.proofs.DescentLaws.{covered_found}
use Rattle.finding.specs.declared.Descended.{Descended}
use Rattle.terms.specs.declared.Row.{Row}

-- ---- the product of a row and a variable, as bytes

module _ (bytes : List ℕ) (n : ℕ) (fits : n ≤ length bytes) where
  product_length : (i v : ℕ) → length (take n (set bytes i v)) ≡ n
  product_length i v = length-take-le n (set bytes i v) (rw length-set fits)

  product_times : (i : ℕ) → 0 < i → i ≤ n → take n (set bytes (i - 1) (get_or bytes (i - 1) 0 + 1)) ≡ times (take n bytes) i 1
  product_times zero p l = absurd (not-suc-le-zero p)
  product_times (suc i) p l =
      let e : suc i - 1 ≡ i = omega arith in
      rw (e, take-set-lt n bytes i (get_or bytes i 0 + 1) l, get_or-take n bytes i 0 l)

-- ---- a row read from the table: what the code asks of it, and what it gives

module _ (n : ℕ) (table : List ℕ) (k : ℕ) (l : k < length (rows n table)) (row : Row) (is : row ≡ as_row n (row_at (rows n table) k)) where
  abbrev G : Table
  G = rows n table

  same : monomial_of row ≡ row_at G k
  same = row_read n (row_at G k) is (row_size n table k l)

  small : Small G → AtMost 50 row.exponents
  unfolding as_row
  small h i = omega (arith, ap (λ (x : Row). x.exponents ! i) is ∙ padded_at (row_at G k) i, h k l i)

  pub row_asks : (m : ℕ) → Ready n G → Small G → m ≡ marks_of n G (row_at G k) →
      Ready n G × (row.n ≡ n) × AtMost 50 row.exponents × (m ≡ marks_of n G (monomial_of row))
  row_asks m r h e = (r, row_variables n (row_at G k) is, small h, rw same e)

  pub row_gives : {b : Bool} → b ≡ row_test n G (monomial_of row) → b ≡ row_test n G (row_at G k)
  row_gives e = rw same at e

-- ---- a Janet divisor, by the descent

ok_found : (o : Option ℕ) (e : ℕ) → is_ok (found_or_ended o e) ≡ found_test o
ok_found none e = refl
ok_found (some r) e = refl

module _ (n : ℕ) (table : List ℕ) (row : Row) (fits : n ≤ length row.exponents) (width : row.n ≡ n) (i : ℕ) (p : 0 < i) (l : i ≤ n) where
  abbrev raised : Monomial
  raised = take n (set row.exponents (i - 1) (get_or row.exponents (i - 1) 0 + 1))

  pub product_covered : (d : Descended) → d ≡ descended (descent n (rows n table) raised)
      → is_ok d.found ≡ covered_test (rows n table) (times (monomial_of row) i 1)
  product_covered d is =
      let found = descent n (rows n table) raised in
      ap (λ (x : Descended). is_ok x.found) is ∙ ok_found found.found found.ended
      ∙ sym (covered_found (rows_size n table) raised (product_length row.exponents n fits (i - 1) (get_or row.exponents (i - 1) 0 + 1)))
      ∙ ap (covered_test (rows n table)) (rw width (product_times row.exponents n fits i p l))

-- ---- one variable of one row, whose marks are m

module _ (n : ℕ) (G : Table) (u : Monomial) (m : ℕ) (is : m ≡ marks_of n G u) (i : ℕ) (l : i < n) where
  bit_is : m / 2 ^ i % 2 ≡ pick (multiplicative_test G u (suc i)) 1 0
  unfolding marks_of
  bit_is = rw is (marks_bit (multiplicative_test G u) n i l)

  pub marked_variable : (m / 2 ^ i % 2 ≡ 0 → ⊥) → variable_test G u (suc i) ≡ true
  unfolding variable_test
  marked_variable f = go (multiplicative_test G u (suc i)) refl
    where
      go : (b : Bool) → multiplicative_test G u (suc i) ≡ b → variable_test G u (suc i) ≡ true
      go true e = rw e
      go false e = absurd (f (bit_is ∙ ap (λ (c : Bool). pick c 1 0) e))

  pub unmarked_variable : m / 2 ^ i % 2 ≡ 0 → {b : Bool} → b ≡ covered_test G (times u (i + 1) 1) → variable_test G u (suc i) ≡ b
  unfolding variable_test
  unmarked_variable f h = go (multiplicative_test G u (suc i)) refl ∙ sym (rw add-one at h)
    where
      go : (b : Bool) → multiplicative_test G u (suc i) ≡ b → variable_test G u (suc i) ≡ covered_test G (times u (suc i) 1)
      go true e = absurd (omega (arith, f, bit_is ∙ ap (λ (c : Bool). pick {A = ℕ} c 1 0) e))
      go false e = rw e

-- ---- one variable after the other

pub each_goes_on : (i : ℕ) (f : ℕ → Bool) → each i f ≡ true → f (suc i) ≡ true → each (i + 1) f ≡ true
each_goes_on i f e h = rw (add-one i, h) e

pub each_fails : (n i : ℕ) (f : ℕ → Bool) → i < n → f (suc i) ≡ false → each n f ≡ false
each_fails zero i f l h = absurd (not-suc-le-zero l)
each_fails (suc n) i f l h = ⊎_elim
    (λ e. let g : f (suc n) ≡ false = subst (λ (k : ℕ). f (suc k) ≡ false) e h in rw g)
    (λ k. and_right (f (suc n)) (each n f) (each_fails n i f k h))
    (eq-or-lt_of_le (le_of_suc-le-suc l))

each_all : (n : ℕ) (f : ℕ → Bool) → ((i : ℕ) → f i ≡ true) → each n f ≡ true
each_all zero f h = refl
each_all (suc n) f h = rw (h (suc n)) (each_all n f h)

-- ---- one row after the other, from the end

all_fails : (f : Monomial → Bool) (l : Table) (u : Monomial) → Memᴰ u l → f u ≡ false → all f l ≡ false
all_fails f [] u m h = absurd (Memᴰ.not-nil m)
all_fails f (v ∷ l) u m h = ⊎_elim
    (λ e. let g : f v ≡ false = ap f (sym e) ∙ h in rw g)
    (λ k. and_right (f v) (all f l) (all_fails f l u k h))
    (Memᴰ.cases_cons m)

module _ (n : ℕ) (G : Table) where
  whole_test : complete_test n G ≡ all (row_test n G) G
  unfolding complete_test row_test variable_test
  whole_test = refl

  pub complete_none : length G ≡ 0 → true ≡ complete_test n G
  complete_none e = go G e ∙ sym whole_test
    where
      go : (H : Table) → length H ≡ 0 → true ≡ all (row_test n G) H
      go [] h = refl
      go (u ∷ H) h = absurd (omega arith)

  next_complete : (k : ℕ) → k < length G → row_test n G (row_at G k) ≡ true → all (row_test n G) (drop (suc k) G) ≡ true
      → all (row_test n G) (drop k G) ≡ true
  next_complete k l h e = rw (drop-cons G k [] l, h) e

  -- the last row has every mark
  pub last_complete : Ascending G → (k : ℕ) → suc k ≡ length G → all (row_test n G) (drop k G) ≡ true
  unfolding row_test variable_test
  last_complete a k e =
      let rest : drop (suc k) G ≡ [] = ap (λ (m : ℕ). drop m G) e ∙ drop-length G in
      let h : row_test n G (row_at G k) ≡ true = each_all n (variable_test G (row_at G k)) (λ i. rw (last_marks G a k e i)) in
      next_complete k (omega arith) h (rw rest)

  pub complete_whole : all (row_test n G) (drop 0 G) ≡ true → true ≡ complete_test n G
  complete_whole e = sym (whole_test ∙ e)

  complete_fails : (k : ℕ) → k < length G → row_test n G (row_at G k) ≡ false → false ≡ complete_test n G
  complete_fails k l h = sym (whole_test ∙ all_fails (row_test n G) G (row_at G k) (member_at G [] k l) h)

-- ---- one turn of the walk: row k is read and asked

module _ (n : ℕ) (table : List ℕ) (k : ℕ) (l : k < length (rows n table)) (row : Row) (is : row ≡ as_row n (row_at (rows n table) k))
    (b : Bool) (asked : b ≡ row_test n (rows n table) (monomial_of row)) where
  pub turn_fails : b ≡ false → false ≡ complete_test n (rows n table)
  turn_fails f = complete_fails n (rows n table) k l (sym (row_gives n table k l row is asked) ∙ f)

  pub turn_goes_on : b ≡ true → all (row_test n (rows n table)) (drop (suc k) (rows n table)) ≡ true
      → all (row_test n (rows n table)) (drop k (rows n table)) ≡ true
  turn_goes_on f rest = next_complete n (rows n table) k l (sym (row_gives n table k l row is asked) ∙ f) rest
