-- Laws of lines as text.
--
--   numbers_line_parts ..  each line as it is written, part by part; numbers_line_length ..: how long it is
--   joined_next, -fits     numbers one after the other, each in some form
--   spaced_entries         so the exponents of a row
--   row_lines_next, -part, -fits  the lines of the rows, one after the other
--   Listed, listed_none, -fits, -more, -all   the lines of so many rows are written, and the others are left
use mathlib.Core.Path.{◌≡◌, refl, sym, ap, ◌∙◌}
use mathlib.Core.List.{List, [], ◌∷◌, ◌++◌, map, append-nil, append_assoc}
use mathlib.Core.Logic.{◌⊎◌, ⊎_elim, by_cases}
use Prim.Native.Nat.{ℕ, zero, suc, ◌+◌, ◌*◌, ◌-◌, ◌≤◌, ◌<◌}
use native.Mathlib.Decide.{dec_lt}
use native.Mathlib.Nat.{add-zero, add-mul, le-div_iff_mul-le, le_of_suc-le-suc, not-suc-le-zero, eq-or-lt_of_le}
use native.Mathlib.Numerals.{add-one}
use native.Mathlib.Omega.{arith}
use lib.ListN.{length, take, drop, get_or, length-append, length-drop, take-append-drop}
use lib.Seq.{take_at, drop_at, drop-drop, get_or-drop}
use Rattle.std.specs.List.{flat_map, sum_by}
use Rattle.std.proofs.lemmas.List.{flat_map_more, take_more}
use Rattle.std.proofs.lemmas.List.Concat.{flat_map-append, length-flat_map}
use Rattle.terms.specs.Monomials.{Monomial, Table, row_at}
use Rattle.terms.specs.Rows.{rows}
use Rattle.terms.proofs.RowsLaws.{length_rows, rows_at, row_within}
use Rattle.writing.specs.Written.{Wrote}
use Rattle.writing.proofs.WrittenLaws.{wrote_nothing, wrote_then, wrote_as}
use Rattle.text.specs.Decimal.{field, decimal, space, line_feed, fields, line}
use Rattle.listing.specs.Text.{letter_t, letter_r, colon, table_line, row_line, steady_line, no_room_line, refusal_line, row_lines, spaced}

-- ---- lines as they are written, part by part

pub no_room_line_parts : (j : ℕ) → letter_t ++ field j ++ (space ∷ []) ++ letter_r ++ field 8 ++ (line_feed ∷ []) ≡ no_room_line j
unfolding no_room_line fields
no_room_line_parts j = simp append_assoc

-- each number behind one space
fields_numbers : (f l : List ℕ) → fields (f ∷ map decimal l) ≡ f ++ flat_map field l
unfolding fields
fields_numbers f [] = sym (append-nil f)
fields_numbers f (x ∷ l) = ap (λ (t : List ℕ). f ++ (space ∷ t)) (fields_numbers (decimal x) l)

pub numbers_line_parts : (c : ℕ) (l : List ℕ) → (c ∷ []) ++ flat_map field l ++ (line_feed ∷ []) ≡ line ((c ∷ []) ∷ map decimal l)
numbers_line_parts c l = ap (λ (t : List ℕ). t ++ (line_feed ∷ [])) (sym (fields_numbers (c ∷ []) l))

-- each field but the last has one space behind it
fields_spaced : (u : Monomial) (f : List ℕ) (l : List (List ℕ)) → fields (map decimal u ++ (f ∷ l)) ≡ spaced u ++ fields (f ∷ l)
unfolding fields spaced
fields_spaced [] f l = refl
fields_spaced (e ∷ []) f l = simp append_assoc
fields_spaced (e ∷ (d ∷ u)) f l = rw (fields_spaced (d ∷ u) f l) (simp append_assoc)

pub row_line_parts : (u : Monomial) (m : ℕ) → spaced u ++ colon ++ field m ++ (line_feed ∷ []) ≡ row_line u m
unfolding row_line fields
row_line_parts u m = sym (rw (fields_spaced u colon (decimal m ∷ [])) (simp append_assoc))

-- ---- how long they are

pub numbers_line_length : (c : ℕ) (l : List ℕ) → length (line ((c ∷ []) ∷ map decimal l)) ≡ length (flat_map field l) + 2
numbers_line_length c l = rw (← numbers_line_parts c l) (simp length-append (omega arith))

-- the same, number by number
numbers_line_sum : (c : ℕ) (l : List ℕ) → length (line ((c ∷ []) ∷ map decimal l)) ≡ sum_by (λ x. length (field x)) l + 2
numbers_line_sum c l = numbers_line_length c l ∙ rw (length-flat_map field l)

pub one_number_length : (c x : ℕ) → length (line ((c ∷ []) ∷ (decimal x ∷ []))) ≡ length (decimal x) + 3
one_number_length c x = omega (arith, numbers_line_sum c (x ∷ []))

pub three_numbers_length : (c x y z : ℕ)
    → length (line ((c ∷ []) ∷ (decimal x ∷ (decimal y ∷ (decimal z ∷ []))))) ≡ length (decimal x) + length (decimal y) + length (decimal z) + 5
three_numbers_length c x y z = omega (arith, numbers_line_sum c (x ∷ y ∷ z ∷ []))

pub table_line_length : (j given made : ℕ) → length (table_line j given made) ≡ length (decimal j) + length (decimal given) + length (decimal made) + 5
unfolding table_line
table_line_length j given made = three_numbers_length 84 j given made

pub steady_line_length : (s : ℕ) → length (steady_line s) ≡ length (decimal s) + 3
unfolding steady_line
steady_line_length s = one_number_length 83 s

pub refusal_line_length : (m : ℕ) → length (refusal_line m) ≡ length (decimal m) + 3
unfolding refusal_line
refusal_line_length m = one_number_length 82 m

pub no_room_line_length : (j : ℕ) → length (no_room_line j) ≡ length (decimal j) + length (decimal 8) + 6
no_room_line_length j = rw (← no_room_line_parts j) (simp length-append (omega arith))

pub row_line_length : (u : Monomial) (m : ℕ) → length (row_line u m) ≡ length (spaced u) + length (decimal m) + 3
row_line_length u m = rw (← row_line_parts u m) (simp length-append (omega arith))

-- ---- numbers one after the other

module _ (f : ℕ → List ℕ) where
  pub joined_next : (l : List ℕ) (i : ℕ) → i < length l → flat_map f (take i l) ++ f (get_or l i 0) ≡ flat_map f (take (i + 1) l)
  joined_next l i h = flat_map_more f [] (take i l) (get_or l i 0) ∙ ap (flat_map f) (sym (take_more l i 0 h))

  -- a part is no longer than the whole
  joined_part : (l : List ℕ) (i : ℕ) → length (flat_map f (take i l)) ≤ length (flat_map f l)
  joined_part l i =
      let e : flat_map f l ≡ flat_map f (take i l) ++ flat_map f (drop i l) =
      ap (flat_map f) (sym (take-append-drop i l)) ∙ flat_map-append f (take i l) (drop i l) in
      omega (arith, ap length e, length-append (flat_map f (take i l)) (flat_map f (drop i l)))

  pub joined_fits : (l : List ℕ) (i : ℕ) → i < length l → length (flat_map f (take i l)) + length (f (get_or l i 0)) ≤ length (flat_map f l)
  joined_fits l i h = omega (arith, ap length (joined_next l i h), length-append (flat_map f (take i l)) (f (get_or l i 0)), joined_part l (i + 1))

-- an exponent and one space
abbrev pub entry : ℕ → List ℕ
entry e = decimal e ++ (space ∷ [])

pub spaced_entries : (u : Monomial) → flat_map entry u ≡ spaced u
unfolding spaced
spaced_entries [] = refl
spaced_entries (e ∷ u) = rw (spaced_entries u) (append_assoc (decimal e) (space ∷ []) (spaced u))

-- ---- the lines of the rows, one after the other

pub row_lines_part : (H : Table) (marks : List ℕ) (k m : ℕ) → k ≤ m → length (row_lines H marks k) ≤ length (row_lines H marks m)
unfolding row_lines
row_lines_part H marks zero zero h = omega arith
row_lines_part H marks (suc k) zero h = absurd (not-suc-le-zero h)
row_lines_part H marks k (suc m) h = ⊎_elim
    (λ e. rw e (omega arith))
    (λ l. omega (arith, row_lines_part H marks k m (le_of_suc-le-suc l), length-append (row_lines H marks m) (row_line (row_at H m) (get_or marks m 0))))
    (eq-or-lt_of_le h)

pub row_lines_next : (H : Table) (marks : List ℕ) (k : ℕ) → row_lines H marks k ++ row_line (row_at H k) (get_or marks k 0) ≡ row_lines H marks (k + 1)
unfolding row_lines
row_lines_next H marks k = rw add-one

pub row_lines_fits : (H : Table) (marks : List ℕ) (k m : ℕ) → k < m
    → length (row_lines H marks k) + length (row_line (row_at H k) (get_or marks k 0)) ≤ length (row_lines H marks m)
row_lines_fits H marks k m h =
    let parts = length-append (row_lines H marks k) (row_line (row_at H k) (get_or marks k 0)) in
    omega (arith, ap length (row_lines_next H marks k), parts, row_lines_part H marks (k + 1) m (omega arith))

-- The lines of so many rows are written; the bytes of the rows behind them are left, and their marks.
pub record Listed (n : ℕ) (table marks before : List ℕ) (at size : ℕ) (bytes_left marks_left : List ℕ) (next : ℕ) (after : List ℕ) : Type 0 where
  pub turns : ℕ
  pub passed : turns ≤ length (rows n table)
  pub width : size ≡ n
  pub bytes : bytes_left ≡ drop (turns * n) table
  pub marked : marks_left ≡ drop turns marks
  pub wrote : Wrote before at (row_lines (rows n table) marks turns) next after

pub listed_none : {n : ℕ} {table marks before : List ℕ} {at size : ℕ} {bytes_left marks_left : List ℕ} → size ≡ n → bytes_left ≡ table → marks_left ≡ marks
    → Listed n table marks before at size bytes_left marks_left at before
unfolding row_lines
listed_none {n} {table} {before = before} {at} e f g = record {
  turns = 0;
  passed = omega arith;
  width = e;
  bytes = let z : 0 * n ≡ 0 = omega arith in rw z f;
  marked = g;
  wrote = wrote_nothing before at;
}

module _ {n : ℕ} {table marks before : List ℕ} {at size : ℕ} {bytes_left marks_left : List ℕ} {next : ℕ} {after : List ℕ}
    (l : Listed n table marks before at size bytes_left marks_left next after) (some : 0 < n) where
  left_length : length bytes_left ≡ length table - l.turns * n
  left_length = ap length l.bytes ∙ length-drop (l.turns * n) table

  -- no row is left: their bytes end, or their marks do
  listed_end : (length bytes_left < size) ⊎ (length marks_left ≡ 0) → length (rows n table) ≤ length marks → length (rows n table) ≤ l.turns
  listed_end e f = by_cases (dec_lt l.turns (length (rows n table)))
      (λ h.
      ⊎_elim
      (λ b. absurd (omega (arith, left_length, l.width, row_within n table l.turns h)))
      (λ m. absurd (omega (arith, ap length l.marked, length-drop l.turns marks)))
      e)
      (λ g. omega arith)

  pub listed_all : (length bytes_left < size) ⊎ (length marks_left ≡ 0) → length (rows n table) ≤ length marks
      → Wrote before at (row_lines (rows n table) marks (length (rows n table))) next after
  listed_all e f =
      let all : l.turns ≡ length (rows n table) = omega (arith, l.passed, listed_end e f) in
      wrote_as l.wrote (ap (λ (k : ℕ). row_lines (rows n table) marks k) all)

  -- the next row, and its marks
  module _ (row rest : List ℕ) (m : ℕ) (marks_rest : List ℕ)
      (cut : bytes_left ≡ row ++ rest) (long : length row ≡ size) (first : marks_left ≡ m ∷ marks_rest) where
    next_bytes : (l.turns + 1) * n ≡ l.turns * n + n
    next_bytes = omega (arith, add-mul l.turns 1 n)

    here : l.turns < length (rows n table)
    here =
        let fits : (l.turns + 1) * n ≤ length table =
        omega (arith, next_bytes, left_length, long, l.width, ap length cut, length-append row rest) in
        omega (arith, length_rows n table, (le-div_iff_mul-le some).1 fits)

    row_here : row ≡ row_at (rows n table) l.turns
    row_here = sym (take_at row rest n (long ∙ l.width)) ∙ ap (λ (b : List ℕ). take n b) (sym cut ∙ l.bytes) ∙ sym (rows_at n table l.turns here)

    mark_here : m ≡ get_or marks l.turns 0
    mark_here = ap (λ (k : List ℕ). get_or k 0 0) (sym first ∙ l.marked) ∙ get_or-drop l.turns marks 0 0 ∙ rw add-zero

    line_here : row_line row m ≡ row_line (row_at (rows n table) l.turns) (get_or marks l.turns 0)
    line_here = ap (λ (u : Monomial). row_line u m) row_here ∙ ap (row_line (row_at (rows n table) l.turns)) mark_here

    pub listed_fits : at + length (row_lines (rows n table) marks (length (rows n table))) ≤ length before → length after ≡ length before
        → next + length (row_line row m) ≤ length after
    listed_fits e f =
        omega (arith, l.wrote.ends, ap length line_here, row_lines_fits (rows n table) marks l.turns (length (rows n table)) here)

    pub listed_more : {q : ℕ} {b : List ℕ} → at ≤ length before → Wrote after next (row_line row m) q b
        → Listed n table marks before at size rest marks_rest q b
    listed_more e w = record {
      turns = l.turns + 1;
      passed = omega (arith, here);
      width = l.width;
      bytes = sym (drop_at row rest n (long ∙ l.width)) ∙ ap (λ (b : List ℕ). drop n b) (sym cut ∙ l.bytes) ∙ drop-drop n (l.turns * n) table
          ∙ ap (λ (k : ℕ). drop k table) (sym next_bytes);
      marked = ap (λ (k : List ℕ). drop 1 k) (sym first ∙ l.marked) ∙ drop-drop 1 l.turns marks;
      wrote = wrote_as (wrote_then l.wrote e (wrote_as w line_here)) (row_lines_next (rows n table) marks l.turns);
    }
