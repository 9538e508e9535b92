-- How long the text of a table can be.
--
--   row_line_bound         the line of a row with at most 6 exponents, none above 50, has at most 23 bytes
--   text_bound             the text of a table that passed the checks 1 to 4 has at most text_size bytes
use mathlib.Core.Path.{◌≡◌, sym}
use mathlib.Core.List.{List, [], ◌∷◌, ◌++◌, append_assoc}
use mathlib.Core.Logic.{by_cases}
use Prim.Native.Nat.{ℕ, zero, suc, ◌+◌, ◌*◌, ◌≤◌, ◌<◌}
use native.Mathlib.Decide.{dec_le}
use native.Mathlib.Omega.{arith}
use lib.ListN.{length, get_or, length-append}
use Rattle.checks.proofs.TestLaws.{pick_true, pick_false, tests_lt}
use Rattle.terms.specs.Monomials.{Monomial, Table, ◌∈◌, row_at, AtMost}
use Rattle.terms.specs.Rows.{rows}
use Rattle.terms.proofs.MonomialLaws.{most_tail}
use Rattle.terms.proofs.RowsLaws.{member_at, rows_size}
use Rattle.terms.specs.TableChecks.{TableAccepted}
use Rattle.terms.proofs.TableLaws.{rows_small}
use Rattle.division.specs.Janet.{table_marks}
use Rattle.division.proofs.MarkByteLaws.{table_marks_at, marks_of_small}
use Rattle.completion.specs.Completed.{completed}
use Rattle.completing.specs.Operation.{completed_of}
use Rattle.completion.proofs.RuleFive.{completed_most}
use Rattle.completing.proofs.OperationLaws.{completed_of_size}
use Rattle.counts.specs.Counts.{steady_of}
use Rattle.counts.proofs.PolynomialLaws.{steady_most}
use Rattle.text.specs.Decimal.{decimal, space}
use Rattle.listing.specs.Text.{row_line, row_lines, table_line, steady_line, no_room_line, whole_text, completed_text, table_text, text_size}
use Rattle.listing.specs.Text.{spaced}
use Rattle.text.proofs.DecimalLaws.{decimal_length}
use Rattle.listing.proofs.TextLaws.{table_line_length, steady_line_length, no_room_line_length, row_line_length}

-- ---- rows

spaced_bound : (u : Monomial) → AtMost 50 u → length (spaced u) ≤ 3 * length u
unfolding spaced
spaced_bound [] s = omega arith
spaced_bound (e ∷ u) s =
    let first : e ≤ 50 = s 1 in
    omega (arith, length-append (decimal e) (space ∷ spaced u), decimal_length 1 e (omega arith), spaced_bound u (most_tail 50 e u s))

pub row_line_bound : (u : Monomial) (m : ℕ) → length u ≤ 6 → AtMost 50 u → m < 100 → length (row_line u m) ≤ 23
row_line_bound u m l s h = omega (arith, row_line_length u m, spaced_bound u s, decimal_length 1 m h)

row_lines_bound : (H : Table) (marks : List ℕ) → ((k : ℕ) → k < length H → length (row_line (row_at H k) (get_or marks k 0)) ≤ 23)
    → (k : ℕ) → k ≤ length H → length (row_lines H marks k) ≤ 23 * k
unfolding row_lines
row_lines_bound H marks f zero h = omega arith
row_lines_bound H marks f (suc k) h =
    omega (arith, row_lines_bound H marks f k (omega arith), f k (omega arith), length-append (row_lines H marks k) (row_line (row_at H k) (get_or marks k 0)))

-- ---- a table

-- the parts of the text, and their lengths
pub whole_text_length : (j given : ℕ) (H : Table) (marks : List ℕ) (steady : ℕ) → length (whole_text j given H marks steady)
    ≡ length (table_line j given (length H)) + (length (row_lines H marks (length H)) + length (steady_line steady))
unfolding whole_text
whole_text_length j given H marks steady = simp length-append

-- The text part by part, as it is written, with the numbers as they are computed; and the lengths of the parts.
module _ (j given : ℕ) (H : Table) (marks : List ℕ) {made steady s : ℕ} (f : made ≡ length H) (g : s ≡ steady) where
  pub whole_text_parts : table_line j given made ++ row_lines H marks (length H) ++ steady_line s ≡ whole_text j given H marks steady
  unfolding whole_text
  whole_text_parts = rw (f, g) (append_assoc (table_line j given (length H)) (row_lines H marks (length H)) (steady_line steady))

  pub whole_text_sum : length (whole_text j given H marks steady)
      ≡ length (table_line j given made) + (length (row_lines H marks (length H)) + length (steady_line s))
  whole_text_sum = rw (f, g) (whole_text_length j given H marks steady)

whole_text_bound : (j given : ℕ) (H : Table) (marks : List ℕ) (steady : ℕ) → j < 100 → given ≤ 4096 → length H ≤ 4096 → steady ≤ 300
    → ((k : ℕ) → k < length H → length (row_line (row_at H k) (get_or marks k 0)) ≤ 23)
    → length (whole_text j given H marks steady) ≤ text_size
whole_text_bound j given H marks steady hj hg hh hs f =
    omega (
      arith,
      whole_text_length j given H marks steady,
      table_line_length j given (length H),
      decimal_length 1 j hj,
      decimal_length 3 given (omega arith),
      decimal_length 3 (length H) (omega arith),
      row_lines_bound H marks f (length H) (omega arith),
      steady_line_length steady,
      decimal_length 2 steady (omega arith),
    )

pub no_room_line_bound : (j : ℕ) → j < 100 → length (no_room_line j) ≤ text_size
no_room_line_bound j h = omega (arith, no_room_line_length j, decimal_length 1 j h, decimal_length 1 8 (omega arith))

-- a completed table with room, and one without
pub table_text_room : (n j : ℕ) (G : Table) → length (completed n G) ≤ 4096 → table_text n j G ≡ completed_text n j (length G) (completed n G)
unfolding table_text
table_text_room n j G l =
    sym (pick_false (tests_lt 4096 (length (completed n G))) (no_room_line j) (completed_text n j (length G) (completed n G)) (λ h. omega arith))

pub table_text_full : (n j : ℕ) (G : Table) → 4096 < length (completed n G) → table_text n j G ≡ no_room_line j
unfolding table_text
table_text_full n j G l =
    sym (pick_true (tests_lt 4096 (length (completed n G))) (no_room_line j) (completed_text n j (length G) (completed n G)) l)

-- ---- the text of a table

module _ (n j : ℕ) (t : List ℕ) (a : TableAccepted n t) where
  -- the completed rows have no exponent above 50, as the given ones have none
  small : (u : Monomial) → u ∈ completed_of n t → AtMost 50 u
  small = completed_most 50 n (rows n t) (rows_size n t) (rows_small n t a)

  row_bound : (k : ℕ) → k < length (completed_of n t) → length (row_line (row_at (completed_of n t) k) (get_or (table_marks n (completed_of n t)) k 0)) ≤ 23
  row_bound k h =
      let H : Table = completed_of n t in
      let u : Monomial = row_at H k in
      let m : u ∈ H = member_at H [] k h in
      row_line_bound u (get_or (table_marks n H) k 0)
      (omega (arith, completed_of_size n t u m, a.six))
      (small u m)
      (omega (arith, table_marks_at n H k h, marks_of_small n H u a.six))

  steady_bound : steady_of (completed_of n t) ≤ 300
  steady_bound = omega (arith, steady_most n 50 (completed_of n t) (completed_of_size n t) small, a.six)

  made_bound : j < 100 → length (completed_of n t) ≤ 4096 → length (completed_text n j (length (rows n t)) (completed_of n t)) ≤ text_size
  unfolding completed_text
  made_bound h l = whole_text_bound j (length (rows n t)) (completed_of n t) (table_marks n (completed_of n t)) (steady_of (completed_of n t))
      h a.limited l steady_bound row_bound

  pub text_bound : j < 100 → length (table_text n j (rows n t)) ≤ text_size
  text_bound h = by_cases (dec_le (length (completed_of n t)) 4096)
      (λ l. rw (table_text_room n j (rows n t) l) (made_bound h l))
      (λ g. let l : 4096 < length (completed_of n t) = omega arith in rw (table_text_full n j (rows n t) l) (no_room_line_bound j h))
