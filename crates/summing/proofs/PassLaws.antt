-- What the pass over the rows needs, over plain lists and numbers.
--
--   binomials_fit, share_cases, signed_cases   what closes the goals of `share` and `signed_share`, as sets
--   degree_sum       the degree of a row is the sum of its bytes
--   chunks_rows      the chunks of a table are its rows
--   signed_near, signed_odd, signed_even   a share with a sign, by its cases
--   share_small, signed_small   no share exceeds the largest binomial
--   PassedRow, passed_row, passed_all   what is known of a row in the pass, and at its end
--   pairs_sum, sum_more, sum_all   the sum of shares, with one more, and at the end; within_more, within_all   its size
--   marked_front     a buffer whose front holds the marks is marked
--   summable         a checked and marked table can be summed
--   count_sum, polynomial_sum   what the sums over a checked and marked table are
--   steady_fold      the largest degree, row by row
use mathlib.Core.Path.{◌≡◌, refl, sym, ap, ap₂, ◌∙◌}
use mathlib.Core.Bool.{true, false, not}
use mathlib.Core.List.{List, [], ◌∷◌, ◌++◌}
use mathlib.Core.Logic.{◌⊎◌, inl, inr, ⊎_elim, by_cases}
use Prim.Native.Nat.{ℕ, zero, suc, ◌+◌, ◌*◌, ◌-◌, ◌/◌, ◌%◌, ◌≤◌, ◌<◌, max}
use native.Mathlib.Nat.{mul-le-mul_right, not-suc-le-zero, le_of_suc-le-suc, add-mul, one-mul, add-div_left, div-eq_of_lt}
use native.Mathlib.Numerals.{add-one}
use native.Mathlib.Decide.{dec_le, ℕ_discrete}
use native.Mathlib.Omega.{arith}
use borrow.Author.Tests.{lt-ltb}
use denote.Ref.{Bor}
use lib.Count.{ones, ones-le}
use lib.ListN.{length, get_or, drop, length-append, drop_of_length-le}
use lib.Seq.{drop-cons}
use lib.IntN.{ℤ, pos, negsuc, neg_ℤ, sub_ℕ, ◌+ℤ◌, ◌-ℤ◌, +ℤ_idr, +ℤ_assoc}
use Rattle.std.proofs.Common.{Option, Some, None}
use Rattle.std.proofs.iter.Yields.{fronts}
use Rattle.std.proofs.lemmas.Int.{ints}
use Rattle.std.proofs.lemmas.Iterator.{YieldsList, YieldsList-from_slice, YieldsList-from_zip, zips}
use Rattle.std.proofs.lemmas.Iterator.Consumers.{YieldsList-turn, YieldsList-end}
use Rattle.std.proofs.lemmas.Iterator.Splits.{YieldsList-from_shown_while}
use Rattle.std.proofs.lemmas.List.{take_at, drop_at, get_or_default}
use Rattle.std.proofs.lemmas.List.Recursion.{is_sum_by}
use Rattle.std.proofs.lemmas.Slice.Zip.{length-zip, get_or-zip}
use Rattle.std.specs.List.{zip, fold}
use Rattle.std.specs.List as list
use Rattle.std.specs.Iterator.{Yields}
use Rattle.std.specs.Iterator.Adapters.{zip_first, zip_second}
use Rattle.std.specs.Slice.Iter.{iter_rest, chunks_exact_rest, chunks_exact_size, chunks_exact_steps}
use Rattle.std.specs.declared.slice.ChunksExact.{ChunksExact}
use Rattle.std.specs.declared.slice.Iter.{Iter}
use Rattle.std.specs.declared.iter.Zip.{Zip}
use Rattle.binomial.specs.Choose.{choose}
use Rattle.binomial.proofs.ChooseLaws.{choose_within}
use Rattle.checks.specs.Tests.{pick}
use Rattle.terms.specs.Monomials.{Table, row_at, degree}
use Rattle.terms.specs.Rows.{rows, first_rows}
use Rattle.terms.proofs.RowsLaws.{length_rows, row_size, rows_size}
use Rattle.terms.proofs.TableLaws.{degree_small}
use Rattle.division.proofs.Facade.{marks_of, marks_in, table_marks, marks_of_ones, marks_of_small, length_table_marks, front_marks}
use Rattle.counts.specs.Counts.{sum, sumℤ, share, odd_test, chooseℤ, signed_share, polynomial_at, steady_of, count_at}
use Rattle.summing.specs.Sums.{shares_of, Summable, largest_share, Within, Checked, Marked}
use Rattle.counts.proofs.PolynomialLaws.{subℕ_pos}
use Rattle.counts.proofs.SumLaws.{sumℤ_pos}
use Rattle.counts.proofs.ShareLaws.{share_inside, share_outside}
use Rattle.counts.proofs.JanetCount.{CountTable, janet_share, janet_count}

-- ---- sizes

-- what a binomial's size gives of the numbers of the code
pub ruleset binomials_fit = (choose_within, ints)

-- ---- rows of bytes

pub degree_sum : (u : List ℕ) → degree u ≡ list.sum u
unfolding degree
degree_sum u = is_sum_by degree (λ x. x) refl (λ _ _. refl) u

rows_more : (n : ℕ) (u t : List ℕ) → 0 < n → length u ≡ n → rows n (u ++ t) ≡ u ∷ rows n t
unfolding rows first_rows
rows_more n u t p h =
    let e : length (u ++ t) / n ≡ suc (length t / n) =
    ap (λ (k : ℕ). k / n) (length-append u t ∙ ap (λ (k : ℕ). k + length t) h) ∙ add-div_left (length t) p ∙ add-one (length t / n) in
    rw (e, take_at u t n h, drop_at u t n h)

-- the chunks of a table are its rows
pub chunks_rows : (s : ChunksExact ℕ) (n : ℕ) (t : List ℕ) → 0 < n → chunks_exact_size s ≡ n → chunks_exact_rest s ≡ t
    → YieldsList chunks_exact_steps (λ x. x.now) s (rows n t)
chunks_rows s n t p e f = rw (← e, ← f) (YieldsList-from_shown_while chunks_exact_steps (λ x. x.now)
    (λ c. rows (chunks_exact_size c) (chunks_exact_rest c)) (λ c. 0 < chunks_exact_size c)
    (λ c d q h. length_rows (chunks_exact_size c) (chunks_exact_rest c) ∙ div-eq_of_lt h.1.0)
    (λ c x d q h. (omega (arith, h.0), rw (h.1.0, h.0) (rows_more _ x.now (chunks_exact_rest d) q h.1.1)))
    s (omega arith))

-- ---- a share with a sign, by its cases

-- a number is even or odd
parity : (m : ℕ) → ((m % 2 ≡ 0) × (odd_test m ≡ false)) ⊎ ((m % 2 ≡ 1) × (odd_test m ≡ true))
unfolding odd_test
parity zero = inl (refl, refl)
parity (suc m) = ⊎_elim (λ p. inr (omega (arith, p.0), ap not p.1)) (λ p. inl (omega (arith, p.0), ap not p.1)) (parity m)

odd_odd : (m : ℕ) → m % 2 ≡ 1 → odd_test m ≡ true
odd_odd m h = ⊎_elim (λ p. absurd (omega (arith, p.0))) (λ p. p.1) (parity m)

odd_even : (m : ℕ) → (m % 2 ≡ 1 → ⊥) → odd_test m ≡ false
odd_even m h = ⊎_elim (λ p. p.1) (λ p. absurd (h p.0)) (parity m)

subℕ_neg : (a b : ℕ) → a < b → sub_ℕ a b ≡ negsuc (b - suc a)
subℕ_neg a b h = rw (lt-ltb a b h)

module _ (s d m : ℕ) where
  pub signed_near : d ≤ s + m → signed_share s d m ≡ pos (choose (s + m - d) m)
  unfolding signed_share chooseℤ
  signed_near h = ap (λ (t : ℤ). chooseℤ t m) (subℕ_pos (s + m) d h)

  signed_far : s + m < d → signed_share s d m ≡ pick (odd_test m) (neg_ℤ (pos (choose (d - s - 1) m))) (pos (choose (d - s - 1) m))
  unfolding signed_share chooseℤ
  signed_far h =
      let e : m + (d - suc (s + m)) ≡ d - s - 1 = omega arith in
      ap (λ (t : ℤ). chooseℤ t m) (subℕ_neg (s + m) d h) ∙ rw e

  pub signed_odd : s + m < d → m % 2 ≡ 1 → signed_share s d m ≡ neg_ℤ (pos (choose (d - s - 1) m))
  signed_odd h o = signed_far h ∙ rw (odd_odd m o)

  pub signed_even : s + m < d → (m % 2 ≡ 1 → ⊥) → signed_share s d m ≡ pos (choose (d - s - 1) m)
  signed_even h e = signed_far h ∙ rw (odd_even m e)

pub ruleset share_cases = (binomials_fit, share_inside, share_outside)

pub ruleset signed_cases = (binomials_fit, signed_near, signed_odd, signed_even)

-- ---- no share exceeds the largest binomial

plus_within : (z : ℤ) (k b : ℕ) → z ≡ pos k → k ≤ b → Within b z
plus_within z k b e h = record { low = omega (arith, ints); high = omega (arith, ints) }

minus_within : (z : ℤ) (k b : ℕ) → z ≡ neg_ℤ (pos k) → k ≤ b → Within b z
minus_within z k b e h = record { low = omega (arith, ints); high = omega (arith, ints) }

module _ (s d m : ℕ) (low : s ≤ 300) (small : d ≤ 300) (six : m ≤ 6) where
  pub share_small : Within largest_share (pos (share s d m))
  share_small = by_cases (dec_le d s)
      (λ l. plus_within _ _ largest_share (ap pos (share_inside s d m l)) (choose_within (s - d + m) m six (omega arith)))
      (λ g. plus_within _ 0 largest_share (ap pos (share_outside s d m (omega arith))) (omega arith))

  pub signed_small : Within largest_share (signed_share s d m)
  signed_small = by_cases (dec_le d (s + m))
      (λ l. plus_within _ _ largest_share (signed_near s d m l) (choose_within (s + m - d) m six (omega arith)))
      (λ g.
      let far : choose (d - s - 1) m ≤ largest_share = choose_within (d - s - 1) m six (omega arith) in
      by_cases (ℕ_discrete (m % 2) 1)
      (λ o. minus_within _ _ largest_share (signed_odd s d m (omega arith) o) far)
      (λ e. plus_within _ _ largest_share (signed_even s d m (omega arith) e) far))

-- ---- the pass over the rows and their marks

-- row k of a table that can be summed, and its marks: it is one of at most 4,096, and it has few exponents, a small degree and few marks
pub record PassedRow (n : ℕ) (t marks : List ℕ) (k : ℕ) (u : List ℕ) (b : ℕ) : Type 0 where
  pub within : k < length (zip (rows n t) marks)
  pub pair : ◌≡◌ {A = List ℕ × ℕ} (get_or (zip (rows n t) marks) k ([], 0)) (u, b)
  pub counted : k < 4096
  pub short : length u ≤ 6
  pub small : degree u ≤ 300
  pub six_marks : ones b ≤ 6

abbrev pub Pass : Type 0
Pass = Zip (ChunksExact ℕ) (Iter ℕ)

abbrev pub Item : Type 0
Item = Bor (List ℕ) × Bor ℕ

abbrev pub Steps : Pass → Option Item → Pass → Type 0
Steps = zips chunks_exact_steps fronts

module _ {n : ℕ} {t marks : List ℕ} (a : Summable n t marks) where
  at_row : (k : ℕ) (u : List ℕ) (b : ℕ) → (k < length (zip (rows n t) marks)) × ◌≡◌ {A = List ℕ × ℕ} (u, b) (get_or (zip (rows n t) marks) k (u, b))
      → PassedRow n t marks k u b
  at_row k u b h =
      let lies : k < length (rows n t) = omega (arith, h.0, length-zip (rows n t) marks) in
      let e : ◌≡◌ {A = List ℕ × ℕ} (u, b) (get_or (zip (rows n t) marks) k ([], 0)) = h.1 ∙ get_or_default (zip (rows n t) marks) k (u, b) ([], 0) h.0 in
      let f = e ∙ get_or-zip (rows n t) marks k ([], 0) lies (omega (arith, a.marked)) in
      record {
        within = h.0;
        pair = sym e;
        counted = omega (arith, a.accepted.limited);
        short = rw (ap (λ (x : List ℕ × ℕ). x.0) f) (omega (arith, row_size n t k lies, a.accepted.six));
        small = rw (ap (λ (x : List ℕ × ℕ). x.0) f) (degree_small n t a.accepted k lies);
        six_marks = rw (ap (λ (x : List ℕ × ℕ). x.1) f) (ones-le 6 (get_or marks k 0) (a.six_marks k lies));
      }

  -- of a pass that began at `start` and gave xs
  module _ (start here next : Pass) (xs : List Item) (size : chunks_exact_size (zip_first start) ≡ n) (left : chunks_exact_rest (zip_first start) ≡ t)
      (beside : iter_rest (zip_second start) ≡ marks) (gave : Yields Steps start xs here) where
    given : YieldsList {B = List ℕ × ℕ} Steps (λ p. (p.0.now, p.1.now)) start (zip (rows n t) marks)
    given = YieldsList-from_zip (chunks_rows (zip_first start) n t a.accepted.some size left) (YieldsList-from_slice marks beside)

    pub passed_row : (r : Option Item) (p : Item) → r ≡ Some p → Steps here r next → PassedRow n t marks (length xs) p.0.now p.1.now
    passed_row r p e h = at_row (length xs) p.0.now p.1.now (YieldsList-turn given xs here gave r next p e h)

    pub passed_all : (r : Option Item) → r ≡ None → Steps here r next → (length (zip (rows n t) marks) ≤ length xs) × (length xs ≤ 4096)
    passed_all r e h =
        let all = (YieldsList-end given xs here gave r next e h).1 in
        (omega arith, omega (arith, length-zip (rows n t) marks, a.accepted.limited))

-- ---- the sum of shares

abbrev pub pairs_sum : (ℕ → ℕ → ℤ) → List (List ℕ × ℕ) → ℤ
pairs_sum f l = sumℤ (λ p. f (degree p.0) (ones p.1)) l

module _ (f : ℕ → ℕ → ℤ) (l : List (List ℕ × ℕ)) (k : ℕ) where
  sum_next : k < length l → pairs_sum f (drop k l) ≡ f (degree (get_or l k ([], 0)).0) (ones (get_or l k ([], 0)).1) +ℤ pairs_sum f (drop (k + 1) l)
  unfolding sumℤ
  sum_next h = rw (add-one, drop-cons l k ([], 0) h)

  sum_done : length l ≤ k → pairs_sum f (drop k l) ≡ pos 0
  unfolding sumℤ
  sum_done h = rw (drop_of_length-le l h)

  -- one share more
  pub sum_more : (u : List ℕ) (b : ℕ) (z r : ℤ) → k < length l → ◌≡◌ {A = List ℕ × ℕ} (get_or l k ([], 0)) (u, b) → r ≡ f (degree u) (ones b)
      → z +ℤ pairs_sum f (drop k l) ≡ pairs_sum f l → (z +ℤ r) +ℤ pairs_sum f (drop (k + 1) l) ≡ pairs_sum f l
  sum_more u b z r h e g i = +ℤ_assoc z r (pairs_sum f (drop (k + 1) l)) ∙ ap (λ (x : ℤ). z +ℤ x) (sym (rw (e, ← g) at (sum_next h))) ∙ i

  -- and no more
  pub sum_all : (z : ℤ) → length l ≤ k → z +ℤ pairs_sum f (drop k l) ≡ pairs_sum f l → z ≡ pairs_sum f l
  sum_all z h i = sym (ap (λ (x : ℤ). z +ℤ x) (sum_done h) ∙ +ℤ_idr z) ∙ i

-- it stays small
pub within_more : (b k : ℕ) (z r : ℤ) → Within (k * b) z → Within b r → Within ((k + 1) * b) (z +ℤ r)
within_more b k z r h g =
    let e : (k + 1) * b ≡ k * b + b = add-mul k 1 b ∙ rw (one-mul b) in
    record { low = omega (arith, ints, h.low, g.low); high = omega (arith, ints, h.high, g.high) }

pub within_all : (b k : ℕ) (z : ℤ) → k ≤ 4096 → Within (k * b) z → Within (4096 * b) z
within_all b k z l h =
    let m : k * b ≤ 4096 * b = mul-le-mul_right b l in
    record { low = omega (arith, ints, h.low); high = omega (arith, ints, h.high) }

-- ---- Janet's marks

-- the bytes are the marks that the rows of G have in H
abbrev MarksIn : ℕ → Table → Table → List ℕ → Type 0
MarksIn n H G marks = (r : ℕ) → r < length G → get_or marks r 0 ≡ marks_of n H (row_at G r)

marked_sum : (f : ℕ → ℕ → ℤ) (n : ℕ) (H G : Table) (marks : List ℕ) → length G ≤ length marks → MarksIn n H G marks
    → shares_of f G marks ≡ sumℤ (λ u. f (degree u) (marks_in n H u)) G
unfolding sumℤ
marked_sum f n H [] marks l h = refl
marked_sum f n H (u ∷ G) [] l h = absurd (not-suc-le-zero l)
marked_sum f n H (u ∷ G) (b ∷ marks) l h =
    ap₂ (λ (x : ℕ) (y : ℤ). f (degree u) x +ℤ y) (ap ones (h 0 (omega arith)) ∙ marks_of_ones n H u)
    (marked_sum f n H G marks (le_of_suc-le-suc l) (λ r k. h (suc r) (omega arith)))

module _ (n : ℕ) (t marks : List ℕ) (m : Marked n t marks) where
  shares_marked : (f : ℕ → ℕ → ℤ) → shares_of f (rows n t) marks ≡ sumℤ (λ u. f (degree u) (marks_in n (rows n t) u)) (rows n t)
  shares_marked f = marked_sum f n (rows n t) (rows n t) marks m.long m.at

  mark_small : n ≤ 6 → (k : ℕ) → k < length (rows n t) → get_or marks k 0 < 64
  mark_small h k l = omega (arith, m.at k l, marks_of_small n (rows n t) (row_at (rows n t) k) h)

  pub summable : Checked n t → Summable n t marks
  summable c = record { accepted = c.accepted; marked = m.long; six_marks = mark_small c.accepted.six }

-- a buffer whose front holds the marks
pub marked_front : (n : ℕ) (t rest marks : List ℕ) → marks ≡ table_marks n (rows n t) ++ rest → Marked n t marks
marked_front n t rest marks e = record {
  long = omega (arith, simp length-append at (ap length e), length_table_marks n (rows n t));
  at = λ r l.
      ap (λ (x : List ℕ). get_or x r 0) e ∙ front_marks n (rows n t) rest r l;
}

-- ---- what the sums are

-- the table that is counted
counted : (n : ℕ) (t : List ℕ) → Checked n t → CountTable n (rows n t)
counted n t c = record { size = rows_size n t; complete = c.complete; ascending = c.ascending }

module _ (n : ℕ) (t marks : List ℕ) (c : Checked n t) (m : Marked n t marks) (s : ℕ) where
  -- rule 7: the sum of shares is not negative
  pub count_sum : (z : ℤ) → z ≡ shares_of (λ d k. pos (share s d k)) (rows n t) marks → (k : ℕ) × (z ≡ pos k) × (k + count_at n (rows n t) s ≡ choose (n + s) n)
  count_sum z e = (
    sum (janet_share n (rows n t) s) (rows n t),
    e ∙ shares_marked n t marks m (λ d k. pos (share s d k)) ∙ sumℤ_pos _ (janet_share n (rows n t) s) (rows n t) (λ u i. refl),
    omega (arith, janet_count n (rows n t) (counted n t c) s),
  )

  -- rule 8
  pub polynomial_sum : (z : ℤ) → z ≡ shares_of (signed_share s) (rows n t) marks → pos (choose (n + s) n) -ℤ z ≡ polynomial_at n (rows n t) s
  unfolding polynomial_at
  polynomial_sum z e = ap (λ (x : ℤ). pos (choose (n + s) n) -ℤ x) (e ∙ shares_marked n t marks m (signed_share s))

-- ---- the largest degree

steady_from : (a : ℕ) (G : Table) → fold (λ b u. max b (degree u)) a G ≡ max a (steady_of G)
unfolding steady_of
steady_from a [] = omega arith
steady_from a (u ∷ G) = omega (arith, steady_from (max a (degree u)) G)

-- row by row
pub steady_fold : (G : Table) → fold (λ b u. max b (degree u)) 0 G ≡ steady_of G
steady_fold G = omega (arith, steady_from 0 G)
