-- Bytes in arrays: what the loops of the code read and write, one turn each.
--
--   times_less, times_large, rows_before, rows_fewer   products of a number of rows with their size
--   shorter_front          what lies before a place up to which two arrays are equal
--   yields_downward, pairs_divide   numbers from the last to the first; the test of divisibility, exponent by exponent from the last
--   any_rows               a test asked of rows in an array, row by row
--   head_byte, heads_rows, heads_fit   the head of a row is its first byte; one more than the largest head, row by row; that it is at most 256
use mathlib.Core.Path.{◌≡◌, refl, sym, ap, ◌∙◌}
use mathlib.Core.Bool.{Bool, ◌||◌}
use mathlib.Core.List.{List, [], ◌∷◌}
use mathlib.Core.Logic.{by_cases}
use native.Mathlib.Decide.{dec_lt}
use Prim.Native.Nat.{ℕ, zero, suc, ◌+◌, ◌*◌, ◌-◌, ◌≤◌, ◌<◌}
use Prim.Native.Nat.{max}
use native.Mathlib.Nat.{not-suc-le-zero, mul-le-mul_right, add-mul}
use native.Mathlib.Omega.{arith}
use borrow.Author.Tests.{le-ltb, lt-ltb}
use lib.Dec.{leb}
use lib.ListN.{length, take, drop, get_or, length-drop}
use lib.Seq.{length-take-le, get_or-take, get_or-drop, drop-drop, take-take}
use Rattle.std.specs.List.{fold, list_any, list_all, range_with_len}
use Rattle.std.specs.Iterator.Adapters.{rev_source, rev_steps}
use Rattle.std.specs.declared.iter.Rev.{Rev}
use Rattle.std.specs.declared.ops.Range.{Range}
use Rattle.std.proofs.Common.{Some, None}
use Rattle.std.proofs.iter.runs.Sources.{nat_range_steps_back}
use Rattle.std.proofs.lemmas.Iterator.{YieldsList}
use Rattle.std.proofs.lemmas.Iterator.Consumers.{YieldsList-from_shown}
use Rattle.checks.specs.Tests.{each, any}
use Rattle.terms.specs.Monomials.{Monomial, Table, ◌!◌, row_at}
use Rattle.terms.specs.Ideal.{divides_test}
use Rattle.terms.specs.Rows.{first_rows}
use Rattle.terms.proofs.RowsLaws.{first_rows_at}
use Rattle.completion.specs.Slices.{heads}
use Rattle.blocks.specs.Bytes.{part}

-- ---- numbers

pub times_large : (x n : ℕ) → 0 < n → x ≤ x * n
times_large x zero h = absurd (not-suc-le-zero h)
times_large x (suc n) h = let e : x * suc n ≡ x * n + x = omega arith in omega arith

pub times_less : (x n : ℕ) → 0 < n → x * n ≡ x * (n - 1) + x
times_less x zero h = absurd (not-suc-le-zero h)
times_less x (suc n) h = let e : suc n - 1 ≡ n = omega arith in rw e (omega arith)

pub rows_before : (x y end n : ℕ) → x + y ≤ end → x * n + y * n ≤ end * n
rows_before x y end n h = let m : (x + y) * n ≤ end * n = mul-le-mul_right n h in let e : (x + y) * n ≡ x * n + y * n = add-mul x y n in omega arith

pub rows_fewer : (x end n : ℕ) → x ≤ end → x * n ≤ end * n
rows_fewer x end n h = mul-le-mul_right n h

-- ---- what lies before a place up to which two arrays are equal

pub shorter_front : (x y : ℕ) (b d : List ℕ) → x ≤ y → take y b ≡ take y d → take x b ≡ take x d
shorter_front x y b d h e = sym (take-take x y b h) ∙ ap (λ (l : List ℕ). take x l) e ∙ take-take x y d h

-- ---- divisibility, exponent by exponent from the last

-- the numbers from a on, n of them, from the last
abbrev pub downward : ℕ → ℕ → List ℕ
downward a zero = []
downward a (suc n) = (a + n) ∷ downward a n

abbrev left : Rev (Range ℕ) → List ℕ
left s = downward (rev_source s).start ((rev_source s).end - (rev_source s).start)

-- what a range yields from its end
pub yields_downward : {s : Rev (Range ℕ)} (n : ℕ) → rev_source s ≡ record { start = 0; end = n } →
    YieldsList (rev_steps nat_range_steps_back) (λ x. x) s (downward 0 n)
yields_downward {s} n e =
    let all : left s ≡ downward 0 n = ap (λ (r : Range ℕ). downward r.start (r.end - r.start)) e ∙ ap (λ (k : ℕ). downward 0 k) (omega arith) in
    rw all at (YieldsList-from_shown (rev_steps nat_range_steps_back) (λ x. x) left ended more s)
  where
    ended : (s t : Rev (Range ℕ)) → rev_steps nat_range_steps_back s None t → length (left s) ≡ 0
    ended s t h = ap (λ (k : ℕ). length (downward (rev_source s).start k)) h.1.0

    more : (s : Rev (Range ℕ)) (x : ℕ) (t : Rev (Range ℕ)) → rev_steps nat_range_steps_back s (Some x) t → left s ≡ x ∷ left t
    more s x t h =
        let k : ℕ = (rev_source t).end - (rev_source t).start in
        let one : (rev_source s).end - (rev_source s).start ≡ suc k = omega arith in
        let last : (rev_source s).start + k ≡ x = omega arith in
        rw (one, last, h.0)

byte_at : (b : List ℕ) (i m x : ℕ) → x < m → get_or (take m (drop i b)) x 0 ≡ get_or b (i + x) 0
byte_at b i m x h = get_or-take m (drop i b) x 0 h ∙ get_or-drop i b x 0

pairs_each : (b : List ℕ) (i j m left : ℕ) → left ≤ m →
    list_all (λ x. leb (get_or b (i + x) 0) (get_or b (j + x) 0)) (downward 0 left)
    ≡ each left (λ x. leb (take m (drop i b) ! x) (take m (drop j b) ! x))
pairs_each b i j m zero h = refl
pairs_each b i j m (suc x) h =
    let z : 0 + x ≡ x = omega arith in
    rw (z, byte_at b i m x h, byte_at b j m x h, pairs_each b i j m x (omega arith))

pub pairs_divide : (b : List ℕ) (i j m : ℕ) → i + m ≤ length b →
    list_all (λ x. leb (get_or b (i + x) 0) (get_or b (j + x) 0)) (downward 0 m) ≡ divides_test (take m (drop i b)) (take m (drop j b))
unfolding divides_test
pairs_divide b i j m h =
    let l : m ≡ length (take m (drop i b)) = sym (length-take-le m (drop i b) (rw length-drop (omega arith))) in
    pairs_each b i j m m (omega arith) ∙ ap (λ (n : ℕ). each n (λ x. leb (take m (drop i b) ! x) (take m (drop j b) ! x))) l

-- ---- rows from a place on

pub any_rows : (m k from x : ℕ) (b : List ℕ) (f : Monomial → Bool) →
    list_any (λ row. f (take m (drop (from + row * m) b))) (range_with_len x k) ≡ any f (part m k (from + x * m) b)
unfolding first_rows
any_rows m zero from x b f = refl
any_rows m (suc k) from x b f =
    let e : from + (x + 1) * m ≡ from + x * m + m = omega arith in
    ap (λ (r : Bool). f (take m (drop (from + x * m) b)) || r)
    (any_rows m k from (x + 1) b f ∙ ap (λ (l : List ℕ). any f (first_rows m k l)) (ap (λ (y : ℕ). drop y b) e ∙ sym (drop-drop m (from + x * m) b)))

-- ---- the largest head

pub head_byte : (m count x : ℕ) (b : List ℕ) → x < count → 0 < m → row_at (first_rows m count b) x ! 1 ≡ get_or b (x * m) 0
head_byte m count x b h p =
    ap (λ (u : Monomial). u ! 1) (first_rows_at m count b x h)
    ∙ get_or-take m (drop (x * m) b) 0 0 p ∙ get_or-drop (x * m) b 0 0 ∙ ap (λ (k : ℕ). get_or b k 0) (omega arith)

heads_cons : (u : Monomial) (G : Table) → heads (u ∷ G) ≡ max (u ! 1 + 1) (heads G)
unfolding heads
heads_cons u G = by_cases (dec_lt (u ! 1) (heads G))
    (λ l. rw (lt-ltb _ _ l) (omega arith))
    (λ l. let g : heads G ≤ u ! 1 = omega arith in rw (le-ltb _ _ g) (omega arith))

-- the head of a row is its first byte
pub heads_rows : (m k x start : ℕ) (b : List ℕ) → 0 < m →
    fold (λ (most row : ℕ). max most (get_or b (row * m) 0 + 1)) start (range_with_len x k) ≡ max start (heads (part m k (x * m) b))
unfolding first_rows heads
heads_rows m zero x start b p = omega arith
heads_rows m (suc k) x start b p =
    let u : Monomial = take m (drop (x * m) b) in
    let G : Table = part m k ((x + 1) * m) b in
    let head : u ! 1 ≡ get_or b (x * m) 0 = get_or-take m (drop (x * m) b) 0 0 p ∙ get_or-drop (x * m) b 0 0 ∙ ap (λ (y : ℕ). get_or b y 0) (omega arith) in
    let e : (x + 1) * m ≡ x * m + m = omega arith in
    let rows : part m (suc k) (x * m) b ≡ u ∷ G = ap (λ (l : List ℕ). u ∷ first_rows m k l) (drop-drop m (x * m) b ∙ ap (λ (y : ℕ). drop y b) (sym e)) in
    heads_rows m k (x + 1) (max start (get_or b (x * m) 0 + 1)) b p
    ∙ omega (arith, heads_cons u G, head, ap heads rows)

-- heads are bytes
pub heads_fit : (m k x start : ℕ) (b : List ℕ) → ((i : ℕ) → get_or b i 0 < 256) → start ≤ 256 →
    fold (λ (most row : ℕ). max most (get_or b (row * m) 0 + 1)) start (range_with_len x k) ≤ 256
heads_fit m zero x start b f l = l
heads_fit m (suc k) x start b f l = heads_fit m k (x + 1) (max start (get_or b (x * m) 0 + 1)) b f (omega (arith, f (x * m)))
