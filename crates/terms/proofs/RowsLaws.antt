-- Laws of rows as bytes.
--
--   length_rows, rows_at, rows_size   how many rows the bytes are, row r of them, and that each has n exponents
--   rows_flat, flat_rows, flat_first_rows  rows of bytes that were written from a table, and the bytes again
--   member_at, member_index   a row by its number, and the number of a row
--   member_take, member_drop  what stands in a part of a list stands in it
--   rows_part              the rows of the first bytes
--   row_fits               a row below the count lies within the bytes
--   zeros_at               each byte of an array of zeros is 0
--   padded_at        a padded row has the exponents of the row
--   row_read, row_variables   a row that was read from a table has its exponents and its n
--   entry_at               an exponent of a row is a byte of the table
use mathlib.Core.Path.{◌≡◌, refl, sym, ap, ◌∙◌, subst}
use mathlib.Core.List.Memᴰ
use mathlib.Core.List.{List, [], ◌∷◌, ◌++◌, append_assoc, append-nil, Memᴰ}
use mathlib.Core.Logic.{⊎_elim, by_cases}
use Prim.Native.Nat.{ℕ, zero, suc, ◌+◌, ◌*◌, ◌-◌, ◌/◌, ◌≤◌, ◌<◌}
use native.Mathlib.Nat.{zero-add, not-suc-le-zero, le_of_suc-le-suc, mul-le-mul_right, add-mul, one-mul, mul-div_left, div-mul-le_self}
use native.Mathlib.Decide.{dec_lt}
use native.Mathlib.Omega.{arith}
use lib.ListN.{set, length, get_or, take, drop, take-append-drop, replicate, length-append, length-drop, length-replicate, get_or-replicate}
use lib.ListN.{get_or-append, get_or-eq_default}
use lib.Seq.{paste, get_or-take, get_or-drop, get_or-append-add, length-take-le, drop-drop, take_at, drop_at, take_all, take-add}
use Rattle.terms.specs.Monomials.{Monomial, Table, ◌!◌, row_at, OfSize}
use Rattle.terms.specs.Rows.{first_rows, rows, flat, padded, as_row, monomial_of, put_row}
use Rattle.terms.specs.declared.Row.{Row}
use Rattle.terms.proofs.MonomialLaws.{beyond}

-- ---- numbers

-- a row below the count lies within the bytes
pub row_fits : (k count n size : ℕ) → k < count → count * n ≤ size → k * n + n ≤ size
row_fits k count n size h g =
    let m : (k + 1) * n ≤ count * n = mul-le-mul_right n (omega arith) in
    let e : (k + 1) * n ≡ k * n + n = add-mul k 1 n ∙ rw (one-mul n) in
    omega arith

-- ---- membership by number

module _ {A : Type 0} where
  pub member_at : (l : List A) (d : A) (r : ℕ) → r < length l → Memᴰ (get_or l r d) l
  member_at [] d r h = absurd (not-suc-le-zero h)
  member_at (x ∷ l) d zero h = Memᴰ.head refl
  member_at (x ∷ l) d (suc r) h = Memᴰ.tail (member_at l d r (le_of_suc-le-suc h))

  pub member_index : (l : List A) (d x : A) → Memᴰ x l → (r : ℕ) × (r < length l) × (get_or l r d ≡ x)
  member_index [] d x m = absurd (Memᴰ.not-nil m)
  member_index (y ∷ l) d x m = ⊎_elim
      (λ e. (0, omega arith, sym e))
      (λ i. let p = member_index l d x i in (suc p.0, omega (arith, p.1), p.2))
      (Memᴰ.cases_cons m)

  pub member_take : (k : ℕ) (x : A) (l : List A) → Memᴰ x (take k l) → Memᴰ x l
  member_take k x l m = subst (Memᴰ x) (take-append-drop k l) (Memᴰ.append_left (drop k l) m)

  pub member_drop : (k : ℕ) (x : A) (l : List A) → Memᴰ x (drop k l) → Memᴰ x l
  member_drop k x l m = subst (Memᴰ x) (take-append-drop k l) (Memᴰ.append_right (take k l) m)

-- ---- the first rows

pub length_first_rows : (n k : ℕ) (t : List ℕ) → length (first_rows n k t) ≡ k
unfolding first_rows
length_first_rows n zero t = refl
length_first_rows n (suc k) t = ap suc (length_first_rows n k (drop n t))

pub first_rows_at : (n k : ℕ) (t : List ℕ) (r : ℕ) → r < k → row_at (first_rows n k t) r ≡ take n (drop (r * n) t)
unfolding first_rows
first_rows_at n zero t r l = absurd (not-suc-le-zero l)
first_rows_at n (suc k) t zero l =
    let e : 0 ≡ 0 * n = omega arith in
    ap (λ (m : ℕ). take n (drop m t)) e
first_rows_at n (suc k) t (suc r) l =
    let e : n + r * n ≡ suc r * n = omega arith in
    first_rows_at n k (drop n t) r (le_of_suc-le-suc l) ∙ ap (take n) (drop-drop (r * n) n t ∙ ap (λ (m : ℕ). drop m t) e)

pub first_rows_size : (n k : ℕ) (t : List ℕ) → k * n ≤ length t → OfSize n (first_rows n k t)
unfolding first_rows
first_rows_size n zero t h u m = absurd (Memᴰ.not-nil m)
first_rows_size n (suc k) t h u m = ⊎_elim
    (λ e. ap length e ∙ length-take-le n t (omega arith))
    (first_rows_size n k (drop n t) (omega (arith, length-drop n t)) u)
    (Memᴰ.cases_cons m)

-- ---- the rows of a table of bytes

module _ (n : ℕ) (t : List ℕ) where
  pub length_rows : length (rows n t) ≡ length t / n
  unfolding rows
  length_rows = length_first_rows n (length t / n) t

  pub rows_fit : length (rows n t) * n ≤ length t
  rows_fit = rw length_rows (div-mul-le_self (length t) n)

  pub rows_at : (r : ℕ) → r < length (rows n t) → row_at (rows n t) r ≡ take n (drop (r * n) t)
  unfolding rows
  rows_at r l = first_rows_at n (length t / n) t r (omega (arith, length_rows))

  pub rows_size : OfSize n (rows n t)
  unfolding rows
  rows_size = first_rows_size n (length t / n) t (div-mul-le_self (length t) n)

  -- row r lies within the bytes, and has n exponents
  pub row_within : (r : ℕ) → r < length (rows n t) → r * n + n ≤ length t
  row_within r l = row_fits r (length (rows n t)) n (length t) l rows_fit

  pub row_size : (r : ℕ) → r < length (rows n t) → length (row_at (rows n t) r) ≡ n
  row_size r l = rows_size (row_at (rows n t) r) (member_at (rows n t) [] r l)

  -- exponent i of row r is a byte of the table
  pub entry_at : (r i : ℕ) → r < length (rows n t) → i < n → row_at (rows n t) r ! suc i ≡ get_or t (r * n + i) 0
  entry_at r i l h = ap (λ (u : Monomial). u ! suc i) (rows_at r l) ∙ get_or-take n (drop (r * n) t) i 0 h ∙ get_or-drop (r * n) t i 0

-- ---- from rows to bytes and back

pub length_flat : (n : ℕ) (G : Table) → OfSize n G → length (flat G) ≡ length G * n
unfolding flat
length_flat n [] z = omega arith
length_flat n (u ∷ G) z = length-append u (flat G) ∙ omega (arith, z u (Memᴰ.head refl), length_flat n G (λ v m. z v (Memᴰ.tail m)))

-- the rows of a buffer whose front was written from a table
pub first_rows_flat : (n : ℕ) (G : Table) (rest : List ℕ) → OfSize n G → first_rows n (length G) (flat G ++ rest) ≡ G
unfolding first_rows flat
first_rows_flat n [] rest z = refl
first_rows_flat n (u ∷ G) rest z =
    let e : (u ++ flat G) ++ rest ≡ u ++ (flat G ++ rest) = append_assoc u (flat G) rest in
    let l : length u ≡ n = z u (Memᴰ.head refl) in
    rw (e, take_at u (flat G ++ rest) n l, drop_at u (flat G ++ rest) n l, first_rows_flat n G rest (λ v m. z v (Memᴰ.tail m)))

pub rows_flat : (n : ℕ) (G : Table) → 0 < n → OfSize n G → rows n (flat G) ≡ G
unfolding rows
rows_flat n G p z =
    let c : length (flat G) / n ≡ length G = ap (λ (m : ℕ). m / n) (length_flat n G z) ∙ mul-div_left (length G) p in
    let e : flat G ++ [] ≡ flat G = append-nil (flat G) in
    ap (λ (k : ℕ). first_rows n k (flat G)) c ∙ rw e at (first_rows_flat n G [] z)

pub flat_first_rows : (n k : ℕ) (t : List ℕ) → flat (first_rows n k t) ≡ take (k * n) t
unfolding first_rows flat
flat_first_rows n zero t = let e : 0 * n ≡ 0 = omega arith in rw e
flat_first_rows n (suc k) t =
    let e : suc k * n ≡ n + k * n = omega arith in
    rw (e, take-add n (k * n) t, flat_first_rows n k (drop n t))

-- the rows of the first bytes are the first rows
pub rows_part : (n k : ℕ) (t : List ℕ) → 0 < n → k * n ≤ length t → rows n (take (k * n) t) ≡ first_rows n k t
rows_part n k t p h = ap (rows n) (sym (flat_first_rows n k t)) ∙ rows_flat n (first_rows n k t) p (first_rows_size n k t h)

pub flat_rows : (n : ℕ) (t : List ℕ) → length t ≡ length t / n * n → flat (rows n t) ≡ t
unfolding rows
flat_rows n t e = flat_first_rows n (length t / n) t ∙ take_all (length t / n * n) t (omega arith)

-- ---- padded rows

pub zeros_at : (k i : ℕ) → ◌≡◌ {A = ℕ} (get_or (replicate k 0) i 0) 0
zeros_at k i = by_cases (dec_lt i k)
    (λ l. get_or-replicate k i 0 0 l)
    (λ g. get_or-eq_default (replicate k 0) 0 {n = i} (rw length-replicate (omega arith)))

pub padded_at : (u : Monomial) (i : ℕ) → padded u ! i ≡ u ! i
unfolding padded
padded_at u zero = refl
padded_at u (suc i) = by_cases (dec_lt i (length u))
    (λ l. get_or-append u (replicate (6 - length u) 0) 0 i l)
    (λ g.
    let e : i ≡ length u + (i - length u) = omega arith in
    ap (λ (k : ℕ). get_or (u ++ replicate (6 - length u) 0) k 0) e
    ∙ get_or-append-add u (replicate (6 - length u) 0) (i - length u) 0
    ∙ zeros_at (6 - length u) (i - length u)
    ∙ sym (beyond u (suc i) (omega arith)))

-- a row that was read has the exponents of the row, and its n
pub row_read : (n : ℕ) (w : Monomial) {u : Row} → u ≡ as_row n w → length w ≡ n → monomial_of u ≡ w
unfolding as_row padded
row_read n w e h = rw e (take_at w (replicate (6 - length w) 0) n h)

pub row_variables : (n : ℕ) (w : Monomial) {u : Row} → u ≡ as_row n w → u.n ≡ n
unfolding as_row
row_variables n w e = rw e

-- the same of the row behind row r
pub next_entry_at : (n : ℕ) (t : List ℕ) (r i : ℕ) → suc r < length (rows n t) → i < n → row_at (rows n t) (suc r) ! suc i ≡ get_or t (r * n + n + i) 0
next_entry_at n t r i l h =
    let e : suc r * n + i ≡ r * n + n + i = omega arith in
    entry_at n t (suc r) i l h ∙ ap (λ (k : ℕ). get_or t k 0) e

-- both lie within the bytes
pub two_rows_within : (n : ℕ) (t : List ℕ) (r : ℕ) → suc r < length (rows n t) → r * n + n + n ≤ length t
two_rows_within n t r l = omega (arith, row_within n t (suc r) l)

-- ---- a row written in its place

-- behind the first row, writing row k + 1 is writing row k
put_later : (n k : ℕ) (u t : List ℕ) → n ≤ length t → drop n (paste t (suc k * n) u n) ≡ paste (drop n t) (k * n) u n
put_later n k u t h =
    let e : suc k * n ≡ n + k * n = omega arith in
    let f : n + k * n + n ≡ n + (k * n + n) = omega arith in
    let l : length (take n t) ≡ n = length-take-le n t h in
    let front : List ℕ = take (k * n) (drop n t) in
    let rest : List ℕ = drop (n + (k * n + n)) t in
    rw (
      e,
      f,
      take-add n (k * n) t,
      append_assoc (take n t) front (take n u),
      append_assoc (take n t) (front ++ take n u) rest,
      drop_at (take n t) (front ++ take n u ++ rest) n l,
      ← drop-drop (k * n + n) n t,
    )

put_keeps : (n k : ℕ) (u t : List ℕ) → n ≤ length t → take n (paste t (suc k * n) u n) ≡ take n t
put_keeps n k u t h =
    let e : suc k * n ≡ n + k * n = omega arith in
    let l : length (take n t) ≡ n = length-take-le n t h in
    let front : List ℕ = take (k * n) (drop n t) in
    let rest : List ℕ = drop (n + k * n + n) t in
    rw (
      e,
      take-add n (k * n) t,
      append_assoc (take n t) front (take n u),
      append_assoc (take n t) (front ++ take n u) rest,
      take_at (take n t) (front ++ take n u ++ rest) n l,
    )

pub first_rows_put : (n count k : ℕ) (u t : List ℕ) → k < count → count * n ≤ length t → n ≤ length u
    → first_rows n count (put_row n k u t) ≡ set (first_rows n count t) k (take n u)
unfolding first_rows put_row
first_rows_put n zero k u t l h z = absurd (not-suc-le-zero l)
first_rows_put n (suc count) zero u t l h z =
    let e : 0 * n ≡ 0 = omega arith in
    let s : length (take n u) ≡ n = length-take-le n u z in
    rw (e, zero-add n, take_at (take n u) (drop n t) n s, drop_at (take n u) (drop n t) n s)
first_rows_put n (suc count) (suc k) u t l h z =
    let others = first_rows_put n count k u (drop n t) (le_of_suc-le-suc l) (omega (arith, length-drop n t)) z in
    rw (put_keeps n k u t (omega arith), put_later n k u t (omega arith), others)
