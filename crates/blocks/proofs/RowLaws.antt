-- Rows that the code writes: a column that is set, a block that is copied, tails that are collected.
--
--   first_rows_add, part_add, part_snoc  rows in two parts, and the last row
--   front_rows, same_rows  the rows at the front are those of the bytes at the front
--   read_back              rows that were written are read again
--   pasted_rows            the rows of a copy
--   columned, column_more  the rows with exponent k set in the first of them, and in one more
--   same_piece, same_part, front_of   what lies before a place up to which two arrays are equal
--   compact_more           the last exponents of one more row are written
--   again_rows, repeat_more, repeat_beyond   a block once more, once more at each turn, and without room
--   copies_repeated        copies of a block behind a front are its repetitions
use mathlib.Core.Path.{◌≡◌, refl, sym, ap, ◌∙◌}
use mathlib.Core.List.Memᴰ
use mathlib.Core.List.{List, [], ◌∷◌, ◌++◌, map, tail, map-append, append_assoc, append-nil}
use Prim.Native.Nat.{ℕ, zero, suc, ◌+◌, ◌*◌, ◌-◌, ◌≤◌, ◌<◌}
use native.Mathlib.Nat.{mul-le-mul_right, add-mul}
use native.Mathlib.Omega.{arith}
use lib.ListN.{length, take, drop, set, length-append, length-drop, length-set, length-map, take-append-drop}
use lib.Seq.{paste, length-take-le, drop-drop, take-take, take_at, drop_at, set-append_left, take-paste}
use Rattle.std.proofs.Common.{None}
use Rattle.terms.specs.Monomials.{Monomial, Table, OfSize}
use Rattle.terms.specs.Rows.{first_rows, flat}
use Rattle.terms.proofs.RowsLaws.{length_first_rows, first_rows_size, first_rows_flat, flat_first_rows, length_flat}
use Rattle.completion.specs.Blocks.{behind, repeated}
use Rattle.blocks.specs.Bytes.{after, fit, part, copies}
use Rattle.completion.proofs.BlockLaws.{cons_same}
use Rattle.writing.proofs.CopyLaws.{pasted_front}
use Rattle.blocks.proofs.ByteLaws.{rows_before, rows_fewer, shorter_front}
use Rattle.blocks.proofs.BufferLaws.{flat_append, after_append, after_set, fit_more}

-- ---- parts

pub first_rows_add : (n j k : ℕ) (b : List ℕ) → first_rows n (j + k) b ≡ first_rows n j b ++ part n k (j * n) b
unfolding first_rows
first_rows_add n zero k b =
    let e : 0 + k ≡ k = omega arith in
    let f : 0 * n ≡ 0 = omega arith in
    rw (e, f)
first_rows_add n (suc j) k b =
    let e : suc j + k ≡ suc (j + k) = omega arith in
    let f : suc j * n ≡ n + j * n = omega arith in
    rw (e, f, ← drop-drop (j * n) n b) (cons_same refl (first_rows_add n j k (drop n b)))

pub part_add : (n j k from : ℕ) (b : List ℕ) → part n (j + k) from b ≡ part n j from b ++ part n k (from + j * n) b
part_add n j k from b = first_rows_add n j k (drop from b) ∙ ap (λ (l : List ℕ). part n j from b ++ first_rows n k l) (drop-drop (j * n) from b)

pub part_snoc : (n k from : ℕ) (b : List ℕ) → part n (k + 1) from b ≡ part n k from b ++ (take n (drop (from + k * n) b) ∷ [])
unfolding first_rows
part_snoc n k from b = part_add n k 1 from b

pub front_rows : (n k : ℕ) (s rest : List ℕ) → k * n ≤ length s → first_rows n k (take (k * n) s ++ rest) ≡ first_rows n k s
front_rows n k s rest h =
    ap (λ (l : List ℕ). first_rows n k (l ++ rest)) (sym (flat_first_rows n k s))
    ∙ ap (λ (j : ℕ). first_rows n j (flat (first_rows n k s) ++ rest)) (sym (length_first_rows n k s))
    ∙ first_rows_flat n (first_rows n k s) rest (first_rows_size n k s h)

-- the rows at the front are those of the bytes at the front
pub same_rows : (n k : ℕ) (b d : List ℕ) → k * n ≤ length b → k * n ≤ length d → take (k * n) b ≡ take (k * n) d → first_rows n k b ≡ first_rows n k d
same_rows n k b d h g e =
    sym (front_rows n k b [] h) ∙ ap (λ (l : List ℕ). first_rows n k (l ++ [])) e ∙ front_rows n k d [] g

-- bytes that stand behind a front X are rows of the table that was written there
pub read_back : (n k from : ℕ) (b X : List ℕ) (G : Table) → OfSize n G → length G ≡ k → length X ≡ from → take (from + k * n) b ≡ X ++ flat G →
    part n k from b ≡ G
read_back n k from b X G z l x e =
    let s : b ≡ X ++ (flat G ++ drop (from + k * n) b) =
    sym (take-append-drop (from + k * n) b) ∙ ap (λ (l : List ℕ). l ++ drop (from + k * n) b) e ∙ append_assoc X (flat G) (drop (from + k * n) b) in
    let d : drop from b ≡ flat G ++ drop (from + k * n) b = ap (λ (l : List ℕ). drop from l) s ∙ drop_at X (flat G ++ drop (from + k * n) b) from x in
    ap (λ (l : List ℕ). first_rows n k l) d
    ∙ ap (λ (j : ℕ). first_rows n j (flat G ++ drop (from + k * n) b)) (sym l)
    ∙ first_rows_flat n G (drop (from + k * n) b) z

-- ---- a copy

pub pasted_rows : (n k : ℕ) (d s : List ℕ) (to : ℕ) → to + k * n ≤ length d → k * n ≤ length s → part n k to (paste d to s (k * n)) ≡ first_rows n k s
pasted_rows n k d s to h g =
    let l : length (take to d) ≡ to = length-take-le to d (omega arith) in
    let e : paste d to s (k * n) ≡ take to d ++ (take (k * n) s ++ drop (to + k * n) d) = append_assoc (take to d) (take (k * n) s) (drop (to + k * n) d) in
    ap (λ (x : List ℕ). first_rows n k x) (ap (λ (x : List ℕ). drop to x) e ∙ drop_at (take to d) (take (k * n) s ++ drop (to + k * n) d) to l)
    ∙ front_rows n k s (drop (to + k * n) d) g

-- ---- a column

-- exponent k is e in the first i rows from row `first` on
abbrev pub columned : List ℕ → ℕ → ℕ → ℕ → ℕ → ℕ → List ℕ
columned out n k first e i = take (first * n) out ++ flat (map (λ u. set u k e) (part n i (first * n) out)) ++ drop ((first + i) * n) out

set_size : (n k e : ℕ) (G : Table) → OfSize n G → OfSize n (map (λ u. set u k e) G)
set_size n k e G z u m =
    let r = Memᴰ.of_map (λ u. set u k e) G m in
    ap length (sym r.2) ∙ length-set r.0 k e ∙ z r.0 r.1

set_append_add : (xs ys : List ℕ) (i a : ℕ) → set (xs ++ ys) (length xs + i) a ≡ xs ++ set ys i a
set_append_add [] ys i a = let e : 0 + i ≡ i = omega arith in rw e
set_append_add (x ∷ xs) ys i a = let e : suc (length xs) + i ≡ suc (length xs + i) = omega arith in rw e (cons_same refl (set_append_add xs ys i a))

module _ (out : List ℕ) (n k first e : ℕ) where
  pub columned_front : (i : ℕ) → (first + i) * n ≤ length out →
      length (take (first * n) out ++ flat (map (λ u. set u k e) (part n i (first * n) out))) ≡ (first + i) * n
  columned_front i h =
      let s : (first + i) * n ≡ first * n + i * n = add-mul first i n in
      let d : i * n ≤ length (drop (first * n) out) = rw length-drop (omega arith) in
      let G : Table = part n i (first * n) out in
      let l : length (flat (map (λ u. set u k e) G)) ≡ length (map (λ u. set u k e) G) * n =
      length_flat n (map (λ u. set u k e) G) (set_size n k e G (first_rows_size n i (drop (first * n) out) d)) in
      let m : length (map (λ u. set u k e) G) ≡ i = length-map G (λ u. set u k e) ∙ length_first_rows n i (drop (first * n) out) in
      let t : length (take (first * n) out) ≡ first * n = length-take-le (first * n) out (omega arith) in
      length-append (take (first * n) out) (flat (map (λ u. set u k e) G)) ∙ rw (t, l, m) (sym s)

  pub columned_start : out ≡ columned out n k first e 0
  unfolding first_rows flat
  columned_start =
      let s : (first + 0) * n ≡ first * n = ap (λ (x : ℕ). x * n) (omega arith) in
      rw (s, append-nil) (sym (take-append-drop (first * n) out))

  pub column_more : (b : List ℕ) (i : ℕ) → (first + i) * n + n ≤ length out → k < n → b ≡ columned out n k first e i →
      set b ((first + i) * n + k) e ≡ columned out n k first e (i + 1)
  unfolding flat
  column_more b i h g q =
      let G : Table = part n i (first * n) out in
      let X : List ℕ = take (first * n) out ++ flat (map (λ u. set u k e) G) in
      let r : List ℕ = take n (drop ((first + i) * n) out) in
      let rest : List ℕ = drop ((first + i) * n + n) out in
      let p : first * n + i * n ≡ (first + i) * n = sym (add-mul first i n) in
      let next : (first + (i + 1)) * n ≡ (first + i) * n + n = ap (λ (x : ℕ). x * n) (omega arith) ∙ (add-mul (first + i) 1 n ∙ omega arith) in
      let lx : length X ≡ (first + i) * n = columned_front i (omega arith) in
      let lr : length r ≡ n = length-take-le n (drop ((first + i) * n) out) (rw length-drop (omega arith)) in
      let cut : drop ((first + i) * n) out ≡ r ++ rest =
      sym (take-append-drop n (drop ((first + i) * n) out)) ∙ ap (λ (l : List ℕ). r ++ l) (drop-drop n ((first + i) * n) out) in
      let left : set b ((first + i) * n + k) e ≡ X ++ (set r k e ++ rest) =
      ap (λ (l : List ℕ). set l ((first + i) * n + k) e) (q ∙ ap (λ (l : List ℕ). X ++ l) cut)
      ∙ ap (λ (x : ℕ). set (X ++ (r ++ rest)) (x + k) e) (sym lx)
      ∙ set_append_add X (r ++ rest) k e
      ∙ ap (λ (l : List ℕ). X ++ l) (set-append_left r rest k e (omega arith)) in
      let row : part n (i + 1) (first * n) out ≡ G ++ (r ∷ []) = part_snoc n i (first * n) out ∙ ap (λ (x : ℕ). G ++ (take n (drop x out) ∷ [])) p in
      let bytes : flat (map (λ u. set u k e) (part n (i + 1) (first * n) out)) ≡ flat (map (λ u. set u k e) G) ++ set r k e =
      ap (λ (H : Table). flat (map (λ u. set u k e) H)) row
      ∙ ap flat (map-append (λ u. set u k e) G (r ∷ []))
      ∙ flat_append (map (λ u. set u k e) G) (set r k e ∷ [])
      ∙ ap (λ (l : List ℕ). flat (map (λ u. set u k e) G) ++ l) (append-nil (set r k e)) in
      left ∙ rw (next, bytes) (simp append_assoc)

-- ---- a block once more

pub again_rows : (n k first count end e : ℕ) (out new after : List ℕ) → (end + count) * n ≤ length out → first + count ≤ end →
    new ≡ paste out (end * n) (drop (first * n) out) (count * n) →
    take ((end + count) * n) after ≡ take (end * n) new ++ flat (map (λ u. set u k e) (part n count (end * n) new)) →
    take ((end + count) * n) after ≡ take (end * n) out ++ flat (map (λ u. set u k e) (part n count (first * n) out))
again_rows n k first count end e out new after h g p q =
    let s : (end + count) * n ≡ end * n + count * n = add-mul end count n in
    let t : first * n + count * n ≤ end * n = rows_before first count end n g in
    let d : count * n ≤ length (drop (first * n) out) = rw length-drop (omega arith) in
    let f : take (end * n) new ≡ take (end * n) out =
    ap (λ (l : List ℕ). take (end * n) l) p ∙ pasted_front out (drop (first * n) out) (end * n) (count * n) (omega arith) in
    let r : part n count (end * n) new ≡ part n count (first * n) out =
    ap (λ (l : List ℕ). part n count (end * n) l) p ∙ pasted_rows n count out (drop (first * n) out) (end * n) (omega arith) d in
    q ∙ rw (f, r)

-- ---- a tail of what was read

pub drop_take : (j r : ℕ) (l : List ℕ) → drop j (take (j + r) l) ≡ take r (drop j l)
drop_take zero r l = let e : 0 + r ≡ r = omega arith in rw e
drop_take (suc j) r [] = let e : suc j + r ≡ suc (j + r) = omega arith in rw e (sym (lib.Seq.take-nil r))
drop_take (suc j) r (x ∷ l) = let e : suc j + r ≡ suc (j + r) = omega arith in rw e (drop_take j r l)

-- ---- copies of a block

pub length_copies : (k b j : ℕ) (S : Table) → length (copies k b j S) ≡ j * length S
unfolding copies
length_copies k b zero S = omega arith
length_copies k b (suc j) S =
    length-append (copies k b j S) (map (λ u. set u k (b + j)) S)
    ∙ omega (arith, length_copies k b j S, length-map S (λ u. set u k (b + j)))

pub copies_repeated : (p : Monomial) (last b j : ℕ) (B : Table) → copies (length p) b j (after p (behind last B)) ≡ after p (repeated b j B)
unfolding copies repeated after
copies_repeated p last b zero B = refl
copies_repeated p last b (suc j) B =
    rw (copies_repeated p last b j B, after_set p last (b + j) B) (sym (after_append p (repeated b j B) (behind (b + j) B)))

-- ---- what lies before a place that is equal in two arrays

pub same_piece : (x r y : ℕ) (b d : List ℕ) → x + r ≤ y → take y b ≡ take y d → take r (drop x b) ≡ take r (drop x d)
same_piece x r y b d h e = sym (drop_take x r b) ∙ ap (λ (l : List ℕ). drop x l) (shorter_front (x + r) y b d h e) ∙ drop_take x r d

pub same_part : (n k x y : ℕ) (b d : List ℕ) → x + k * n ≤ y → y ≤ length b → y ≤ length d → take y b ≡ take y d → part n k x b ≡ part n k x d
same_part n k x y b d h g f e =
    let p : k * n ≤ length (drop x b) = rw length-drop (omega arith) in
    let q : k * n ≤ length (drop x d) = rw length-drop (omega arith) in
    same_rows n k (drop x b) (drop x d) p q (same_piece x (k * n) y b d h e)

-- a front of what was written
pub front_of : (y z : ℕ) (b d rest : List ℕ) → y ≤ z → length (take y d) ≡ y → take z b ≡ take y d ++ rest → take y b ≡ take y d
front_of y z b d rest h l e = sym (take-take y z b h) ∙ ap (λ (x : List ℕ). take y x) e ∙ take_at (take y d) rest y l

-- ---- rows written one by one

pub flat_snoc : (G : Table) (u : Monomial) → flat (G ++ (u ∷ [])) ≡ flat G ++ u
unfolding flat
flat_snoc G u = flat_append G (u ∷ []) ∙ ap (λ (l : List ℕ). flat G ++ l) (append-nil u)

-- the end of one more row
pub compact_more : (n rest first i to : ℕ) (out b c d : List ℕ) → rest ≤ n → (first + i) * n + n ≤ length out → to + i * rest + rest ≤ length b →
    take (to + i * rest) b ≡ take to d ++ flat (map (λ u. drop (n - rest) u) (part n i (first * n) out)) →
    c ≡ paste b (to + i * rest) (drop ((first + i) * n + (n - rest)) out) rest →
    take (to + (i + 1) * rest) c ≡ take to d ++ flat (map (λ u. drop (n - rest) u) (part n (i + 1) (first * n) out))
compact_more n rest first i to out b c d h g f e p =
    let G : Table = part n i (first * n) out in
    let x : ℕ = (first + i) * n in
    let u : Monomial = take n (drop x out) in
    let q : first * n + i * n ≡ x = sym (add-mul first i n) in
    let next : to + (i + 1) * rest ≡ to + i * rest + rest = omega arith in
    let whole : n - rest + rest ≡ n = omega arith in
    let s : rest ≤ length (drop (x + (n - rest)) out) = rw length-drop (omega arith) in
    let piece : take rest (drop (x + (n - rest)) out) ≡ drop (n - rest) u =
    ap (λ (l : List ℕ). take rest l) (sym (drop-drop (n - rest) x out)) ∙ sym (drop_take (n - rest) rest (drop x out))
    ∙ ap (λ (y : ℕ). drop (n - rest) (take y (drop x out))) whole in
    let rows : map (λ u. drop (n - rest) u) (part n (i + 1) (first * n) out) ≡ map (λ u. drop (n - rest) u) G ++ (drop (n - rest) u ∷ []) =
    ap (λ (H : Table). map (λ u. drop (n - rest) u) H) (part_snoc n i (first * n) out ∙ ap (λ (y : ℕ). G ++ (take n (drop y out) ∷ [])) q)
    ∙ map-append (λ u. drop (n - rest) u) G (u ∷ []) in
    ap (λ (y : ℕ). take y c) next
    ∙ ap (λ (l : List ℕ). take (to + i * rest + rest) l) p
    ∙ take-paste b (to + i * rest) (drop (x + (n - rest)) out) rest (omega arith) s
    ∙ rw (e, piece, rows, flat_snoc (map (λ u. drop (n - rest) u) G) (drop (n - rest) u))
    (append_assoc (take to d) (flat (map (λ u. drop (n - rest) u) G)) (drop (n - rest) u))

pub tail_take : (r : ℕ) (l : List ℕ) → tail (take (suc r) l) ≡ take r (drop 1 l)
tail_take r [] = sym (lib.Seq.take-nil r)
tail_take r (x ∷ l) = refl

-- ---- a block repeated

pub repeat_more : (n k first count stop b e end : ℕ) (out new d : List ℕ) → b ≤ e → first + count ≤ stop → stop ≤ end → end * n ≤ length out →
    stop * n ≤ length d →
    take (end * n) out ≡ take (stop * n) d ++ flat (copies k b (e - b) (part n count (first * n) d)) →
    take ((end + count) * n) new ≡ take (end * n) out ++ flat (map (λ u. set u k e) (part n count (first * n) out)) →
    take ((end + count) * n) new ≡ take (stop * n) d ++ flat (copies k b (e + 1 - b) (part n count (first * n) d))
unfolding copies
repeat_more n k first count stop b e end out new d l h g f j p q =
    let S : Table = part n count (first * n) d in
    let same : take (stop * n) out ≡ take (stop * n) d =
    front_of (stop * n) (end * n) out d (flat (copies k b (e - b) S)) (rows_fewer stop end n g) (length-take-le (stop * n) d j) p in
    let m : stop * n ≤ end * n = rows_fewer stop end n g in
    let t : part n count (first * n) out ≡ S = same_part n count (first * n) (stop * n) out d (rows_before first count stop n h) (omega arith) j same in
    let s : e + 1 - b ≡ suc (e - b) = omega arith in
    let i : b + (e - b) ≡ e = omega arith in
    q
    ∙ rw (p, t, s, i, flat_append (copies k b (e - b) S) (map (λ u. set u k e) S))
    (append_assoc (take (stop * n) d) (flat (copies k b (e - b) S)) (flat (map (λ u. set u k e) S)))

pub copies_next : (k b e count : ℕ) (S : Table) → b ≤ e → length S ≡ count → length (copies k b (e + 1 - b) S) ≡ length (copies k b (e - b) S) + count
unfolding copies
copies_next k b e count S h l =
    let s : e + 1 - b ≡ suc (e - b) = omega arith in
    rw s (length-append (copies k b (e - b) S) (map (λ u. set u k (b + (e - b))) S) ∙ omega (arith, length-map S (λ u. set u k (b + (e - b)))))

pub repeat_beyond : (n size k b a e stop count end : ℕ) (S : Table) → b ≤ e → e < a → length S ≡ count → end ≡ stop + length (copies k b (e - b) S) →
    size < (end + count) * n → None ≡ fit n size (stop + length (copies k b (a - b) S))
repeat_beyond n size k b a e stop count end S h l s p q =
    let m : suc (e - b) * length S ≤ (a - b) * length S = mul-le-mul_right (length S) (omega arith) in
    let t : suc (e - b) * length S ≡ (e - b) * length S + length S = omega arith in
    sym (fit_more n size (end + count) _ q (omega (arith, length_copies k b (a - b) S, length_copies k b (e - b) S)))
