-- An accepted bundle is the bundle of its n and its tables, byte for byte.
--
--   low_number, high_number   the two bytes of a 16-bit number that was read
--   length_tables_from, tables_from_at   how many tables there are, and table j of them
--   read_entries              the header is the entries of the tables
--   read_bodies               what stands behind the header is their bodies
--   bundle_again              the bundle of what was read is the bundle that was read
--   same_bundle               two accepted bundles with the same n and the same tables are the same bytes
use mathlib.Core.Path.{◌≡◌, refl, sym, ap, ◌∙◌}
use mathlib.Core.List.{List, [], ◌∷◌, ◌++◌}
use Prim.Native.Nat.{ℕ, zero, suc, ◌+◌, ◌*◌, ◌≤◌, ◌<◌}
use native.Mathlib.Nat.{add-mul-mod_self_left, add-mul-div_left, mod-eq_of_lt, div-eq_of_lt, le_of_suc-le-suc, not-suc-le-zero}
use native.Mathlib.Omega.{arith}
use lib.Dec.{lit<}
use lib.ListN.{length, get_or, take, drop, take-append-drop, drop_of_length-le}
use lib.Seq.{drop-drop, drop-cons}
use Rattle.bundle.specs.Format.{byte_at, number16, variables_of, table_count, row_count, offset_of, place_of, table_of, tables_from, tables_of, Bytes}
use Rattle.bundle.specs.Format.{low, high, counts_of, entries_of, bodies_of, bundle_of}
use Rattle.bundle.proofs.AcceptedLaws.{Laid, Accepted, from_place, length_table, flat_table}

-- ---- the two bytes of a number

pub low_number : (a c : ℕ) → a < 256 → low (a + 256 * c) ≡ a
low_number a c h = add-mul-mod_self_left a 256 c ∙ mod-eq_of_lt h

pub high_number : (a c : ℕ) → a < 256 → high (a + 256 * c) ≡ c
high_number a c h = add-mul-div_left a c (lit< tt) ∙ ap (λ (x : ℕ). x + c) (div-eq_of_lt h) ∙ omega arith

-- ---- the tables read

pub length_tables_from : (b : List ℕ) (j m : ℕ) → length (tables_from b j m) ≡ m
unfolding tables_from
length_tables_from b j zero = refl
length_tables_from b j (suc m) = ap suc (length_tables_from b (suc j) m)

pub tables_from_at : (b : List ℕ) (j m i : ℕ) → i < m → get_or (tables_from b j m) i [] ≡ table_of b (j + i)
unfolding tables_from
tables_from_at b j zero i h = absurd (not-suc-le-zero h)
tables_from_at b j (suc m) zero h = let e : j ≡ j + 0 = omega arith in ap (table_of b) e
tables_from_at b j (suc m) (suc i) h =
    let e : suc j + i ≡ j + suc i = omega arith in
    tables_from_at b (suc j) m i (le_of_suc-le-suc h) ∙ ap (table_of b) e

module _ (b : List ℕ) (bytes : Bytes b) (a : Laid b) where
  -- four bytes of the header are the entry of its table: its row count, and the place where its body begins
  module _ (j : ℕ) (h : j < table_count b) where
    rows_number : length (table_of b j) ≡ number16 b (2 + 4 * j)
    unfolding row_count
    rows_number = length_table b a j h

    place_number : place_of b j ≡ number16 b (4 + 4 * j)
    unfolding offset_of
    place_number = sym (a.tables j h).begins

    next_place : place_of b j + length (table_of b j) * variables_of b ≡ place_of b (suc j)
    unfolding place_of
    next_place = rw (length_table b a j h)

    -- the entry, and what stands behind it
    entry_here : (m : ℕ) → j + suc m ≡ table_count b
        → take (4 * suc m) (drop (2 + 4 * j) b)
        ≡ low (length (table_of b j)) ∷ high (length (table_of b j)) ∷ low (place_of b j) ∷ high (place_of b j) ∷ take (4 * m) (drop (2 + 4 * suc j) b)
    entry_here m e =
        let x = 2 + 4 * j in
        let l0 : x < length b = omega (arith, a.frame.header) in
        let l1 : suc x < length b = omega (arith, a.frame.header) in
        let l2 : suc (suc x) < length b = omega (arith, a.frame.header) in
        let l3 : suc (suc (suc x)) < length b = omega (arith, a.frame.header) in
        let q : 4 * suc m ≡ suc (suc (suc (suc (4 * m)))) = omega arith in
        let z : suc (suc (suc (suc x))) ≡ 2 + 4 * suc j = omega arith in
        let i1 : x + 1 ≡ suc x = omega arith in
        let i2 : 4 + 4 * j ≡ suc (suc x) = omega arith in
        let i3 : 4 + 4 * j + 1 ≡ suc (suc (suc x)) = omega arith in
        let y = suc (suc x) in
        rw (q, drop-cons b x 0 l0, drop-cons b (suc x) 0 l1, drop-cons b y 0 l2, drop-cons b (suc y) 0 l3, z, rows_number, place_number, i3, i2, i1)
        (four (low_number (byte_at b x) (byte_at b (suc x)) (bytes x)) (high_number (byte_at b x) (byte_at b (suc x)) (bytes x))
        (low_number (byte_at b y) (byte_at b (suc y)) (bytes y)) (high_number (byte_at b y) (byte_at b (suc y)) (bytes y)))
      where
        four : {p q r s p' q' r' s' : ℕ} {l : List ℕ} → p' ≡ p → q' ≡ q → r' ≡ r → s' ≡ s → p ∷ q ∷ r ∷ s ∷ l ≡ p' ∷ q' ∷ r' ∷ s' ∷ l
        four e f g h = cc

  pub read_entries : (m j : ℕ) → j + m ≡ table_count b
      → entries_of (variables_of b) (place_of b j) (counts_of (tables_from b j m)) ≡ take (4 * m) (drop (2 + 4 * j) b)
  unfolding entries_of counts_of tables_from
  read_entries zero j e = refl
  read_entries (suc m) j e =
      let h : j < table_count b = omega arith in
      rw (entry_here j h m e, next_place j h, read_entries m (suc j) (omega arith))

  pub read_bodies : (m j : ℕ) → j + m ≡ table_count b → bodies_of (tables_from b j m) ≡ drop (place_of b j) b
  unfolding bodies_of tables_from
  read_bodies zero j e =
      let z : table_count b ≡ j = omega arith in
      let w : place_of b (table_count b) ≡ place_of b j = ap (place_of b) z in
      let l : length b ≤ place_of b j = omega (arith, a.ends) in
      sym (drop_of_length-le b l)
  read_bodies (suc m) j e =
      let h : j < table_count b = omega arith in
      rw (flat_table b a j h, read_bodies m (suc j) (omega arith)) (sym (from_place b j))

-- Byte 0 is n and byte 1 the number of tables; then the entries, then the bodies, and nothing behind them.
pub bundle_again : (b : List ℕ) → Bytes b → Laid b → bundle_of (variables_of b) (tables_of b) ≡ b
unfolding bundle_of place_of
bundle_again b bytes a =
    let k = table_count b in
    let l : length (tables_of b) ≡ k = length_tables_from b 0 k in
    let e : entries_of (variables_of b) (2 + 4 * k) (counts_of (tables_of b)) ≡ take (4 * k) (drop 2 b) = read_entries b bytes a k 0 (omega arith) in
    let d : bodies_of (tables_of b) ≡ drop (2 + 4 * k) b = read_bodies b bytes a k 0 (omega arith) in
    let s : take (4 * k) (drop 2 b) ++ drop (2 + 4 * k) b ≡ drop 2 b = rw (← drop-drop (4 * k) 2 b) (take-append-drop (4 * k) (drop 2 b)) in
    let long = a.frame.long in
    let o : b ≡ byte_at b 0 ∷ byte_at b 1 ∷ drop 2 b = drop-cons b 0 0 (omega arith) ∙ ap (λ (t : List ℕ). byte_at b 0 ∷ t) (drop-cons b 1 0 (omega arith)) in
    rw (l, e, d, s) (sym o)

pub same_bundle : (b c : List ℕ) → Bytes b → Bytes c → Accepted b → Accepted c → variables_of b ≡ variables_of c → tables_of b ≡ tables_of c → b ≡ c
same_bundle b c p q x y v t = sym (bundle_again b p x.layout) ∙ rw (v, t) (bundle_again c q y.layout)
