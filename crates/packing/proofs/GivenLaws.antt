-- The tables that row counts and bytes are, and the bytes of their bundle.
--
--   length_given, counts_given, sized_given   how many tables there are, their row counts, and that each row has n exponents
--   given_at               table j: the rows behind those of the tables before it
--   given_again            the bodies of tables, cut by the tables' row counts, are the tables
--   bodies_given           the bodies of the given tables, end to end, are the bytes given
--   total_bodies           the bodies of tables have n bytes for each row
--   length_counts, length_entries, length_bundle   how many row counts there are, and the lengths of entries and of a bundle
--   bundle_bytes, length_given_bundle  the bytes of the bundle of given tables, and its length
use mathlib.Core.Path.{◌≡◌, refl, sym, ap, ◌∙◌, subst}
use mathlib.Core.List.Memᴰ
use mathlib.Core.List.{List, [], ◌∷◌, ◌++◌, Memᴰ}
use mathlib.Core.Logic.{⊎_elim}
use Prim.Native.Nat.{ℕ, zero, suc, ◌+◌, ◌*◌, ◌≤◌, ◌<◌}
use native.Mathlib.Nat.{add-mul}
use native.Mathlib.Omega.{arith}
use lib.ListN.{length, get_or, take, drop, length-append, length-drop}
use lib.Seq.{drop_at, drop-drop, take-add, take_all}
use Rattle.terms.specs.Monomials.{Table, OfSize}
use Rattle.terms.specs.Rows.{first_rows, flat}
use Rattle.terms.proofs.RowsLaws.{length_first_rows, first_rows_size, first_rows_flat, flat_first_rows, length_flat}
use Rattle.bundle.specs.Format.{counts_of, entries_of, bodies_of, bundle_of}
use Rattle.packing.specs.GivenTables.{total_rows, given_tables, given_bundle}

pub length_given : (n : ℕ) (counts tables : List ℕ) → length (given_tables n counts tables) ≡ length counts
unfolding given_tables
length_given n [] tables = refl
length_given n (c ∷ counts) tables = ap suc (length_given n counts (drop (c * n) tables))

pub counts_given : (n : ℕ) (counts tables : List ℕ) → counts_of (given_tables n counts tables) ≡ counts
unfolding given_tables counts_of
counts_given n [] tables = refl
counts_given n (c ∷ counts) tables = rw (length_first_rows n c tables, counts_given n counts (drop (c * n) tables))

-- table j: the rows behind those of the tables before it
pub given_at : (n : ℕ) (counts tables : List ℕ) (j : ℕ) → j < length counts
    → get_or (given_tables n counts tables) j [] ≡ first_rows n (get_or counts j 0) (drop (total_rows (take j counts) * n) tables)
unfolding given_tables total_rows
given_at n [] tables j h = absurd (omega arith)
given_at n (c ∷ counts) tables zero h = let z : 0 * n ≡ 0 = omega arith in rw z
given_at n (c ∷ counts) tables (suc j) h =
    let before = total_rows (take j counts) in
    given_at n counts (drop (c * n) tables) j (omega arith)
    ∙ ap (first_rows n (get_or counts j 0)) (drop-drop (before * n) (c * n) tables ∙ ap (λ (x : ℕ). drop x tables) (sym (add-mul c before n)))

-- the bytes of the first table and of the others
total_cons : (n c : ℕ) (counts : List ℕ) → total_rows (c ∷ counts) * n ≡ c * n + total_rows counts * n
unfolding total_rows
total_cons n c counts = add-mul c (total_rows counts) n

pub sized_given : (n : ℕ) (counts tables : List ℕ) → total_rows counts * n ≤ length tables
    → (G : Table) → Memᴰ G (given_tables n counts tables) → OfSize n G
unfolding given_tables
sized_given n [] tables h G m = absurd (Memᴰ.not-nil m)
sized_given n (c ∷ counts) tables h G m =
    let e = total_cons n c counts in
    ⊎_elim
    (λ g. subst (λ (F : Table). OfSize n F) (sym g) (first_rows_size n c tables (omega arith)))
    (sized_given n counts (drop (c * n) tables) (rw length-drop (omega arith)) G)
    (Memᴰ.cases_cons m)

-- ---- bodies end to end

bodies_front : (n : ℕ) (counts tables : List ℕ) → bodies_of (given_tables n counts tables) ≡ take (total_rows counts * n) tables
unfolding given_tables bodies_of total_rows
bodies_front n [] tables = let e : 0 * n ≡ 0 = omega arith in rw e
bodies_front n (c ∷ counts) tables =
    rw (total_cons n c counts, take-add (c * n) (total_rows counts * n) tables, flat_first_rows n c tables, bodies_front n counts (drop (c * n) tables))

pub bodies_given : (n : ℕ) (counts tables : List ℕ) → length tables ≡ total_rows counts * n → bodies_of (given_tables n counts tables) ≡ tables
bodies_given n counts tables e = bodies_front n counts tables ∙ take_all (total_rows counts * n) tables (omega arith)

-- cut by the tables' row counts, their bodies are the tables again
pub given_again : (n : ℕ) (Ts : List Table) → ((G : Table) → Memᴰ G Ts → OfSize n G) → given_tables n (counts_of Ts) (bodies_of Ts) ≡ Ts
unfolding given_tables counts_of bodies_of
given_again n [] size = refl
given_again n (G ∷ Ts) size =
    let s : OfSize n G = size G (Memᴰ.head refl) in
    let rest = given_again n Ts (λ F m. size F (Memᴰ.tail m)) in
    rw (first_rows_flat n G (bodies_of Ts) s, drop_at (flat G) (bodies_of Ts) (length G * n) (length_flat n G s), rest)

pub total_bodies : (n : ℕ) (Ts : List Table) → ((G : Table) → Memᴰ G Ts → OfSize n G) → length (bodies_of Ts) ≡ total_rows (counts_of Ts) * n
unfolding total_rows counts_of bodies_of
total_bodies n [] size = omega arith
total_bodies n (G ∷ Ts) size =
    length-append (flat G) (bodies_of Ts)
    ∙ omega (
      arith,
      length_flat n G (size G (Memᴰ.head refl)),
      total_bodies n Ts (λ F m. size F (Memᴰ.tail m)),
      add-mul (length G) (total_rows (counts_of Ts)) n,
    )

-- ---- lengths and bytes

pub length_counts : (Ts : List Table) → length (counts_of Ts) ≡ length Ts
unfolding counts_of
length_counts [] = refl
length_counts (G ∷ Ts) = ap suc (length_counts Ts)

pub length_entries : (n p : ℕ) (counts : List ℕ) → length (entries_of n p counts) ≡ 4 * length counts
unfolding entries_of
length_entries n p [] = refl
length_entries n p (c ∷ counts) = omega (arith, length_entries n (p + c * n) counts)

pub length_bundle : (n : ℕ) (Ts : List Table) → length (bundle_of n Ts) ≡ 2 + 4 * length Ts + length (bodies_of Ts)
unfolding bundle_of
length_bundle n Ts =
    let a = length-append (entries_of n (2 + 4 * length Ts) (counts_of Ts)) (bodies_of Ts) in
    omega (arith, a, length_entries n (2 + 4 * length Ts) (counts_of Ts), length_counts Ts)

module _ (n : ℕ) (counts tables : List ℕ) (whole : length tables ≡ total_rows counts * n) where
  pub bundle_bytes : given_bundle n counts tables ≡ n ∷ length counts ∷ (entries_of n (2 + 4 * length counts) counts ++ tables)
  unfolding bundle_of
  bundle_bytes = rw (length_given n counts tables, counts_given n counts tables, bodies_given n counts tables whole)

  pub length_given_bundle : length (given_bundle n counts tables) ≡ 2 + 4 * length counts + length tables
  length_given_bundle =
      omega (arith, length_bundle n (given_tables n counts tables), length_given n counts tables, ap length (bodies_given n counts tables whole))
