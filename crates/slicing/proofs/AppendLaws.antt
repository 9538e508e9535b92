-- The recursion at one variable: what `last_variable` and `append_completed` have written, and that all fits.
--
--   last_wide, last_none, last_full, last_one   one variable: the bytes that are read, no rows, no room, the least exponent
--   append_start, append_full, append_done   the walk before the first head, without room, past the last head
--   table_wide, tails_wide, roomy_as, next_roomy   room for the table, for its tails, with other contents, for the next variable
--   appended_above, lent_all, lent_length, walk_last   small facts of ends, of a lent part, of the last growing head
use mathlib.Core.Path.{◌≡◌, refl, sym, ap, ◌∙◌}
use mathlib.Core.Bool.{Bool, true, false}
use mathlib.Core.List.{List, [], ◌∷◌, ◌++◌, append-nil}
use Prim.Native.Nat.{ℕ, zero, suc, ◌+◌, ◌*◌, ◌-◌, ◌≤◌, ◌<◌}
use native.Mathlib.Nat.{mul-add, mul-le-mul_left}
use native.Mathlib.Omega.{arith}
use lib.ListN.{length, take, drop, get_or, set, length-drop, length-set}
use lib.Seq.{take-paste, take-suc-set, length-take-le, take-take, take_all}
use Rattle.std.proofs.lemmas.List.{get_or_default}
use Rattle.std.proofs.Common.{Option, Some, None}
use Rattle.std.specs.List.{Contains}
use Rattle.std.specs.Option.{MatchOption}
use Rattle.terms.specs.Monomials.{Monomial, Table, ◌!◌, OfSize, row_at}
use Rattle.terms.specs.Rows.{first_rows, flat, put_row}
use Rattle.terms.proofs.RowsLaws.{length_first_rows, first_rows_size, member_at, member_index}
use Rattle.completion.specs.Slices.{at, heads, fresh, Walk, walk, slices}
use Rattle.blocks.specs.Bytes.{after}
use Rattle.slicing.specs.Walk.{space, Appended, Standing, HeadTaken, Roomy}
use Rattle.slicing.specs.declared.Progress.{Progress}
use Rattle.completion.proofs.WalkLaws.{slices_none, slices_one, slices_walk, walk_stays, walk_grows}
use Rattle.blocks.proofs.BufferLaws.{fit_within, fit_beyond, beyond_fit, within_fit, walk_fit}
use Rattle.blocks.proofs.ByteLaws.{head_byte, rows_fewer}
use Rattle.blocks.proofs.RowLaws.{same_rows}

-- ---- one variable

-- what `min` answers of some bytes: none for no bytes, and otherwise a byte that none is below
abbrev pub Least : List ℕ → Option ℕ → Type 0
Least work r = MatchOption r (length work ≡ 0) (λ m. ((i : ℕ) → i < length work → m ≤ get_or work i 0) × Contains work m)

slices_least : (m : ℕ) (work : List ℕ) → Least work (Some m) → slices 1 (first_rows 1 (length work) work) ≡ (m ∷ []) ∷ []
slices_least m work least =
    let rows : ℕ = length work in
    let G : Table = first_rows 1 rows work in
    let found = least.1 in
    let byte : (x : ℕ) → x < rows → row_at G x ! 1 ≡ get_or work x 0 =
    λ x l. head_byte 1 rows x work l (omega arith) ∙ ap (λ (y : ℕ). get_or work y 0) (omega arith) in
    slices_one {G = G} {m = m} (first_rows_size 1 rows work (omega arith)) (record {
      row = row_at G found.0;
      member = member_at G [] found.0 (rw length_first_rows found.1);
      head = byte found.0 found.1 ∙ get_or_default work found.0 0 m found.1 ∙ found.2;
      low = λ u i.
          let r = member_index G [] u i in
          let l : r.0 < rows = omega (arith, r.1, length_first_rows 1 rows work) in
          omega (arith, least.0 r.0 l, byte r.0 l, ap (λ (v : Monomial). v ! 1) r.2);
    })

-- the rows of one exponent at the front are those of the bytes at the front
module _ {n rows : ℕ} {work out : List ℕ} {at : ℕ} (R : Roomy n 0 rows work out at) where
  pub last_wide : rows ≤ length work
  unfolding space
  last_wide = omega (arith, R.wide)

  front_length : length (take rows work) ≡ rows
  front_length = length-take-le rows work last_wide

  pub last_roomy : Roomy n 0 (length (take rows work)) (take rows work) out at
  unfolding space
  last_roomy = record {
    variables = R.variables;
    six = R.six;
    wide = omega arith;
    limited = omega (arith, front_length, R.limited);
    starts = R.starts;
  }

  pub last_appended : {prefix : List ℕ} {r : Option ℕ} {o : List ℕ} →
      Appended n 0 (length (take rows work)) prefix (take rows work) out at r (take rows work) o → Appended n 0 rows prefix work out at r work o
  last_appended A =
      let same : first_rows 1 (length (take rows work)) (take rows work) ≡ first_rows 1 rows work =
      ap (λ (x : ℕ). first_rows 1 x (take rows work)) front_length
      ∙ same_rows 1 rows (take rows work) work (omega (arith, front_length)) (omega (arith, last_wide)) (take-take (rows * 1) rows work (omega arith)) in
      record { end = rw same at A.end; written = rw same at A.written; kept = refl }

module _ {n : ℕ} {work out : List ℕ} {at : ℕ} (R : Roomy n 0 (length work) work out at) where
  pub last_none : {prefix : List ℕ} → length work ≡ 0 → Appended n 0 (length work) prefix work out at (Some at) work out
  unfolding first_rows flat after
  last_none e =
      let s : slices 1 (first_rows 1 (length work) work) ≡ [] = ap (λ (k : ℕ). slices 1 (first_rows 1 k work)) e ∙ slices_none 1 in
      let z : at + 0 ≡ at = omega arith in
      record {
        end = rw (s, z) (sym (fit_within n (length out) at R.starts));
        written = rw s (sym (append-nil (take (at * n) out)));
        kept = refl;
      }

  module _ (m : ℕ) (least : Least work (Some m)) where
    one_row : slices 1 (first_rows 1 (length work) work) ≡ (m ∷ []) ∷ []
    one_row = slices_least m work least

    pub last_full : {prefix o : List ℕ} → length out < (at + 1) * n → Appended n 0 (length work) prefix work out at None work o
    last_full l = record {
      end = rw one_row (sym (fit_beyond n (length out) (at + 1) l));
      written = tt;
      kept = refl;
    }

    pub last_one : (at + 1) * n ≤ length out → (prefix : List ℕ) → length prefix ≡ 6 → (row o : List ℕ) → row ≡ set prefix (n - 1) m →
        o ≡ put_row n at row out → Appended n 0 (length work) prefix work out at (Some (at + 1)) work o
    unfolding flat after put_row
    last_one l prefix six row o q e =
        let f : (at + 1) * n ≡ at * n + n = omega arith in
        let t : n ≤ length (set prefix (n - 1) m) = rw length-set (omega (arith, R.six)) in
        let k : suc (n - 1) ≡ n = omega (arith, R.variables) in
        let front : take n (set prefix (n - 1) m) ≡ take (n - 1) prefix ++ (m ∷ []) =
        ap (λ (x : ℕ). take x (set prefix (n - 1) m)) (sym k) ∙ take-suc-set prefix (n - 1) m (omega (arith, R.six)) in
        record {
          end = rw one_row (sym (fit_within n (length out) (at + 1) l));
          written =
              rw (one_row, f, e, q, take-paste out (at * n) (set prefix (n - 1) m) n (omega arith) t, front)
              (ap (λ (y : List ℕ). take (at * n) out ++ y) (sym (append-nil (take (n - 1) prefix ++ (m ∷ [])))));
          kept = refl;
        }

-- ---- room at a variable, and at the next

space_above : (m : ℕ) → m ≤ space m
unfolding space
space_above zero = omega arith
space_above (suc m) = omega arith

module _ {n rest rows : ℕ} {work out : List ℕ} {x : ℕ} (h : Roomy n rest rows work out x) where
  pub table_wide : rows * suc rest ≤ length work
  unfolding space
  table_wide = let e : rows * (suc rest + space rest) ≡ rows * suc rest + rows * space rest = mul-add rows (suc rest) (space rest) in omega (arith, h.wide)

  pub tails_wide : rows * suc rest + rows * rest ≤ length work
  unfolding space
  tails_wide =
      let e : rows * (suc rest + space rest) ≡ rows * suc rest + rows * space rest = mul-add rows (suc rest) (space rest) in
      let f : rows * rest ≤ rows * space rest = mul-le-mul_left rows (space_above rest) in
      omega (arith, h.wide)

  -- the same with other contents
  pub roomy_as : (new after : List ℕ) (y : ℕ) → length new ≡ length work → length after ≡ length out → y * n ≤ length out → Roomy n rest rows new after y
  roomy_as new after y l m g = record {
    variables = h.variables;
    six = h.six;
    wide = omega (arith, h.wide);
    limited = h.limited;
    starts = omega arith;
  }

  pub next_roomy : 0 < rest → {all : ℕ} → all ≤ rows → {lent after : List ℕ} → length lent ≡ length work - rows * suc rest → length after ≡ length out →
      {y : ℕ} → y * n ≤ length out → Roomy n (rest - 1) all lent after y
  unfolding space
  next_roomy p {all} fewer {lent} {after} l m {y} g =
      let progress : suc (rest - 1) ≡ rest = omega arith in
      let e : rows * (suc rest + space rest) ≡ rows * suc rest + rows * space rest = mul-add rows (suc rest) (space rest) in
      let f : all * space rest ≤ rows * space rest = rows_fewer all rows (space rest) fewer in
      let k : all * space (suc (rest - 1)) ≡ all * space rest = ap (λ (z : ℕ). all * space z) progress in
      record {
        variables = omega (arith, h.variables);
        six = h.six;
        wide = omega (arith, h.wide, k);
        limited = omega (arith, h.limited);
        starts = omega arith;
      }

-- ---- the walk: before the first head, and past the last

module _ {n rest rows : ℕ} {work out : List ℕ} {start : ℕ} (h : Roomy n rest rows work out start) where
  abbrev T : Table
  T = first_rows (suc rest) rows work

  size : OfSize (suc rest) T
  size = first_rows_size (suc rest) rows work (table_wide h)

  pub append_start : {prefix : List ℕ} →
      Standing n T start (take (start * n) out) rest rows prefix 0 work out (record { from = record { 0 = start }; end = start; last = 0; generators = 0 })
  unfolding walk first_rows flat after
  append_start =
      let z : start + 0 ≡ start = omega arith in
      record {
        table = refl;
        last = refl;
        generators = refl;
        block = z;
        before = length-take-le (start * n) out h.starts;
        end = sym z;
        within = h.starts;
        written = sym (append-nil (take (start * n) out));
      }

  -- no room for what a head adds: none for the whole
  pub append_full : {prefix : List ℕ} {a : ℕ} {now o new after : List ℕ} → length o ≡ length out →
      HeadTaken n T start (take (start * n) out) rest rows prefix a now o None new after →
      take (rows * suc rest) now ≡ take (rows * suc rest) work → Appended n rest rows prefix work out start None new after
  append_full {a = a} {o = o} l s k =
      let W : Table = (walk (λ H. slices rest H) T (suc a)).written in
      let b : length o < (start + length W) * n = beyond_fit n (length o) (start + length W) s.end in
      record {
        end = sym (walk_fit rest T size n (length out) start (suc a) (omega arith));
        written = tt;
        kept = s.kept ∙ k;
      }

  pub append_done : {prefix : List ℕ} {a : ℕ} {now after : List ℕ} {progress : Progress} → length after ≡ length out
      → Standing n T start (take (start * n) out) rest rows prefix a now after progress →
      take (rows * suc rest) now ≡ take (rows * suc rest) work → a ≡ heads T → Appended n rest rows prefix work out start (Some progress.end) now after
  append_done {prefix} {a} {progress = progress} l s k e =
      let all : (walk (λ H. slices rest H) T a).written ≡ slices (suc rest) T =
      ap (λ (x : ℕ). (walk (λ H. slices rest H) T x).written) e ∙ sym (slices_walk rest T) in
      let f : progress.end ≡ start + length (slices (suc rest) T) = s.end ∙ ap (λ (H : Table). start + length H) all in
      let fits : progress.end * n ≤ length out = omega (arith, s.within) in
      record {
        end = ap Some f ∙ sym (fit_within n (length out) _ (rw f at fits));
        written = s.written ∙ ap (λ (H : Table). take (start * n) out ++ flat (after (take (n - suc rest) prefix) H)) all;
        kept = k;
      }

-- ---- small facts

-- the new end is no less than the old one
pub appended_above : {n rest rows : ℕ} {prefix work out : List ℕ} {x e : ℕ} {work' out' : List ℕ} →
    Appended n rest rows prefix work out x (Some e) work' out' → (x ≤ e) × (e * n ≤ length out)
appended_above {n} {rest} {rows} {work = work} {out = out} {x = x} {e = e} A =
    let fits = within_fit n (length out) (x + length (slices (suc rest) (first_rows (suc rest) rows work))) e A.end in
    (omega arith, rw (← fits.0) at fits.1)

-- the part of an array from a place on
pub lent_all : (base : ℕ) (b : List ℕ) → take (length b - base) (drop base b) ≡ drop base b
lent_all base b = take_all (length b - base) (drop base b) (rw length-drop (omega arith))

pub lent_length : (base : ℕ) (b : List ℕ) → length (take (length b - base) (drop base b)) ≡ length b - base
lent_length base b = ap length (lent_all base b) ∙ length-drop base b

-- the last growing head is one of those passed
pub walk_last : (f : Table → Table) (G : Table) (a : ℕ) → (walk f G a).last ≤ a
unfolding walk
walk_last f G zero = omega arith
walk_last f G (suc a) = go (fresh (walk f G a).generators (at a G)) refl (walk_last f G a)
  where
    go : (g : Bool) → fresh (walk f G a).generators (at a G) ≡ g → (walk f G a).last ≤ a → (walk f G (suc a)).last ≤ suc a
    go true e h = omega (arith, ap (λ (v : Walk). v.last) (walk_grows f G a e))
    go false e h = omega (arith, ap (λ (v : Walk). v.last) (walk_stays f G a e))
