-- What the writer's loops have done so far, and the whole bundle from its parts.
--
--   any_listed             what the library's `any` asks of a list
--   total_sum, total_bound   the library's sum of the row counts is that of the tables given. Each count is below 65,536, so the sum is bounded
--   total_next             the rows from table j on
--   bytes_low_high         the library's two bytes of a 16-bit number
--   Entered, entered_none, entered_more, entered_all   the entries of the first j tables are written, and the next body's place is known
--   bundle_written         n, the number of tables, the entries and the bodies, one behind the other, are the bundle at the buffer's front
use mathlib.Core.Path.{◌≡◌, refl, sym, ap, ◌∙◌}
use mathlib.Core.Bool.{Bool, ◌||◌}
use mathlib.Core.List.{List, [], ◌∷◌, ◌++◌, append-nil, append_assoc}
use Prim.Native.Nat.{ℕ, suc, ◌+◌, ◌*◌, ◌/◌, ◌%◌, ◌≤◌, ◌<◌}
use native.Mathlib.Nat.{add-mul, zero-add, mod-eq_of_lt}
use native.Mathlib.Numerals.{add-one}
use native.Mathlib.Omega.{arith}
use lib.ListN.{length, get_or, drop, drop_of_length-le}
use lib.Seq.{drop-cons}
use Rattle.std.specs.Int.{w16, to_le_bytes}
use Rattle.std.specs.List.{list_any, sum}
use Rattle.std.proofs.lemmas.List.Recursion.{is_sum_by}
use Rattle.checks.specs.Tests.{any}
use Rattle.writing.specs.Written.{written, Wrote}
use Rattle.writing.proofs.WrittenLaws.{wrote_nothing, wrote_then, wrote_as}
use Rattle.bundle.specs.Format.{low, high, entries_of}
use Rattle.packing.specs.GivenTables.{total_rows, given_bundle}
use Rattle.packing.specs.Operation.{written_buffer}
use Rattle.packing.proofs.GivenLaws.{bundle_bytes}

-- ---- chains over the counts

-- what the library's `any` computes
pub any_listed : (f : ℕ → Bool) (l : List ℕ) → list_any f l ≡ any f l
any_listed f [] = refl
any_listed f (x ∷ l) = ap (λ (b : Bool). f x || b) (any_listed f l)

pub total_sum : (counts : List ℕ) → sum counts ≡ total_rows counts
unfolding total_rows
total_sum counts = sym (is_sum_by total_rows (λ x. x) refl (λ x l. refl) counts)

pub total_bound : (counts : List ℕ) → ((j : ℕ) → get_or counts j 0 < 65536) → total_rows counts ≤ length counts * 65535
unfolding total_rows
total_bound [] f = omega arith
total_bound (c ∷ counts) f = omega (arith, f 0, total_bound counts (λ j. f (suc j)))

-- ---- the rows from a table on

pub total_next : (counts : List ℕ) (j : ℕ) → j < length counts → total_rows (drop j counts) ≡ get_or counts j 0 + total_rows (drop (j + 1) counts)
unfolding total_rows
total_next counts j h = rw (add-one, drop-cons counts j 0 h)

-- ---- the entries

-- a 16-bit number as two bytes
pub bytes_low_high : (value : ℕ) {bytes : List ℕ} → value < 65536 → bytes ≡ to_le_bytes w16 value
    → get_or bytes 0 0 ∷ (get_or bytes 1 0 ∷ []) ≡ low value ∷ (high value ∷ [])
bytes_low_high value h e = let top : value / 256 % 256 ≡ value / 256 = mod-eq_of_lt (omega arith) in rw e (ap (λ (x : ℕ). low value ∷ (x ∷ [])) top)

-- What is written is `done`; done and the entries that are left are all entries.
pub record Entered (n : ℕ) (counts before : List ℕ) (place at j : ℕ) (buffer : List ℕ) : Type 0 where
  pub passed : j ≤ length counts
  pub done : List ℕ
  pub wrote : Wrote before 2 done at buffer
  pub here : at ≡ 2 + 4 * j
  pub bound : place + total_rows (drop j counts) * n ≡ 2 + 4 * length counts + total_rows counts * n
  pub rest : done ++ entries_of n place (drop j counts) ≡ entries_of n (2 + 4 * length counts) counts

pub entered_none : {n : ℕ} {counts before : List ℕ} → Entered n counts before (2 + 4 * length counts) 2 0 before
entered_none {before = before} =
    record { passed = omega arith; done = []; wrote = wrote_nothing before 2; here = refl; bound = refl; rest = refl }

module _ {n : ℕ} {counts before : List ℕ} {place at j : ℕ} {buffer : List ℕ} (e : Entered n counts before place at j buffer) where
  module _ (c : ℕ) (h : j < length counts) (g : c ≡ get_or counts j 0) where
    -- the place of the next body, and what follows it, end where the bundle does
    entered_place : place + c * n + total_rows (drop (j + 1) counts) * n ≡ 2 + 4 * length counts + total_rows counts * n
    entered_place =
        let t : total_rows (drop j counts) * n ≡ (c + total_rows (drop (j + 1) counts)) * n = ap (λ (x : ℕ). x * n) (rw g (total_next counts j h)) in
        let a = add-mul c (total_rows (drop (j + 1) counts)) n in
        omega (arith, e.bound)

    -- the entry of table j is its two numbers
    entry : entries_of n place (drop j counts) ≡ low c ∷ high c ∷ low place ∷ high place ∷ entries_of n (place + c * n) (drop (j + 1) counts)
    unfolding entries_of
    entry = rw (add-one, g, drop-cons counts j 0 h)

    pub entered_more : {b₁ b₂ : List ℕ} {p q : ℕ} → 2 ≤ length before → Wrote buffer at (low c ∷ high c ∷ []) p b₁
        → Wrote b₁ p (low place ∷ high place ∷ []) q b₂ → Entered n counts before (place + c * n) q (j + 1) b₂
    entered_more {q = q} l v w =
        let numbers : List ℕ = low c ∷ high c ∷ low place ∷ high place ∷ [] in
        record {
          passed = omega arith;
          done = e.done ++ numbers;
          wrote = wrote_as (wrote_then (wrote_then e.wrote l v) l w) (append_assoc e.done (low c ∷ high c ∷ []) (low place ∷ high place ∷ []));
          here = omega (arith, v.ends, w.ends, e.here);
          bound = entered_place;
          rest = append_assoc e.done numbers (entries_of n (place + c * n) (drop (j + 1) counts)) ∙ sym (ap (λ (l : List ℕ). e.done ++ l) entry) ∙ e.rest;
        }

  pub entered_all : length counts ≤ j → Wrote before 2 (entries_of n (2 + 4 * length counts) counts) at buffer
  unfolding entries_of
  entered_all h = wrote_as e.wrote
      (sym (append-nil e.done) ∙ sym (ap (λ (l : List ℕ). e.done ++ entries_of n place l) (drop_of_length-le counts h)) ∙ e.rest)

-- ---- the whole bundle

module _ (n : ℕ) (counts tables buffer : List ℕ) (whole : length tables ≡ total_rows counts * n) where
  pub bundle_written : {b₁ b₂ b₃ b₄ : List ℕ} {p q r s : ℕ} → Wrote buffer 0 (n ∷ []) p b₁ → Wrote b₁ p (length counts ∷ []) q b₂
      → Wrote b₂ 2 (entries_of n (2 + 4 * length counts) counts) r b₃ → Wrote b₃ r tables s b₄
      → (s ≡ length (given_bundle n counts tables)) × (b₄ ≡ written_buffer n counts tables buffer)
  unfolding written
  bundle_written {b₂ = b₂} {b₃} {q = q} {r} {s} w₁ w₂ w₃ w₄ =
      let two : q ≡ 2 = omega (arith, w₁.ends, w₂.ends) in
      let w₃' : Wrote b₂ q (entries_of n (2 + 4 * length counts) counts) r b₃ = rw two w₃ in
      let entries = entries_of n (2 + 4 * length counts) counts in
      let all : Wrote buffer 0 (n ∷ length counts ∷ (entries ++ tables)) s _ =
      wrote_then (wrote_then (wrote_then w₁ (omega arith) w₂) (omega arith) w₃') (omega arith) w₄ in
      let w = wrote_as all (sym (bundle_bytes n counts tables whole)) in
      let z = zero-add (length (given_bundle n counts tables)) in
      (w.ends ∙ z, w.bytes ∙ ap (λ (k : ℕ). given_bundle n counts tables ++ drop k buffer) z)
