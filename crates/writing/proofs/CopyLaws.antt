-- Laws of copies.
--
--   same_byte              a byte before the place up to which two arrays are equal
--   pasted_front           the bytes before a copy
--   Copied, copied_none, copied_more, copied_within, copied_all, copied_length   a copy, byte by byte, from another array or within one
--   pasted_wrote           a whole array, copied, is written
use mathlib.Core.Path.{◌≡◌, refl, sym, ap, ◌∙◌}
use mathlib.Core.List.{List, ◌++◌, append_assoc}
use Prim.Native.Nat.{ℕ, ◌+◌, ◌≤◌, ◌<◌}
use native.Mathlib.Numerals.{add-one}
use native.Mathlib.Omega.{arith}
use lib.ListN.{length, take, drop, get_or, set, length-append, length-drop}
use lib.Seq.{paste, paste-zero, paste-suc, length-paste, length-take-le, get_or-take, get_or-drop, take_at, take-append-le, take_all}
use Rattle.writing.specs.Written.{written, Wrote}

pub same_byte : (x y : ℕ) (b d : List ℕ) → x < y → take y b ≡ take y d → get_or b x 0 ≡ get_or d x 0
same_byte x y b d h e = sym (get_or-take y b x 0 h) ∙ ap (λ (l : List ℕ). get_or l x 0) e ∙ get_or-take y d x 0 h

pub pasted_front : (d s : List ℕ) (to count : ℕ) → to ≤ length d → take to (paste d to s count) ≡ take to d
pasted_front d s to count h =
    let l : length (take to d) ≡ to = length-take-le to d h in
    let m : to ≤ length (take to d ++ take count s) = rw length-append (omega arith) in
    take-append-le to (take to d ++ take count s) (drop (to + count) d) m ∙ take_at (take to d) (take count s) to l

-- b is d with the first i of the count bytes of o from place `from` on at place `to`
pub record Copied (d o : List ℕ) (from to count i : ℕ) (b : List ℕ) : Type 0 where
  pub passed : i ≤ count
  pub copied : b ≡ paste d to (drop from o) i

pub copied_none : {d o : List ℕ} {from to count : ℕ} → Copied d o from to count 0 d
copied_none {d} {o} {from} {to} = record { passed = omega arith; copied = paste-zero d to (drop from o) }

pub copied_all : {d o : List ℕ} {from to count i : ℕ} {b : List ℕ} → Copied d o from to count i b → count ≤ i → b ≡ paste d to (drop from o) count
copied_all {count = count} {i = i} c h = let e : i ≡ count = omega (arith, c.passed) in c.copied ∙ rw e

pub copied_length : {d o : List ℕ} {from to count i : ℕ} {b : List ℕ} → Copied d o from to count i b → from + count ≤ length o → to + count ≤ length d →
    length b ≡ length d
copied_length {d} {o} {from} {to} {i = i} c f t =
    let s : i ≤ length (drop from o) = rw length-drop (omega (arith, c.passed)) in
    ap length c.copied ∙ length-paste d to (drop from o) i (omega (arith, c.passed)) s

-- one byte more, of another array
pub copied_more : {d o : List ℕ} {from to count i : ℕ} {b : List ℕ} → Copied d o from to count i b → from + count ≤ length o → to + count ≤ length d →
    i < count →
    Copied d o from to count (i + 1) (set b (to + i) (get_or o (from + i) 0))
copied_more {d} {o} {from} {to} {i = i} c f t l =
    let s : i < length (drop from o) = rw length-drop (omega arith) in
    record { passed = omega arith; copied = rw (c.copied, add-one, ← get_or-drop from o i 0) (paste-suc d to (drop from o) i 0 (omega arith) s) }

-- of the same array: the bytes that are read stand before those that were written
pub copied_within : {d : List ℕ} {from to count i : ℕ} {b : List ℕ} → Copied d d from to count i b → from + count ≤ to → to + count ≤ length d → i < count →
    Copied d d from to count (i + 1) (set b (to + i) (get_or b (from + i) 0))
copied_within {d} {from} {to} {i = i} {b = b} c f t l =
    let front : take to b ≡ take to d = ap (λ (x : List ℕ). take to x) c.copied ∙ pasted_front d (drop from d) to i (omega arith) in
    rw (same_byte (from + i) to b d (omega arith) front) (copied_more c (omega arith) t l)

-- a whole array, copied, is written
pub pasted_wrote : {d o b : List ℕ} {to : ℕ} → b ≡ paste d to o (length o) → Wrote d to o (to + length o) b
unfolding written
pasted_wrote {d} {o} {b} {to} e = record {
  ends = refl;
  bytes = e ∙ rw (take_all (length o) o (omega arith)) (append_assoc (take to d) o (drop (to + length o) d));
}
