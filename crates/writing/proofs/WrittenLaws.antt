-- Laws of text put into a buffer.
--
--   wrote_nothing, wrote_byte, wrote_then   no text, one byte, and one text behind another
use mathlib.Core.Path.{◌≡◌, refl, sym, ap, ◌∙◌}
use mathlib.Core.List.{List, [], ◌∷◌, ◌++◌, append_assoc}
use Prim.Native.Nat.{ℕ, ◌+◌, ◌≤◌, ◌<◌}
use native.Mathlib.Nat.{add-zero}
use native.Mathlib.Numerals.{add-one}
use native.Mathlib.Omega.{arith}
use lib.ListN.{length, take, drop, set, length-append, take-append-drop}
use lib.Seq.{length-take-le, take_at, drop_at, drop-drop, set_split}
use Rattle.writing.specs.Written.{written, Wrote}

-- the text, with what stands before it, ends at at + length s
head_length : (o : List ℕ) (at : ℕ) (s : List ℕ) → at ≤ length o → length (take at o ++ s) ≡ at + length s
head_length o at s h = length-append (take at o) s ∙ rw (length-take-le at o h)

take_written : (o : List ℕ) (at : ℕ) (s : List ℕ) → at ≤ length o → take (at + length s) (written o at s) ≡ take at o ++ s
unfolding written
take_written o at s h =
    rw (← append_assoc (take at o) s (drop (at + length s) o))
    (take_at (take at o ++ s) (drop (at + length s) o) (at + length s) (head_length o at s h))

drop_written : (o : List ℕ) (at : ℕ) (s : List ℕ) → at ≤ length o → drop (at + length s) (written o at s) ≡ drop (at + length s) o
unfolding written
drop_written o at s h =
    rw (← append_assoc (take at o) s (drop (at + length s) o))
    (drop_at (take at o ++ s) (drop (at + length s) o) (at + length s) (head_length o at s h))

-- a text behind another is both as one text
pub written_then : (o : List ℕ) (at : ℕ) (s t : List ℕ) → at ≤ length o → written (written o at s) (at + length s) t ≡ written o at (s ++ t)
unfolding written
written_then o at s t h =
    let w : List ℕ = written o at s in
    let end : at + length s + length t ≡ at + length (s ++ t) = omega (arith, length-append s t) in
    let front : take (at + length s) w ≡ take at o ++ s = take_written o at s h in
    let rest : drop (at + length s + length t) w ≡ drop (at + length (s ++ t)) o =
    sym (drop-drop (length t) (at + length s) w)
    ∙ ap (λ (l : List ℕ). drop (length t) l) (drop_written o at s h)
    ∙ drop-drop (length t) (at + length s) o
    ∙ ap (λ (k : ℕ). drop k o) end in
    ap (λ (l : List ℕ). l ++ (t ++ drop (at + length s + length t) w)) front
    ∙ ap (λ (l : List ℕ). (take at o ++ s) ++ (t ++ l)) rest
    ∙ simp append_assoc

pub wrote_nothing : (o : List ℕ) (at : ℕ) → Wrote o at [] at o
unfolding written
wrote_nothing o at = record {
  ends = sym (add-zero at);
  bytes = sym (ap (λ (k : ℕ). take at o ++ drop k o) (add-zero at) ∙ take-append-drop at o);
}

pub wrote_byte : (o : List ℕ) (at b : ℕ) → at < length o → Wrote o at (b ∷ []) (at + 1) (set o at b)
unfolding written
wrote_byte o at b h = record { ends = refl; bytes = set_split o at b h ∙ ap (λ (k : ℕ). take at o ++ (b ∷ drop k o)) (sym (add-one at)) }

module _ {o : List ℕ} {at : ℕ} {s : List ℕ} {p : ℕ} {o₁ : List ℕ} (w : Wrote o at s p o₁) where
  pub wrote_then : {t : List ℕ} {q : ℕ} {o₂ : List ℕ} → at ≤ length o → Wrote o₁ p t q o₂ → Wrote o at (s ++ t) q o₂
  wrote_then {t} {q} {o₂} h v = record {
    ends = omega (arith, w.ends, v.ends, length-append s t);
    bytes = v.bytes ∙ rw (w.bytes, w.ends) (written_then o at s t h);
  }

  -- the same text, written in another way
  pub wrote_as : {t : List ℕ} → s ≡ t → Wrote o at t p o₁
  wrote_as e = record { ends = w.ends ∙ rw e; bytes = w.bytes ∙ rw e }
