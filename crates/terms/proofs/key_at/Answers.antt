-- Six digits are read; those behind the n-th fall away.
use native.Mathlib.Omega.{arith}
use mathlib.Core.Path.{◌≡◌, ap, ◌∙◌}
use Prim.Native.Nat.{ℕ, ◌+◌, ◌*◌, ◌-◌, ◌/◌, ◌^◌, ◌<◌}
use lib.ListN.{take, drop, get_or}
use Rattle.terms.proofs.LoopLaws.{byte_within}
use Rattle.terms.proofs.KeyLaws.{key_of_six, read_of_six}
use Rattle.terms.proofs.key_at.Goals as goal

pub returns : goal.returns
returns c =
    let a = c.args in
    let t = a.bytes.now in
    let digit : ℕ → ℕ = λ i. get_or t (a.at + i) 0 in
    let byte : (i : ℕ) → digit i < 256 = λ i. omega (arith, c.type_inv.bytes (a.at + i)) in
    let zero : get_or t a.at 0 ≡ digit 0 = let z : a.at ≡ a.at + 0 = omega arith in ap (λ (k : ℕ). get_or t k 0) z in
    ap (λ (x : ℕ). x / 2 ^ (48 - 8 * a.n)) (c.from_be_bytes-six.ensures ∙ read_of_six _ _ _ _ _ _)
    ∙ key_of_six a.n c.requires.0 c.requires.1 (take a.n (drop a.at t)) (get_or t a.at 0) (digit 1) (digit 2) (digit 3) (digit 4) (digit 5)
    (omega (arith, c.type_inv.bytes a.at), byte 1, byte 2, byte 3, byte 4, byte 5) (
      λ h. zero ∙ byte_within a.n a.at 0 t h,
      λ h. byte_within a.n a.at 1 t h,
      λ h. byte_within a.n a.at 2 t h,
      λ h. byte_within a.n a.at 3 t h,
      λ h. byte_within a.n a.at 4 t h,
      λ h. byte_within a.n a.at 5 t h,
    )
