-- Laws of the polynomial (rule 8) and of the steady degree (rule 9).
--
--   steady_le, steady_least   the steady degree is the least number that no degree of a row exceeds
--   steady_most            and at most b for each variable where no exponent is above b
--   signed_share_inside    where the row's degree is not above s, the share with a sign is the share
--   polynomial_count       from the steady degree on the polynomial is the count
use mathlib.Core.Path.{◌≡◌, refl, sym, ap, ap₂, ◌∙◌}
use mathlib.Core.List.Memᴰ
use mathlib.Core.List.{[], ◌∷◌}
use mathlib.Core.Logic.{⊎_elim}
use Prim.Native.Nat.{ℕ, ◌+◌, ◌*◌, ◌-◌, ◌≤◌}
use native.Mathlib.Omega.{arith}
use borrow.Author.Tests.{le-ltb}
use lib.IntN.{ℤ, pos, sub_ℕ, ◌-ℤ◌, +ℤ-neg_ℤ_cancel, pos-+ℤ-pos}
use Rattle.terms.specs.Monomials.{Monomial, Table, ◌∈◌, OfSize, AtMost, degree}
use Rattle.terms.proofs.MonomialLaws.{degree_most}
use Rattle.division.proofs.Facade.{marks_in}
use Rattle.counts.specs.Counts.{sum, count_at, share, chooseℤ, signed_share, polynomial_at, steady_of}
use Rattle.counts.proofs.SumLaws.{sumℤ_pos}
use Rattle.counts.proofs.ShareLaws.{share_inside}
use Rattle.counts.proofs.JanetCount.{CountTable, janet_share, janet_count}

-- ---- rule 9

pub steady_le : (G : Table) (u : Monomial) → u ∈ G → degree u ≤ steady_of G
unfolding steady_of
steady_le [] u m = absurd (Memᴰ.not-nil m)
steady_le (v ∷ G) u m = ⊎_elim (λ e. omega (arith, ap degree e)) (λ i. omega (arith, steady_le G u i)) (Memᴰ.cases_cons m)

pub steady_least : (G : Table) (b : ℕ) → ((u : Monomial) → u ∈ G → degree u ≤ b) → steady_of G ≤ b
unfolding steady_of
steady_least [] b h = omega arith
steady_least (v ∷ G) b h = omega (arith, h v (Memᴰ.head refl), steady_least G b (λ u m. h u (Memᴰ.tail m)))

pub steady_most : (n b : ℕ) (G : Table) → OfSize n G → ((u : Monomial) → u ∈ G → AtMost b u) → steady_of G ≤ n * b
steady_most n b G z h = steady_least G (n * b) (λ u m. rw (z u m) at (degree_most b u (h u m)))

-- ---- rule 8

pub subℕ_pos : (a b : ℕ) → b ≤ a → sub_ℕ a b ≡ pos (a - b)
subℕ_pos a b h = rw (le-ltb a b h)

pub signed_share_inside : (s d m : ℕ) → d ≤ s → signed_share s d m ≡ pos (share s d m)
unfolding signed_share chooseℤ
signed_share_inside s d m h =
    let e : s + m - d ≡ s - d + m = omega arith in
    ap (λ (t : ℤ). chooseℤ t m) (subℕ_pos (s + m) d (omega arith) ∙ ap pos e) ∙ ap pos (sym (share_inside s d m h))

-- Where no row's degree is above s each share with a sign is the share, and the count is what the shares leave of C(n + s, n).
pub polynomial_count : (n : ℕ) (G : Table) → CountTable n G → (s : ℕ) → steady_of G ≤ s → polynomial_at n G s ≡ pos (count_at n G s)
unfolding polynomial_at
polynomial_count n G t s h =
    ap₂ (λ (x y : ℤ). x -ℤ y)
    (ap pos (sym (janet_count n G t s)) ∙ sym (pos-+ℤ-pos (count_at n G s) (sum (janet_share n G s) G)))
    (sumℤ_pos (λ u. signed_share s (degree u) (marks_in n G u)) (janet_share n G s) G
    (λ u m. signed_share_inside s (degree u) (marks_in n G u) (omega (arith, steady_le G u m))))
    ∙ +ℤ-neg_ℤ_cancel (pos (count_at n G s)) (pos (sum (janet_share n G s) G))
