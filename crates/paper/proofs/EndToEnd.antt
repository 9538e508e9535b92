-- What the third demand needs to go from the given rows to the count.
--
--   outside_ideal     two tables of one ideal have the same number of monomials outside
--   flat_accepted     a table within the limits is within them as bytes
use mathlib.Core.Path.{refl, sym, ap, ◌∙◌}
use mathlib.Core.List.Memᴰ
use mathlib.Core.List.{[], ◌∷◌, Memᴰ}
use mathlib.Core.Logic.{⊎_elim}
use Prim.Native.Nat.{ℕ, suc, ◌*◌, ◌≤◌, ◌<◌}
use native.Mathlib.Omega.{arith}
use lib.ListN.{length}
use Rattle.terms.specs.Monomials.{Monomial, Table, ◌∈◌, OfSize, AtMost}
use Rattle.terms.specs.Ideal.{SameIdeal}
use Rattle.terms.specs.Rows.{flat}
use Rattle.terms.proofs.RowsLaws.{rows_flat, length_flat, member_index}
use Rattle.terms.specs.TableChecks.{TableAccepted}
use Rattle.counts.specs.Counts.{CountsOutside}

pub outside_ideal : {n : ℕ} {G H : Table} {s k : ℕ} → SameIdeal n G H → CountsOutside n H s k → CountsOutside n G s k
outside_ideal same c = record {
  list = c.list;
  size = c.size;
  only = λ q m. let o = c.only q m in (o.0, o.1, λ h. o.2 (same.into q o.0 h));
  once = λ q e l o. c.once q e l (λ h. o (same.back q e h));
}

-- an entry of the bytes of a table is an exponent of a row
flat_entry : (G : Table) (e : ℕ) → Memᴰ e (flat G) → (u : Monomial) × (u ∈ G) × Memᴰ e u
unfolding flat
flat_entry [] e m = absurd (Memᴰ.not-nil m)
flat_entry (u ∷ G) e m = ⊎_elim
    (λ h. (u, Memᴰ.head refl, h))
    (λ h. let r = flat_entry G e h in (r.0, Memᴰ.tail r.1, r.2))
    (Memᴰ.append_cases u m)

-- a table of n exponents a row, within the limits, is within them as bytes
pub flat_accepted : (n : ℕ) (G : Table) → 0 < n → n ≤ 6 → OfSize n G → length G ≤ 4096 → ((u : Monomial) → u ∈ G → AtMost 50 u) → TableAccepted n (flat G)
flat_accepted n G p l z limited small =
    let count = ap length (rows_flat n G p z) in
    record {
      some = p;
      six = l;
      whole = length_flat n G z ∙ ap (λ (k : ℕ). k * n) (sym count);
      limited = omega (arith, count);
      small = λ e m.
          let w = flat_entry G e m in
          let x = member_index w.0 0 e w.2 in
          omega (arith, small w.0 w.1 (suc x.0), x.2);
    }
