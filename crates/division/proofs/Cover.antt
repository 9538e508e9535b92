-- Rule 4: the cones of a complete table cover its ideal, and only that.
--
--   cover            in a complete table each monomial of the ideal has a Janet divisor
--   covers_complete  a table whose cones cover its ideal is complete, whatever the marks
--   outside_none     a monomial outside the ideal has no divisor, whatever the marks
--   inside_divisor   a monomial with a divisor is in the ideal
use mathlib.Core.Path.{◌≡◌, sym, ◌∙◌, subst}
use mathlib.Core.List.{[]}
use mathlib.Core.Logic.{⊎_elim, by_cases}
use Prim.Native.Nat.{ℕ, zero, suc, ◌+◌, ◌≤◌, ◌<◌}
use native.Mathlib.Nat.{not-suc-le-zero, le_antisymm}
use native.Mathlib.Decide.{dec_lt}
use native.Mathlib.Omega.{arith}
use Rattle.terms.specs.Monomials.{Monomial, Table, ◌!◌, ◌∈◌, row_at, OfSize, SameBefore, times}
use Rattle.terms.specs.Ideal.{Divides, Inside}
use Rattle.terms.proofs.MonomialLaws.{within, below_suc, before_zero, before_suc, times_at, times_same, times_other, times_above, length_times}
use Rattle.terms.proofs.IdealLaws.{inside_up, inside_row_lem}
use Rattle.terms.proofs.RowsLaws.{member_at}
use Rattle.division.specs.Cones.{Division, DivisorAt, Covers, CompleteBy}
use Rattle.division.specs.Janet.{Multiplicative, JanetDivisor, Complete}
use Rattle.division.proofs.JanetLaws.{multiplicative?, multiplicative_same, multiplicative_zero, largest, divisor_at, at_divisor}

-- ---- outside the ideal, over any marks

pub inside_divisor : {M : Division} {G : Table} {r : ℕ} {q : Monomial} → DivisorAt M G r q → Inside G q
inside_divisor {G = G} {r = r} d = record { row = row_at G r; member = member_at G [] r d.within; divides = d.cone.divides }

pub outside_none : {M : Division} {G : Table} {r : ℕ} {q : Monomial} → (Inside G q → ⊥) → DivisorAt M G r q → ⊥
outside_none f d = f (inside_divisor d)

-- ---- over any marks: a table that covers its ideal is complete

-- a product of a row is in the ideal
pub covers_complete : {M : Division} {n : ℕ} {G : Table} → OfSize n G → Covers M n G → CompleteBy M n G
covers_complete {M} {n} {G} z c u m i p l f =
    let d = c (times u i 1) (length_times u i 1 ∙ z u m) (inside_up (inside_row_lem m) (times_above u i 1)) in
    (row_at G d.0, at_divisor d.1)

-- ---- a complete table covers its ideal

-- Go through the variables with a row v that divides q and before variable i is as a Janet divisor of q is. Where i is not multiplicative for v and
-- q exceeds v at i, the product of v and variable i has a Janet divisor. It equals v before i, divides q and is above v at i: it takes v's place, at most
-- as often as q's exponent at i. After the last variable v is a Janet divisor of q.

-- v is a row that divides q, and before i it is as a Janet divisor of q
record Stage (G : Table) (q : Monomial) (i : ℕ) (v : Monomial) : Type 0 where
  member : v ∈ G
  divides : Divides v q
  only : (j : ℕ) → j < i → v ! j < q ! j → Multiplicative G v j

stage_suc : {G : Table} {q v : Monomial} {i : ℕ} → Stage G q i v → (v ! i < q ! i → Multiplicative G v i) → Stage G q (suc i) v
stage_suc {G} {q} {v} {i} s m = record {
  member = s.member;
  divides = s.divides;
  only = below_suc (λ j. v ! j < q ! j → Multiplicative G v j) i s.only m;
}

-- u is a row that divides q, equals v before i and is above v at i
record Above (G : Table) (q v : Monomial) (i : ℕ) (u : Monomial) : Type 0 where
  member : u ∈ G
  divides : Divides u q
  same : SameBefore i u v
  above : v ! i < u ! i

module _ (n : ℕ) (G : Table) (z : OfSize n G) where
  -- A Janet divisor u of v times variable i equals v before i.
  product_same : (u v : Monomial) (i : ℕ) → v ∈ G → JanetDivisor G u (times v i 1) → (j : ℕ) → j ≤ i → SameBefore j u v
  product_same u v i m d zero h = before_zero u v
  product_same u v i m d (suc j) h =
      let ih : SameBefore j u v = product_same u v i m d j (omega arith) in
      let e : times v i 1 ! j ≡ v ! j = times_other v i 1 j (omega arith) in
      before_suc j u v ih (le_antisymm (omega (arith, d.cone.divides j)) (largest d m (λ k l. sym (ih k l)) (omega arith)))

  -- Where i is not multiplicative for v, it is above v at i.
  product_above : (u v q : Monomial) (i : ℕ) → v ∈ G → Divides v q → v ! i < q ! i → 0 < i → i ≤ n
      → (Multiplicative G v i → ⊥) → JanetDivisor G u (times v i 1) → Above G q v i u
  product_above u v q i m a h p l f d =
      let same : SameBefore i u v = product_same u v i m d i (omega arith) in
      let e : times v i 1 ! i ≡ v ! i + 1 = times_same v i 1 p (omega (arith, z v m)) in
      let low : v ! i ≤ u ! i = largest d m (λ k t. sym (same k t)) (omega arith) in
      record {
        member = d.member;
        divides = λ j. ⊎_elim
            (λ o. omega (arith, d.cone.divides j, a j))
            (λ o. subst (λ (k : ℕ). u ! k ≤ q ! k) (sym o.0) (omega (arith, d.cone.divides i)))
            (times_at v i 1 j);
        same = same;
        above = by_cases (dec_lt (v ! i) (u ! i)) (λ o. o)
            (λ g. absurd (f (multiplicative_same G u v i same (omega arith) (d.cone.only i (omega arith)))));
      }

  module _ (c : Complete n G) (q : Monomial) where
    -- a row above v keeps what v has before i
    stage_above : (u v : Monomial) (i : ℕ) → Stage G q i v → Above G q v i u → Stage G q i u
    stage_above u v i s a = record {
      member = a.member;
      divides = a.divides;
      only = λ j l h.
          let e : u ! j ≡ v ! j = a.same j l in
          multiplicative_same G v u j (λ k t. sym (a.same k (omega arith))) (sym e) (s.only j l (omega arith));
    }

    -- at variable i, at most `fuel` products are taken
    climb : (i : ℕ) → 0 < i → i ≤ n → (fuel : ℕ) (v : Monomial) → Stage G q i v → q ! i ≤ v ! i + fuel → (w : Monomial) × Stage G q (suc i) w
    climb i p l zero v s f = (v, stage_suc s (λ h. omega arith))
    climb i p l (suc fuel) v s f =
        by_cases (multiplicative? G v i) (λ m. (v, stage_suc s (λ h. m))) (λ g.
        by_cases (dec_lt (v ! i) (q ! i)) (λ h.
        let o = c v s.member i p l g in
        let a = product_above o.0 v q i s.member s.divides h p l g o.1 in
        climb i p l fuel o.0 (stage_above o.0 v i s a) (omega arith)) (λ h. (v, stage_suc s (λ k. absurd (h k)))))

    sweep : (i : ℕ) → i ≤ n → Inside G q → (w : Monomial) × Stage G q (suc i) w
    sweep zero l h = (
      h.row,
      stage_suc (record { member = h.member; divides = h.divides; only = λ j k. absurd (not-suc-le-zero k) }) (λ k. multiplicative_zero G h.row),
    )
    sweep (suc i) l h =
        let s = sweep i (omega arith) h in
        climb (suc i) (omega arith) l (q ! suc i) s.0 s.1 (omega arith)

pub cover : {n : ℕ} {G : Table} → OfSize n G → Complete n G → Covers Multiplicative n G
cover {n} {G} z c q e h =
    let s = sweep n G z c q n (omega arith) h in
    let d : JanetDivisor G s.0 q = record {
      member = s.1.member;
      cone = record { divides = s.1.divides; only = λ i l. s.1.only i (omega (arith, within q i (omega arith))) l };
    } in
    let r = divisor_at d in (r.0, r.1)
