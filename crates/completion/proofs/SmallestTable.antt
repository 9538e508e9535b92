-- Rule 5's table is complete and has the ideal (demand 2), and its cones part the ideal (demand 3).
-- Throughout H is the completed table of the ideal of G: CompletedTable n G H.
--
--   put u i a              u with the exponent a at variable i
--   enters_down            where rule 5 holds for an exponent at i, it holds for each smaller one above 0
--   completion_divisor     each monomial of the ideal has a Janet divisor in H
--   completion_ideal       H has the same ideal
--   completion_complete    H is complete
--   completion_size, completion_distinct   its rows have n exponents, and no row occurs twice
--   completion_one, completion_none   a monomial that a given row divides has exactly one divisor in H by row number; one that none divides has none
--   completed_contained    every complete table of the ideal has the rows of H
use mathlib.Core.Path.{◌≡◌, refl, sym, ap, ◌∙◌}
use mathlib.Core.List.Memᴰ
use mathlib.Core.Logic.{by_cases}
use Prim.Native.Nat.{ℕ, zero, suc, ◌+◌, ◌-◌, ◌≤◌, ◌<◌}
use native.Mathlib.Nat.{not-suc-le-zero}
use native.Mathlib.Decide.{dec_le, dec_lt}
use native.Mathlib.Omega.{arith}
use lib.ListN.{length, set, length-set}
use lib.Seq.{get_or-set_same, get_or-set_other}
use Rattle.checks.proofs.TestLaws.{decide}
use Rattle.terms.specs.Monomials.{Monomial, Table, ◌!◌, ◌∈◌, row_at, OfSize, Distinct, SameBefore, times}
use Rattle.terms.proofs.OrderLaws.{ascending_distinct}
use Rattle.terms.specs.Ideal.{Divides, Inside, SameIdeal}
use Rattle.terms.proofs.MonomialLaws.{within, positive, three, at_or_other, below_suc, before_zero, before_suc, same_all, length_times, times_same}
use Rattle.terms.proofs.MonomialLaws.{times_other, times_above}
use Rattle.terms.proofs.IdealLaws.{inside_up, inside?}
use Rattle.division.specs.Cones.{DivisorAt}
use Rattle.division.specs.Janet.{Multiplicative, JanetDivisor, Complete}
use Rattle.division.proofs.JanetLaws.{divisor_at, at_divisor, at_most_one, same_prefix, janet_disjoint}
use Rattle.division.proofs.Cover.{cover, outside_none}
use Rattle.completion.specs.Completed.{Enters, Completed, CompletedTable}
use Rattle.completion.proofs.RuleFive.{tests_enters}

-- ---- one exponent changed

abbrev pub put : Monomial → ℕ → ℕ → Monomial
put u zero a = u
put u (suc i) a = set u i a

pub put_size : (u : Monomial) (i a : ℕ) → length (put u i a) ≡ length u
put_size u zero a = refl
put_size u (suc i) a = length-set u i a

pub put_same : (u : Monomial) (i a : ℕ) → 0 < i → i ≤ length u → put u i a ! i ≡ a
put_same u zero a p l = absurd (not-suc-le-zero p)
put_same u (suc i) a p l = get_or-set_same u i a 0 l

pub put_other : (u : Monomial) (i a j : ℕ) → (j ≡ i → ⊥) → put u i a ! j ≡ u ! j
put_other u zero a j e = refl
put_other u (suc i) a zero e = refl
put_other u (suc i) a (suc j) e = get_or-set_other u i j a 0 (λ h. e (ap suc h))

-- ---- rule 5 at smaller exponents

module _ (n : ℕ) (G : Table) where
  -- rule 5 at i looks at the exponents up to i alone
  pub enters_same : {u v : Monomial} {i : ℕ} → SameBefore (suc i) u v → Enters n G u i → Enters n G v i
  enters_same {u} {v} {i} s h = record {
    from = h.from;
    size = h.size;
    outside = h.outside;
    before = λ j l. h.before j l ∙ s j (omega arith);
    less = h.less ∙ s i (omega arith);
    by = h.by;
    enters = h.enters;
  }

  -- the outside monomial of w, lower at i, serves for u
  pub enters_down : {w u : Monomial} {i : ℕ} → Enters n G w i → SameBefore i w u → 0 < i → i ≤ n → 0 < u ! i → u ! i ≤ w ! i → Enters n G u i
  enters_down {w} {u} {i} h s c b p big =
      let v : Monomial = h.from in
      let l : i ≤ length v = omega (arith, h.size) in
      let x : Monomial = put v i (u ! i - 1) in
      let at : x ! i ≡ u ! i - 1 = put_same v i (u ! i - 1) c l in
      let long : length x ≡ length v = put_size v i (u ! i - 1) in
      let k : ℕ = h.by + (v ! i - x ! i) in
      record {
        from = x;
        size = long ∙ h.size;
        outside = λ o. h.outside (inside_up o (at_or_other (λ j. x ! j ≤ v ! j) i
            (omega (arith, h.less))
            (λ j e. omega (arith, put_other v i (u ! i - 1) j e))));
        before = λ j t. put_other v i (u ! i - 1) j (omega arith) ∙ h.before j t ∙ s j t;
        less = omega arith;
        by = k;
        enters = inside_up h.enters (at_or_other (λ j. times v i h.by ! j ≤ times x i k ! j) i
            (omega (arith, times_same v i h.by c l, times_same x i k c (omega arith), h.less))
            (λ j e. omega (arith, times_other v i h.by j e, times_other x i k j e, put_other v i (u ! i - 1) j e)));
      }

-- ---- the cones cover the ideal

-- Lower q variable by variable, each as long as rule 5 fails there. Lowering so does not leave the ideal, and what was lowered is then the largest of
-- its group. What is left after the last variable is a row of the completed table and a Janet divisor of q.
module _ (n : ℕ) (G : Table) (z : OfSize n G) where
  -- no row of the completed table in u's group at i has more than u
  abbrev Top : Monomial → ℕ → Type 0
  Top u i = (w : Monomial) → Completed n G w → SameBefore i w u → w ! i ≤ u ! i

  -- one less at variable i
  abbrev lowered : Monomial → ℕ → Monomial
  lowered u i = put u i (u ! i - 1)

  lowered_here : (u : Monomial) (i : ℕ) → 0 < u ! i → lowered u i ! i ≡ u ! i - 1
  lowered_here u i p = put_same u i (u ! i - 1) (positive u i p) (within u i p)

  lowered_before : (u : Monomial) (i : ℕ) → SameBefore i (lowered u i) u
  lowered_before u i j l = put_other u i (u ! i - 1) j (omega arith)

  -- Where rule 5 fails for u at i, lowering u at i does not leave the ideal,
  lowered_inside : (u : Monomial) (i : ℕ) → length u ≡ n → 0 < u ! i → Inside G u → (Enters n G u i → ⊥) → Inside G (lowered u i)
  lowered_inside u i size p h g = by_cases (inside? G (lowered u i)) (λ k. k) (λ o.
      let v : Monomial = lowered u i in
      let here : v ! i ≡ u ! i - 1 = lowered_here u i p in
      let long : length v ≡ length u = put_size u i (u ! i - 1) in
      absurd (g (record {
        from = v;
        size = long ∙ size;
        outside = o;
        before = lowered_before u i;
        less = omega arith;
        by = 1;
        enters = inside_up h (at_or_other (λ j. u ! j ≤ times v i 1 ! j) i
            (omega (arith, times_same v i 1 (positive u i p) (omega (arith, within u i p))))
            (λ j e. omega (arith, times_other v i 1 j e, put_other u i (u ! i - 1) j e)));
      })))

  -- and no row of the completed table in u's group reaches u.
  lowered_top : (u : Monomial) (i : ℕ) → length u ≡ n → 0 < u ! i → (Enters n G u i → ⊥) → Top (lowered u i) i
  lowered_top u i size p g w c s =
      let here : lowered u i ! i ≡ u ! i - 1 = lowered_here u i p in
      by_cases (dec_le (w ! i) (lowered u i ! i)) (λ k. k) (λ big.
      absurd (g (enters_down n G (c.each i (omega arith)) (λ j t. s j t ∙ lowered_before u i j t) (positive u i p) (omega (arith, within u i p)) p
      (omega arith))))

  -- m comes from q by lowering variables before k: it is in the ideal, before i it is as a row of the completed table, and what was lowered is at the
  -- top of its group
  record Reached (q : Monomial) (i k : ℕ) (m : Monomial) : Type 0 where
    size : length m ≡ n
    inside : Inside G m
    divides : Divides m q
    each : (j : ℕ) → j < i → 0 < m ! j → Enters n G m j
    top : (j : ℕ) → m ! j < q ! j → Top m j
    rest : (j : ℕ) → k ≤ j → m ! j ≡ q ! j

  begin : {q m : Monomial} {i : ℕ} → Reached q i i m → Reached q i (suc i) m
  begin r = record { size = r.size; inside = r.inside; divides = r.divides; each = r.each; top = r.top; rest = λ j l. r.rest j (omega arith) }

  end : {q m : Monomial} {i : ℕ} → Reached q i (suc i) m → (0 < m ! i → Enters n G m i) → Reached q (suc i) (suc i) m
  end {q} {m} {i} r e = record {
    size = r.size;
    inside = r.inside;
    divides = r.divides;
    each = below_suc (λ j. 0 < m ! j → Enters n G m j) i r.each e;
    top = r.top;
    rest = r.rest;
  }

  lower_once : {q m : Monomial} {i : ℕ} → Reached q i (suc i) m → 0 < m ! i → (Enters n G m i → ⊥) → Reached q i (suc i) (lowered m i)
  lower_once {q} {m} {i} r p g =
      let v : Monomial = lowered m i in
      let here : v ! i ≡ m ! i - 1 = lowered_here m i p in
      let long : length v ≡ length m = put_size m i (m ! i - 1) in
      let before : SameBefore i v m = lowered_before m i in
      record {
        size = long ∙ r.size;
        inside = lowered_inside m i r.size p r.inside g;
        divides = at_or_other (λ j. v ! j ≤ q ! j) i (omega (arith, r.divides i)) (λ j e. omega (arith, r.divides j, put_other m i (m ! i - 1) j e));
        each = λ j t h. enters_same n G (λ k s. sym (before k (omega arith))) (r.each j t (omega (arith, before j t)));
        top = three (λ j. v ! j < q ! j → Top v j) i
            (λ j t h w c s. omega (arith, before j t, r.top j (omega (arith, before j t)) w c (λ k y. s k y ∙ before k (omega arith))))
            (λ h. lowered_top m i r.size p g)
            (λ j t h. omega (arith, put_other m i (m ! i - 1) j (omega arith), r.rest j t));
        rest = λ j t. put_other m i (m ! i - 1) j (omega arith) ∙ r.rest j t;
      }

  lower : {q : Monomial} {i : ℕ} (fuel : ℕ) (m : Monomial) → Reached q i (suc i) m → m ! i ≤ fuel → (w : Monomial) × Reached q (suc i) (suc i) w
  lower zero m r f = (m, end r (λ p. absurd (omega arith)))
  lower {i = i} (suc fuel) m r f =
      by_cases (dec_lt 0 (m ! i)) (λ p.
      by_cases (decide (tests_enters n G z m i r.size p)) (λ h. (m, end r (λ t. h))) (λ g.
      lower fuel (lowered m i) (lower_once r p g) (omega (arith, lowered_here m i p))))
      (λ p. (m, end r (λ t. absurd (p t))))

  reach : {q : Monomial} → length q ≡ n → Inside G q → (i : ℕ) → (w : Monomial) × Reached q i i w
  reach {q} e h zero = (
    q,
    record {
      size = e;
      inside = h;
      divides = λ j. omega arith;
      each = λ j t. absurd (not-suc-le-zero t);
      top = λ j t. omega arith;
      rest = λ j t. refl;
    },
  )
  reach {q} e h (suc i) =
      let r = reach e h i in
      lower (r.0 ! i) r.0 (begin r.1) (omega arith)

  module _ {H : Table} (is : CompletedTable n G H) where
    pub completion_divisor : (q : Monomial) → length q ≡ n → Inside G q → (u : Monomial) × JanetDivisor H u q
    completion_divisor q e h =
        let r = reach e h (suc n) in
        let m : Monomial = r.0 in
        let c : Completed n G m = record {
          size = r.1.size;
          inside = r.1.inside;
          each = λ i p. r.1.each i (omega (arith, within m i p, r.1.size)) p;
        } in (
          m,
          record {
            member = is.all m c;
            cone = record { divides = r.1.divides; only = λ i l w k. r.1.top i l w (is.only w k.member) k.same };
          },
        )

    pub completion_ideal : SameIdeal n G H
    completion_ideal = record {
      into = λ q e h. let d = completion_divisor q e h in record { row = d.0; member = d.1.member; divides = d.1.cone.divides };
      back = λ q e h. inside_up (is.only h.row h.member).inside h.divides;
    }

    pub completion_complete : Complete n H
    completion_complete u m i p l g =
        let c = is.only u m in
        completion_divisor (times u i 1) (length_times u i 1 ∙ c.size) (inside_up c.inside (times_above u i 1))

    -- ---- exactly one divisor

    -- the divisor of q by its row number: there is one, and no other
    pub completion_one : (q : Monomial) → length q ≡ n → Inside G q →
        (r : ℕ) × DivisorAt Multiplicative H r q × ((s : ℕ) → DivisorAt Multiplicative H s q → r ≡ s)
    completion_one q e h =
        let d = completion_divisor q e h in
        let r = divisor_at d.1 in
        (r.0, r.1, λ s k. at_most_one (janet_disjoint (λ u m. (is.only u m).size) (ascending_distinct H is.ascends)) r.1 k)

    pub completion_none : (q : Monomial) → length q ≡ n → (Inside G q → ⊥) → (r : ℕ) → DivisorAt Multiplicative H r q → ⊥
    completion_none q e o r d = outside_none (λ h. o (completion_ideal.back q e h)) d

pub completion_size : {n : ℕ} {G H : Table} → CompletedTable n G H → OfSize n H
completion_size is u m = (is.only u m).size

pub completion_distinct : {n : ℕ} {G H : Table} → CompletedTable n G H → Distinct H
completion_distinct {H = H} is = ascending_distinct H is.ascends

-- ---- the completed table is the smallest

module _ (n : ℕ) (G K : Table) (z : OfSize n K) (c : Complete n K) (s : SameIdeal n G K) where
  -- A Janet divisor w in K of a row u of the completed table equals u before each variable. Were w first below u at i, rule 5 gives v outside that enters
  -- when raised at i; the Janet divisor y of the raised monomial agrees with w before i, so it is at most w at i, and divides v.
  contained_same : (u w : Monomial) → Completed n G u → JanetDivisor K w u → (i : ℕ) → SameBefore i w u
  contained_same u w r d zero = before_zero w u
  contained_same u w r d (suc i) =
      let ih : SameBefore i w u = contained_same u w r d i in
      before_suc i w u ih (by_cases (dec_lt (w ! i) (u ! i)) (λ l.
      let h : Enters n G u i = r.each i (omega arith) in
      let v : Monomial = h.from in
      let p : Monomial = times v i h.by in
      let x = cover z c p (length_times v i h.by ∙ h.size) (s.into p (length_times v i h.by ∙ h.size) h.enters) in
      let y : Monomial = row_at K x.0 in
      let k : JanetDivisor K y p = at_divisor x.1 in
      let same : SameBefore i y w = same_prefix i k d (λ j t. times_other v i h.by j (omega arith) ∙ h.before j t) in
      let low : y ! i ≤ w ! i = d.cone.only i l y (record { member = k.member; same = same }) in
      absurd (h.outside (s.back v h.size (record {
        row = y;
        member = k.member;
        divides = at_or_other (λ j. y ! j ≤ v ! j) i (omega (arith, h.less)) (λ j e. omega (arith, k.cone.divides j, times_other v i h.by j e));
      }))))
      (λ g. omega (arith, d.cone.divides i)))

  pub completed_contained : (u : Monomial) → Completed n G u → u ∈ K
  completed_contained u r =
      let x = cover z c u r.size (s.into u r.size r.inside) in
      let w : Monomial = row_at K x.0 in
      let d : JanetDivisor K w u = at_divisor x.1 in
      let e : w ≡ u = same_all w u (z w d.member ∙ sym r.size) (λ i. contained_same u w r d (suc i) i (omega arith)) in
      Memᴰ.cast (sym e) d.member
