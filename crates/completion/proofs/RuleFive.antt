-- Laws of rule 5's table: its tests, that `completed` is it, and that there is one only.
--
--   tests_enters, tests_completed   the tests agree with rule 5
--   candidate_before, -here, -behind   the exponents of the candidate
--   completed_within       no exponent of a row of the completed table is above the largest given one
--   largest_most           the largest exponents are at most what each given exponent is at most
--   completed_table        `completed n G` is the completed table of the ideal of G
--   completed_most         where no given exponent is above b, none of the completed table is
--   completed_unique       there is one completed table of an ideal
--   enters_ideal, completed_ideal, table_ideal, completed_same_ideal   only the ideal counts
use mathlib.Core.Path.{◌≡◌, refl, sym, ap, ◌∙◌}
use mathlib.Core.Bool.{Bool}
use mathlib.Core.List.Memᴰ
use mathlib.Core.List.{List, [], ◌∷◌, ◌++◌}
use mathlib.Core.Logic.{⊎_elim, by_cases}
use Prim.Native.Nat.{ℕ, zero, suc, ◌+◌, ◌-◌, ◌≤◌, ◌<◌}
use native.Mathlib.Nat.{not-suc-le-zero, le_of_suc-le-suc, le-max_left, le-max_right, max-le, suc_inj}
use native.Mathlib.Decide.{dec_le}
use native.Mathlib.Omega.{arith}
use lib.ListN.{length, get_or, take, drop, replicate, length-append, length-drop, length-replicate, get_or-append}
use lib.Seq.{length-take-le, get_or-take, get_or-drop, get_or-append-add, get_or_at}
use Rattle.checks.specs.Tests.{Tests}
use Rattle.checks.proofs.TestLaws.{tests_as, tests_and, tests_not, tests_implies, tests_lt, tests_eq, tests_each, tests_any, keep_in, keep_make}
use Rattle.terms.specs.Monomials.{Monomial, Table, ◌!◌, ◌∈◌, OfSize, SameBefore, AtMost, times}
use Rattle.terms.specs.Ideal.{Divides, Inside, SameIdeal}
use Rattle.terms.proofs.MonomialLaws.{within, positive, most_by, most_tail, three, at_or_other, length_times, times_same, times_other}
use Rattle.terms.proofs.IdealLaws.{tests_divides, tests_inside, inside_up, same_ideal_sym}
use Rattle.terms.proofs.OrderLaws.{ascending_unique}
use Rattle.terms.proofs.RowsLaws.{zeros_at}
use Rattle.completion.specs.Blocks.{box}
use Rattle.completion.specs.Completed.{Enters, Completed, CompletedTable, candidate, enters_test, completed_test, joined, largest, completed}
use Rattle.completion.proofs.BlockLaws.{ascending_keep, box_member, box_ascending}

-- ---- the candidate

pub candidate_before : (u : Monomial) (i : ℕ) (g : Monomial) → i ≤ length u → SameBefore i (candidate u i g) u
unfolding candidate
candidate_before u zero g l j h = absurd (not-suc-le-zero h)
candidate_before u (suc i) g l zero h = refl
candidate_before u (suc i) g l (suc j) h =
    let k : j < i = le_of_suc-le-suc h in
    let t : length (take i u) ≡ i = length-take-le i u (omega arith) in
    get_or-append (take i u) ((u ! suc i - 1) ∷ drop (suc i) g) 0 j (omega arith) ∙ get_or-take i u j 0 k

pub candidate_here : (u : Monomial) (i : ℕ) (g : Monomial) → i ≤ length u → 0 < i → candidate u i g ! i ≡ u ! i - 1
unfolding candidate
candidate_here u zero g l p = absurd (not-suc-le-zero p)
candidate_here u (suc i) g l p = get_or_at (take i u) (u ! suc i - 1) (drop (suc i) g) 0 i (length-take-le i u (omega arith))

pub candidate_behind : (u : Monomial) (i : ℕ) (g : Monomial) → i ≤ length u → (j : ℕ) → i < j → candidate u i g ! j ≡ g ! j
unfolding candidate
candidate_behind u zero g l j h = refl
candidate_behind u (suc i) g l zero h = absurd (not-suc-le-zero h)
candidate_behind u (suc i) g l (suc j) h =
    let t : length (take i u) ≡ i = length-take-le i u (omega arith) in
    let d : List ℕ = drop (suc i) g in
    let a : ℕ = u ! suc i - 1 in
    let e : j ≡ length (take i u) + suc (j - suc i) = omega arith in
    let f : suc i + (j - suc i) ≡ j = omega arith in
    ap (λ (k : ℕ). get_or (take i u ++ (a ∷ d)) k 0) e
    ∙ get_or-append-add (take i u) (a ∷ d) (suc (j - suc i)) 0
    ∙ get_or-drop (suc i) g (j - suc i) 0
    ∙ ap (λ (k : ℕ). get_or g k 0) f

pub candidate_size : (u : Monomial) (i : ℕ) (g : Monomial) → i ≤ length u → 0 < i → length u ≡ length g → length (candidate u i g) ≡ length u
unfolding candidate
candidate_size u zero g l p e = absurd (not-suc-le-zero p)
candidate_size u (suc i) g l p e =
    let t : length (take i u) ≡ i = length-take-le i u (omega arith) in
    length-append (take i u) ((u ! suc i - 1) ∷ drop (suc i) g) ∙ omega (arith, length-drop (suc i) g)

-- ---- the tests

module _ (n : ℕ) (G : Table) (z : OfSize n G) where
  module _ (u : Monomial) (i : ℕ) (size : length u ≡ n) (p : 0 < u ! i) where
    -- g gives the outside monomial
    record Shows (g : Monomial) : Type 0 where
      divides : Divides g (times (candidate u i g) i (g ! i))
      outside : Inside G (candidate u i g) → ⊥

    shows_enters : (g : Monomial) → g ∈ G → Shows g → Enters n G u i
    shows_enters g m s =
        let l : i ≤ length u = within u i p in
        let c : 0 < i = positive u i p in
        let e : length u ≡ length g = size ∙ sym (z g m) in
        record {
          from = candidate u i g;
          size = candidate_size u i g l c e ∙ size;
          outside = s.outside;
          before = candidate_before u i g l;
          less = omega (arith, candidate_here u i g l c);
          by = g ! i;
          enters = record { row = g; member = m; divides = s.divides };
        }

    -- where v is outside and enters by g, v may end as g does: what it has more behind i is not needed
    enters_shows : (h : Enters n G u i) → Shows h.enters.row
    enters_shows h =
        let v : Monomial = h.from in
        let g : Monomial = h.enters.row in
        let c : Monomial = candidate u i g in
        let l : i ≤ length u = within u i p in
        let q : 0 < i = positive u i p in
        let e : length u ≡ length g = size ∙ sym (z g h.enters.member) in
        let k : length c ≡ length u = candidate_size u i g l q e in
        record {
          divides = three (λ j. g ! j ≤ times c i (g ! i) ! j) i
              (λ j t. omega (
                arith,
                times_other c i (g ! i) j (omega arith),
                candidate_before u i g l j t,
                h.before j t,
                h.enters.divides j,
                times_other v i h.by j (omega arith),
              ))
              (omega (arith, times_same c i (g ! i) q (omega arith)))
              (λ j t. omega (arith, times_other c i (g ! i) j (omega arith), candidate_behind u i g l j t));
          outside = λ o. h.outside (inside_up o (three (λ j. c ! j ≤ v ! j) i
              (λ j t. omega (arith, candidate_before u i g l j t, h.before j t))
              (omega (arith, candidate_here u i g l q, h.less))
              (λ j t. omega (arith, candidate_behind u i g l j t, h.enters.divides j, times_other v i h.by j (omega arith)))));
        }

    pub tests_enters : Tests (enters_test G u i) (Enters n G u i)
    unfolding enters_test
    tests_enters = tests_as (tests_any G (λ (g : Monomial) m. tests_and (tests_divides g (times (candidate u i g) i (g ! i)))
        (λ d. tests_not (tests_inside G (candidate u i g)))))
        (λ r. shows_enters r.0 r.1 (record { divides = r.2.0; outside = r.2.1 }))
        (λ (h : Enters n G u i). let s = enters_shows h in (h.enters.row, h.enters.member, (s.divides, s.outside)))

  pub tests_completed : (u : Monomial) → Tests (completed_test n G u) (Completed n G u)
  unfolding completed_test
  tests_completed u = tests_as
      (tests_and (tests_eq (length u) n) (λ e. tests_and (tests_inside G u) (λ h. tests_each n (λ (i : ℕ).
      tests_implies (tests_lt 0 (u ! i)) (λ p. tests_enters u i e p)))))
      (λ r. record { size = r.0; inside = r.1.0; each = λ i p. r.1.1 i (positive u i p) (omega (arith, within u i p, r.0)) p })
      (λ (c : Completed n G u). (c.size, (c.inside, λ i q l p. c.each i p)))

-- ---- the box of the largest exponents

joined_size : (u v : Monomial) → length u ≡ length v → length (joined u v) ≡ length u
unfolding joined
joined_size [] v e = sym e
joined_size (a ∷ u) [] e = refl
joined_size (a ∷ u) (b ∷ v) e = ap suc (joined_size u v (suc_inj e))

joined_above : (u v : Monomial) (i : ℕ) → (u ! i ≤ joined u v ! i) × (v ! i ≤ joined u v ! i)
unfolding joined
joined_above u v zero = (omega arith, omega arith)
joined_above [] v (suc i) = (omega arith, omega arith)
joined_above (a ∷ u) [] (suc i) = (omega arith, omega arith)
joined_above (a ∷ u) (b ∷ v) (suc zero) = (le-max_left a b, le-max_right a b)
joined_above (a ∷ u) (b ∷ v) (suc (suc i)) = joined_above u v (suc i)

largest_size : (n : ℕ) (G : Table) → OfSize n G → length (largest n G) ≡ n
unfolding largest
largest_size n [] z = length-replicate n 0
largest_size n (u ∷ G) z =
    let e : length u ≡ n = z u (Memᴰ.head refl) in
    joined_size u (largest n G) (e ∙ sym (largest_size n G (λ v m. z v (Memᴰ.tail m)))) ∙ e

pub largest_above : (n : ℕ) (G : Table) (u : Monomial) → u ∈ G → (i : ℕ) → u ! i ≤ largest n G ! i
unfolding largest
largest_above n [] u m i = absurd (Memᴰ.not-nil m)
largest_above n (v ∷ G) u m i = ⊎_elim
    (λ e. omega (arith, (joined_above v (largest n G) i).0, ap (λ (w : Monomial). w ! i) e))
    (λ k. omega (arith, (joined_above v (largest n G) i).1, largest_above n G u k i))
    (Memᴰ.cases_cons m)

joined_most : (b : ℕ) (u v : Monomial) → AtMost b u → AtMost b v → AtMost b (joined u v)
unfolding joined
joined_most b u v f g zero = omega arith
joined_most b [] v f g (suc i) = g (suc i)
joined_most b (a ∷ u) [] f g (suc i) = f (suc i)
joined_most b (a ∷ u) (d ∷ v) f g (suc zero) =
    let x : a ≤ b = f 1 in
    let y : d ≤ b = g 1 in
    max-le x y
joined_most b (a ∷ u) (d ∷ v) f g (suc (suc i)) = joined_most b u v (most_tail b a u f) (most_tail b d v g) (suc i)

pub largest_most : (b n : ℕ) (G : Table) → ((u : Monomial) → u ∈ G → AtMost b u) → AtMost b (largest n G)
unfolding largest
largest_most b n [] f = most_by b (replicate n 0) (λ i. omega (arith, zeros_at n i))
largest_most b n (u ∷ G) f = joined_most b u (largest n G) (f u (Memᴰ.head refl)) (largest_most b n G (λ v m. f v (Memᴰ.tail m)))

-- Were u above the largest given exponent at i, the outside monomial would be at least that there, so raising it there would not let it enter.
pub completed_within : (n : ℕ) (G : Table) (u : Monomial) → Completed n G u → (i : ℕ) → u ! i ≤ largest n G ! i
completed_within n G u c i = by_cases (dec_le (u ! i) (largest n G ! i)) (λ l. l) (λ l.
    let h = c.each i (omega arith) in
    let v : Monomial = h.from in
    let g : Monomial = h.enters.row in
    absurd (h.outside (record {
      row = g;
      member = h.enters.member;
      divides = at_or_other (λ j. g ! j ≤ v ! j) i
          (omega (arith, h.less, largest_above n G g h.enters.member i))
          (λ j e. omega (arith, h.enters.divides j, times_other v i h.by j e));
    })))

pub completed_table : (n : ℕ) (G : Table) → OfSize n G → CompletedTable n G (completed n G)
unfolding completed
completed_table n G z =
    let f : Monomial → Bool = λ u. completed_test n G u in
    let b : Table = box (largest n G) in
    record {
      only = λ u m. (tests_completed n G z u).sound (keep_in f b u m).1;
      all = λ u c. keep_make f b u (box_member (largest n G) u (c.size ∙ sym (largest_size n G z)) (completed_within n G u c))
          ((tests_completed n G z u).complete c);
      ascends = ascending_keep f b (box_ascending (largest n G));
    }

-- each exponent is at most the largest given one
pub completed_most : (b n : ℕ) (G : Table) → OfSize n G → ((u : Monomial) → u ∈ G → AtMost b u) → (u : Monomial) → u ∈ completed n G → AtMost b u
completed_most b n G z f u m i = omega (arith, completed_within n G u ((completed_table n G z).only u m) i, largest_most b n G f i)

-- ---- one table, and only the ideal counts

pub completed_unique : {n : ℕ} {G H K : Table} → CompletedTable n G H → CompletedTable n G K → H ≡ K
completed_unique {H = H} {K = K} h k = ascending_unique H K h.ascends k.ascends (λ u m. k.all u (h.only u m)) (λ u m. h.all u (k.only u m))

pub enters_ideal : {n : ℕ} {G H : Table} {u : Monomial} {i : ℕ} → SameIdeal n G H → Enters n G u i → Enters n H u i
enters_ideal {i = i} s h = record {
  from = h.from;
  size = h.size;
  outside = λ o. h.outside (s.back h.from h.size o);
  before = h.before;
  less = h.less;
  by = h.by;
  enters = s.into (times h.from i h.by) (length_times h.from i h.by ∙ h.size) h.enters;
}

pub completed_ideal : {n : ℕ} {G H : Table} {u : Monomial} → SameIdeal n G H → Completed n G u → Completed n H u
completed_ideal {u = u} s c = record { size = c.size; inside = s.into u c.size c.inside; each = λ i p. enters_ideal s (c.each i p) }

pub table_ideal : {n : ℕ} {G H K : Table} → SameIdeal n G H → CompletedTable n G K → CompletedTable n H K
table_ideal s t = record {
  only = λ u m. completed_ideal s (t.only u m);
  all = λ u c. t.all u (completed_ideal (same_ideal_sym s) c);
  ascends = t.ascends;
}

-- tables with the same ideal have the same completed table
pub completed_same_ideal : {n : ℕ} {G H K L : Table} → SameIdeal n G H → CompletedTable n G K → CompletedTable n H L → K ≡ L
completed_same_ideal s k l = completed_unique (table_ideal s k) l
