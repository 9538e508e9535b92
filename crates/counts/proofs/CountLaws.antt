-- Laws of the count (rule 7).
--
--   up_to_only       `monomials_up_to n s` holds monomials of n exponents and degree at most s, and no other
--   up_to_once       it holds each of them exactly once
--   count_outside    `count_at n G s` is rule 7's number
--   outside_unique   there is one such number
--   up_to_length     they are C(n + s, n)
--   shares_inside    for any marks whose cones are disjoint by row number and cover the ideal, the sum of the cones' shares is the number of
--                    monomials of the ideal up to s
--   count_formula    with the count they make C(n + s, n)
--   count_zeros      with a row of zeros every count is 0
use mathlib.Core.Path.{◌≡◌, refl, sym, ap, ap₂, ◌∙◌, subst}
use mathlib.Core.Bool.{Bool, true, false, not}
use mathlib.Core.List.Memᴰ
use mathlib.Core.List.{List, [], ◌∷◌, map, Memᴰ}
use mathlib.Core.Logic.{⊎_elim, by_cases}
use Prim.Native.Nat.{ℕ, zero, suc, ◌+◌, ◌-◌, ◌≤◌, ◌<◌}
use native.Mathlib.Nat.{not-suc-le-zero, le_of_suc-le-suc, add_comm}
use native.Mathlib.Decide.{dec_lt}
use native.Mathlib.Omega.{arith}
use lib.Dec.{T}
use lib.ListN.{length}
use Rattle.binomial.specs.Choose.{choose}
use Rattle.binomial.proofs.ChooseLaws.{choose_none}
use Rattle.checks.specs.Tests.{Tests, any, keep}
use Rattle.checks.proofs.TestLaws.{keep_in, tests_not, tests_as, tests_and, tests_eq, tests_same, tests_any}
use Rattle.terms.specs.Monomials.{Monomial, Table, ◌!◌, ◌∈◌, row_at, OfSize, degree}
use Rattle.terms.specs.Ideal.{Inside, inside_test}
use Rattle.terms.proofs.MonomialLaws.{within, positive, same_all}
use Rattle.terms.proofs.IdealLaws.{tests_inside, inside_zeros}
use Rattle.terms.proofs.RowsLaws.{member_at}
use Rattle.division.proofs.Facade.{Division, Cone, Disjoint, Covers, marks_count}
use Rattle.counts.specs.Counts.{sum, raised, extended, monomials_up_to, same_test, occurrences, CountsOutside, count_at, share}
use Rattle.counts.proofs.SumLaws.{bit, bit_false, sum_append, sum_zero, sum_same, sum_map, sum_swap, length_keep, sum_keep, keep_or_not, one_at_most}
use Rattle.counts.proofs.ShareLaws.{size, share_size_lem, share_inside, size_pascal, size_first, cone_test, mark_at, weight, tests_cone, cone_count, listed}
use Rattle.counts.proofs.ShareLaws.{length_listed, listed_at, weight_listed}

-- ---- what the list of monomials holds

-- what `extended` makes of monomials with a property P at each degree
extended_all : (f : ℕ → List Monomial) (P Q : ℕ → Monomial → Type 0) → ((s : ℕ) (w : Monomial) → P s w → Q s (0 ∷ w))
    → ((s : ℕ) (w : Monomial) → Q s w → Q (suc s) (raised w)) → ((s : ℕ) (q : Monomial) → Memᴰ q (f s) → P s q) → (s : ℕ) (q : Monomial)
    → Memᴰ q (extended f s) → Q s q
unfolding extended
extended_all f P Q put up h zero q m =
    let r = Memᴰ.of_map (λ (w : Monomial). 0 ∷ w) (f zero) m in
    subst (Q zero) r.2 (put zero r.0 (h zero r.0 r.1))
extended_all f P Q put up h (suc s) q m = ⊎_elim
    (λ k. let r = Memᴰ.of_map (λ (w : Monomial). 0 ∷ w) (f (suc s)) k in subst (Q (suc s)) r.2 (put (suc s) r.0 (h (suc s) r.0 r.1)))
    (λ k. let r = Memᴰ.of_map raised (extended f s) k in subst (Q (suc s)) r.2 (up s r.0 (extended_all f P Q put up h s r.0 r.1)))
    (Memᴰ.append_cases (map (λ w. 0 ∷ w) (f (suc s))) m)

abbrev UpTo : ℕ → ℕ → Monomial → Type 0
UpTo n s q = (length q ≡ n) × (degree q ≤ s)

raised_up_to : (n s : ℕ) (w : Monomial) → UpTo n s w → UpTo n (suc s) (raised w)
unfolding raised degree
raised_up_to n s [] p = (p.0, omega arith)
raised_up_to n s (a ∷ w) p = (p.0, omega (arith, p.1))

first_up_to : (n s : ℕ) (w : Monomial) → UpTo n s w → UpTo (suc n) s (0 ∷ w)
unfolding degree
first_up_to n s w p = (ap suc p.0, omega (arith, p.1))

no_degree : (q : Monomial) → q ≡ [] → degree q ≡ 0
unfolding degree
no_degree q e = ap degree e

pub up_to_only : (n s : ℕ) (q : Monomial) → Memᴰ q (monomials_up_to n s) → (length q ≡ n) × (degree q ≤ s)
unfolding monomials_up_to
up_to_only zero s q m = let e = Memᴰ.eq_of_singleton m in (ap length e, omega (arith, no_degree q e))
up_to_only (suc n) s q m = extended_all (monomials_up_to n) (UpTo n) (UpTo (suc n)) (first_up_to n) (raised_up_to (suc n)) (up_to_only n) s q m

-- ---- each once: a cone without marks holds its row alone

unmarked : Monomial → List Bool
unmarked [] = []
unmarked (a ∷ u) = false ∷ unmarked u

length_unmarked : (u : Monomial) → length (unmarked u) ≡ length u
unfolding unmarked
length_unmarked [] = refl
length_unmarked (a ∷ u) = ap suc (length_unmarked u)

weight_unmarked : (u : Monomial) → weight (unmarked u) ≡ 0
unfolding unmarked weight
weight_unmarked [] = refl
weight_unmarked (a ∷ u) = omega (arith, weight_unmarked u)

unmarked_at : (u : Monomial) (i : ℕ) → 0 < i → i ≤ length u → T (mark_at (unmarked u) i) → ⊥
unfolding unmarked
unmarked_at u zero p l t = not-suc-le-zero p
unmarked_at [] (suc i) p l t = not-suc-le-zero l
unmarked_at (a ∷ u) (suc zero) p l t = t
unmarked_at (a ∷ u) (suc (suc i)) p l t = unmarked_at u (suc i) (omega arith) (le_of_suc-le-suc l) t

tests_unmarked : (u q : Monomial) → length u ≡ length q → Tests (cone_test (unmarked u) u q) (u ≡ q)
tests_unmarked u q e = tests_as (tests_cone (unmarked u) u q (length_unmarked u) (length_unmarked u ∙ e))
    (λ p. same_all u q e (λ i. by_cases (dec_lt (u ! i) (q ! i))
    (λ h. absurd (unmarked_at u i (positive q i (omega arith)) (omega (arith, within q i (omega arith))) ((p i).1 h)))
    (λ h. omega (arith, (p i).0))))
    (λ r i. let x : u ! i ≡ q ! i = ap (λ (w : Monomial). w ! i) r in (omega arith, λ h. absurd (omega arith)))

cons_same : (a b : ℕ) (u v : Monomial) → (a ≡ b) × (u ≡ v) → a ∷ u ≡ b ∷ v
cons_same a b u v p = ap₂ (λ (x : ℕ) (w : Monomial). x ∷ w) p.0 p.1

pub tests_same_test : (u v : Monomial) → Tests (same_test u v) (u ≡ v)
unfolding same_test
tests_same_test [] [] = record { sound = λ t. refl; complete = λ e. tt }
tests_same_test [] (b ∷ v) = record { sound = λ t. absurd t; complete = λ e. absurd (omega (arith, ap length e)) }
tests_same_test (a ∷ u) [] = record { sound = λ t. absurd t; complete = λ e. absurd (omega (arith, ap length e)) }
tests_same_test (a ∷ u) (b ∷ v) = tests_as (tests_and (tests_eq a b) (λ h. tests_same_test u v)) (cons_same a b u v) (λ e. (cc, cc))

-- The share of a row of degree not above s without marks is 1.
pub up_to_once : (n s : ℕ) (u : Monomial) → length u ≡ n → degree u ≤ s → occurrences u (monomials_up_to n s) ≡ 1
unfolding occurrences
up_to_once n s u e h =
    length_keep (same_test u) (monomials_up_to n s)
    ∙ sum_same _ _ (monomials_up_to n s) (λ q m.
    ap bit (tests_same (same_test u q) (cone_test (unmarked u) u q) (tests_same_test u q) (tests_unmarked u q (e ∙ sym (up_to_only n s q m).0))))
    ∙ subst (λ (k : ℕ). sum (λ q. bit (cone_test (unmarked u) u q)) (monomials_up_to k s) ≡ size s (degree u) (weight (unmarked u))) e
    (cone_count (unmarked u) u (length_unmarked u) s)
    ∙ ap (size s (degree u)) (weight_unmarked u)
    ∙ sym (share_size_lem s (degree u) 0)
    ∙ share_inside s (degree u) 0 h
    ∙ choose_none (s - degree u + 0)

-- ---- how many there are

length_ones : (l : List Monomial) → length l ≡ sum (λ q. 1) l
unfolding sum
length_ones [] = refl
length_ones (q ∷ l) = omega (arith, length_ones l)

-- ---- the count is rule 7's

-- what f keeps of a list has q as often as the list, if f keeps q: whatever it drops is not q
kept_occurrences : (f : Monomial → Bool) (q : Monomial) → T (f q) → (l : List Monomial) → occurrences q (keep f l) ≡ occurrences q l
unfolding occurrences
kept_occurrences f q t l =
    length_keep (same_test q) (keep f l)
    ∙ sum_keep (λ p. bit (same_test q p)) f l (λ p n. bit_false (same_test q p) (λ e. n (subst (λ (x : Monomial). T (f x)) ((tests_same_test q p).sound e) t)))
    ∙ sym (length_keep (same_test q) l)

pub count_outside : (n : ℕ) (G : Table) (s : ℕ) → CountsOutside n G s (count_at n G s)
unfolding count_at
count_outside n G s = record {
  list = keep (λ q. not (inside_test G q)) (monomials_up_to n s);
  size = refl;
  only = λ q m.
      let k = keep_in (λ q. not (inside_test G q)) (monomials_up_to n s) q m in
      let u = up_to_only n s q k.0 in
      (u.0, u.1, (tests_not (tests_inside G q)).sound k.1);
  once = λ q e h o.
      kept_occurrences (λ q. not (inside_test G q)) q ((tests_not (tests_inside G q)).complete o) (monomials_up_to n s) ∙ up_to_once n s q e h;
}

-- Rule 7 allows one number: of two lists that have each of the monomials once, each element of the one occurs once in the other, so both are as long.
pub outside_unique : {n : ℕ} {G : Table} {s k m : ℕ} → CountsOutside n G s k → CountsOutside n G s m → k ≡ m
unfolding occurrences
outside_unique a b =
    sym a.size ∙ length_ones a.list
    ∙ sum_same (λ q. 1) (λ q. sum (λ p. bit (same_test q p)) b.list) a.list (λ q i.
    let o = a.only q i in sym (sym (length_keep (same_test q) b.list) ∙ b.once q o.0 o.1 o.2))
    ∙ sum_swap (λ q p. bit (same_test q p)) a.list b.list
    ∙ sum_same (λ p. sum (λ q. bit (same_test q p)) a.list) (λ p. 1) b.list (λ p i.
    let o = b.only p i in
    sum_same (λ q. bit (same_test q p)) (λ q. bit (same_test p q)) a.list (λ q j. ap bit (swapped q p))
    ∙ sym (length_keep (same_test p) a.list) ∙ a.once p o.0 o.1 o.2)
    ∙ sym (length_ones b.list) ∙ b.size
  where
    swapped : (q p : Monomial) → same_test q p ≡ same_test p q
    swapped q p = tests_same (same_test q p) (same_test p q) (tests_same_test q p) (tests_as (tests_same_test p q) sym sym)

extended_ones : (f : ℕ → List Monomial) (n : ℕ) → ((s : ℕ) → sum (λ q. 1) (f s) ≡ size s 0 n) → (s : ℕ) → sum (λ q. 1) (extended f s) ≡ size s 0 (suc n)
unfolding extended
extended_ones f n h zero = sum_map (λ q. 1) (λ w. 0 ∷ w) (f zero) ∙ h zero ∙ size_first 0 n
extended_ones f n h (suc s) =
    sum_append (λ q. 1) (map (λ w. 0 ∷ w) (f (suc s))) (map raised (extended f s))
    ∙ ap₂ (λ (x y : ℕ). x + y) (sum_map (λ q. 1) (λ w. 0 ∷ w) (f (suc s)) ∙ h (suc s)) (sum_map (λ q. 1) raised (extended f s) ∙ extended_ones f n h s)
    ∙ size_pascal s 0 n

up_to_ones : (n s : ℕ) → sum (λ q. 1) (monomials_up_to n s) ≡ choose (s + n) n
unfolding monomials_up_to size sum choose
up_to_ones zero s = refl
up_to_ones (suc n) s = extended_ones (monomials_up_to n) n (up_to_ones n) s

pub up_to_length : (n s : ℕ) → length (monomials_up_to n s) ≡ choose (n + s) n
up_to_length n s = length_ones (monomials_up_to n s) ∙ up_to_ones n s ∙ ap (λ (x : ℕ). choose x n) (add_comm s n)

-- ---- the count by cones, for any marks

-- M are the marks of a table, `marked u i` the test of the mark of row u at variable i. A monomial of the ideal is in the cone of one row
-- number and no more, any other in none. So the monomials of the ideal up to s, counted one by one, are those of all cones, and those of
-- one cone are its share.
module _ (M : Division) (marked : Monomial → ℕ → Bool) (n : ℕ) (G : Table) (z : OfSize n G)
    (agrees : (u : Monomial) → u ∈ G → (i : ℕ) → 0 < i → i ≤ n → Tests (marked u i) (M G u i)) where
  abbrev pub share_of : ℕ → Monomial → ℕ
  share_of s u = share s (degree u) (marks_count n (marked u))

  abbrev cone_of : Monomial → Monomial → Bool
  cone_of q u = cone_test (listed n (marked u)) u q

  tests_cone_of : (q : Monomial) → length q ≡ n → (u : Monomial) → u ∈ G → Tests (cone_of q u) (Cone (M G u) u q)
  tests_cone_of q e u m =
      let l : length (listed n (marked u)) ≡ n = length_listed n (marked u) in
      let at : (i : ℕ) → u ! i < q ! i → (0 < i) × (i ≤ n) = λ i h. (positive q i (omega arith), omega (arith, within q i (omega arith))) in
      tests_as (tests_cone (listed n (marked u)) u q (l ∙ sym (z u m)) (l ∙ sym e))
      (λ p. record {
        divides = λ i. (p i).0;
        only = λ i h. (agrees u m i (at i h).0 (at i h).1).sound (subst T (listed_at n (marked u) i (at i h).0 (at i h).1) ((p i).1 h));
      })
      (λ (d : Cone (M G u) u q) i. (
        d.divides i,
        λ h.
            subst T (sym (listed_at n (marked u) i (at i h).0 (at i h).1)) ((agrees u m i (at i h).0 (at i h).1).complete (d.only i h)),
      ))

  module _ (disjoint : Disjoint M G) (covers : Covers M n G) (s : ℕ) where
    cones_at : (q : Monomial) → length q ≡ n → bit (inside_test G q) ≡ sum (λ u. bit (cone_of q u)) G
    cones_at q e =
        ap bit (tests_same (inside_test G q) (any (cone_of q) G) (tests_inside G q) (tests_as (tests_any G (tests_cone_of q e))
        (λ r. record { row = r.0; member = r.1; divides = r.2.divides })
        (λ (h : Inside G q). let d = covers q e h in (row_at G d.0, member_at G [] d.0 d.1.within, d.1.cone))))
        ∙ sym (one_at_most (cone_of q) [] G (λ r t p k f x y. disjoint r t f q
        (record { within = p; cone = (tests_cone_of q e (row_at G r) (member_at G [] r p)).sound x })
        (record { within = k; cone = (tests_cone_of q e (row_at G t) (member_at G [] t k)).sound y })))

    -- the monomials up to s in the cone of a row
    share_of_lem : (u : Monomial) → u ∈ G → sum (λ q. bit (cone_of q u)) (monomials_up_to n s) ≡ share_of s u
    share_of_lem u m =
        subst (λ (k : ℕ). sum (λ q. bit (cone_of q u)) (monomials_up_to k s) ≡ size s (degree u) (weight (listed n (marked u)))) (z u m)
        (cone_count (listed n (marked u)) u (length_listed n (marked u) ∙ sym (z u m)) s)
        ∙ ap (size s (degree u)) (weight_listed n (marked u))
        ∙ sym (share_size_lem s (degree u) (marks_count n (marked u)))

    pub shares_inside : sum (share_of s) G ≡ length (keep (inside_test G) (monomials_up_to n s))
    shares_inside = sym (
        length_keep (inside_test G) (monomials_up_to n s)
        ∙ sum_same _ _ (monomials_up_to n s) (λ q m. cones_at q (up_to_only n s q m).0)
        ∙ sum_swap (λ q u. bit (cone_of q u)) (monomials_up_to n s) G
        ∙ sum_same _ _ G share_of_lem)

    pub count_formula : count_at n G s + sum (share_of s) G ≡ choose (n + s) n
    unfolding count_at
    count_formula =
        ap (λ (x : ℕ). length (keep (λ q. not (inside_test G q)) (monomials_up_to n s)) + x) shares_inside
        ∙ keep_or_not (inside_test G) (monomials_up_to n s)
        ∙ up_to_length n s

-- ---- a row of zeros

nothing_kept : (f : Monomial → Bool) (l : List Monomial) → ((q : Monomial) → T (f q) → ⊥) → length (keep f l) ≡ 0
nothing_kept f l h = length_keep f l ∙ sum_same _ _ l (λ q m. bit_false (f q) (h q)) ∙ sum_zero l

not_both : (b : Bool) → T b → T (not b) → ⊥
not_both true t s = s
not_both false t s = t

pub count_zeros : (n : ℕ) (G : Table) (u : Monomial) → u ∈ G → ((i : ℕ) → u ! i ≡ 0) → (s : ℕ) → count_at n G s ≡ 0
unfolding count_at
count_zeros n G u m h s = nothing_kept (λ q. not (inside_test G q)) (monomials_up_to n s)
    (λ q t. not_both (inside_test G q) ((tests_inside G q).complete (inside_zeros G u q m h)) t)
