-- Laws of rule 6: the descent finds the Janet divisor exactly where there is one, in few steps.
--
--   descent_finds    what is found is a Janet divisor, and nothing is found where there is none
--   descent_scan     on distinct rows it is what a scan of all rows finds
--   descent_steps    the steps are at most the degree of q and the number of variables
--   descent_ended    where a row is found the descent ended at no variable, and else at one of 1 to n
--   covered_found    a monomial has a Janet divisor exactly where the descent finds a row
--   stepped_on_in, stepped_on_make, stepped_on_rising   the exponents stepped on: those of the group that do not exceed q's, ascending
--   scan_finds       a scan gives the first Janet divisor, in a table in any order
--   scan_stops, scan_goes, scan_ends   the three cases of a scan at row r
--   answers_first    a first divisor is a divisor
--   first_unique, answers_unique   there is one first divisor, or none; and where cones are disjoint one divisor, or none
use mathlib.Core.Path.{◌≡◌, refl, sym, ap, ◌∙◌, subst}
use mathlib.Core.Bool.{Bool, true, false}
use mathlib.Core.List.{List, [], ◌∷◌, map, Memᴰ}
use mathlib.Core.Option.{Option, none, some}
use mathlib.Core.Logic.{◌⊎◌, inl, inr, ⊎_elim, by_cases}
use Prim.Native.Nat.{ℕ, zero, suc, ◌+◌, ◌≤◌, ◌<◌}
use native.Mathlib.Nat.{not-suc-le-zero}
use native.Mathlib.Decide.{dec_lt}
use native.Mathlib.Omega.{arith}
use lib.Dec.{T, leb, eqb}
use lib.ListN.{length, drop}
use lib.Seq.{drop-cons, drop-length}
use Rattle.checks.specs.Tests.{Tests, pick, keep}
use Rattle.checks.proofs.TestLaws.{tests_same, true_tests, false_tests, keep_in, keep_make, tests_le, tests_eq, tests_or, tests_all}
use Rattle.terms.specs.Monomials.{Monomial, Table, ◌!◌, row_at, OfSize, Distinct, SameBefore, degree}
use Rattle.terms.proofs.MonomialLaws.{beyond, within, below_suc, before_suc, before_first}
use Rattle.terms.proofs.RowsLaws.{member_at, member_index}
use Rattle.division.specs.Cones.{Division, DivisorAt, Disjoint}
use Rattle.division.specs.Janet.{InGroup, Multiplicative, JanetDivisor, janet_test, covered_test}
use Rattle.division.specs.Scan.{Answers, AnswersFirst, scan_from, scan, found_test}
use Rattle.division.specs.Descent.{Descent, EndedAt, first, last, numbers_from, exponents, stepped_on, goes_on, onward, descend, descent}
use Rattle.division.proofs.JanetLaws.{tests_janet, tests_covered, largest, divisor_at, at_divisor, at_most_one, janet_disjoint}
use Rattle.division.proofs.NumberLaws.{Rising, LastIs, distinct_in, distinct_make, distinct_rising, keep_rising, last_is, rising_length, map_in}
use Rattle.division.proofs.NumberLaws.{map_make, numbers_in, numbers_make}

-- ---- the exponents stepped on

module _ (G : Table) (q : Monomial) (i : ℕ) (g : List ℕ) where
  pub exponents_in : (e : ℕ) → Memᴰ e (exponents G i g) → (r : ℕ) × Memᴰ r g × (e ≡ row_at G r ! i)
  unfolding exponents
  exponents_in e m = map_in (λ (r : ℕ). row_at G r ! i) g e (distinct_in (map (λ (r : ℕ). row_at G r ! i) g) e m)

  pub exponents_make : (r : ℕ) → Memᴰ r g → Memᴰ (row_at G r ! i) (exponents G i g)
  unfolding exponents
  exponents_make r m = distinct_make (map (λ (s : ℕ). row_at G s ! i) g) (row_at G r ! i) (map_make (λ (s : ℕ). row_at G s ! i) g r m)

  pub exponents_rising : Rising (exponents G i g)
  unfolding exponents
  exponents_rising = distinct_rising (map (λ (r : ℕ). row_at G r ! i) g)

  pub stepped_on_in : (e : ℕ) → Memᴰ e (stepped_on G q i g) → Memᴰ e (exponents G i g) × (e ≤ q ! i)
  unfolding stepped_on
  stepped_on_in e m =
      let k = keep_in (λ (a : ℕ). leb a (q ! i)) (exponents G i g) e m in
      (k.0, (tests_le e (q ! i)).sound k.1)

  pub stepped_on_make : (r : ℕ) → Memᴰ r g → row_at G r ! i ≤ q ! i → Memᴰ (row_at G r ! i) (stepped_on G q i g)
  unfolding stepped_on
  stepped_on_make r m l =
      keep_make (λ (a : ℕ). leb a (q ! i)) (exponents G i g) (row_at G r ! i) (exponents_make r m) ((tests_le (row_at G r ! i) (q ! i)).complete l)

  pub stepped_on_rising : Rising (stepped_on G q i g)
  unfolding stepped_on
  stepped_on_rising = keep_rising (λ (a : ℕ). leb a (q ! i)) (exponents G i g) exponents_rising

  pub stepped_on_last : LastIs (stepped_on G q i g) (last (stepped_on G q i g))
  stepped_on_last = last_is (stepped_on G q i g) stepped_on_rising

  -- they are distinct, and none exceeds q's
  pub stepped_on_length : length (stepped_on G q i g) ≤ suc (q ! i)
  stepped_on_length =
      omega (
        arith,
        rising_length (stepped_on G q i g) 0 (suc (q ! i)) stepped_on_rising (λ e m. omega arith) (λ e m. omega (arith, (stepped_on_in e m).1)) (omega arith),
      )

  pub tests_goes_on : (a : ℕ) → Tests (goes_on G q i g a) ((a ≡ q ! i) ⊎ ((r : ℕ) → Memᴰ r g → row_at G r ! i ≤ a))
  unfolding goes_on
  tests_goes_on a = tests_or (tests_eq a (q ! i)) (tests_all g (λ (r : ℕ) m. tests_le (row_at G r ! i) a))

-- ---- the descent finds the Janet divisor

-- At each variable the group is a group of G, before it each of its rows is as a Janet divisor of q is, and every Janet divisor is still in it.
-- A Janet divisor has the last exponent stepped on: no smaller one by `largest`, and no larger one since it divides q. So the group may shrink to
-- that exponent; and where it is neither q's nor the group's largest there is no divisor, for q would exceed it in a variable that is not multiplicative.

module _ (G : Table) (q : Monomial) (z : OfSize (length q) G) where
  -- g is a group of G at variable i, its rows are as Janet divisors of q before i, and no Janet divisor was lost
  record Group (i : ℕ) (g : List ℕ) : Type 0 where
    from : (r : ℕ) → Memᴰ r g → r < length G
    same : (r s : ℕ) → Memᴰ r g → Memᴰ s g → SameBefore i (row_at G r) (row_at G s)
    full : (r s : ℕ) → Memᴰ r g → s < length G → SameBefore i (row_at G s) (row_at G r) → Memᴰ s g
    under : (r : ℕ) → Memᴰ r g → (j : ℕ) → j < i → row_at G r ! j ≤ q ! j
    only : (r : ℕ) → Memᴰ r g → (j : ℕ) → j < i → row_at G r ! j < q ! j → Multiplicative G (row_at G r) j
    kept : (r : ℕ) → DivisorAt Multiplicative G r q → Memᴰ r g

  -- a Janet divisor has the last exponent stepped on
  divisor_last : (i : ℕ) (g : List ℕ) (a : ℕ) → Group i g → LastIs (stepped_on G q i g) (some a) → (r : ℕ) → DivisorAt Multiplicative G r q → row_at G r ! i ≡ a
  divisor_last i g a h l r d =
      let s = stepped_on_in G q i g a l.0 in
      let t = exponents_in G q i g a s.0 in
      let k : Memᴰ r g = h.kept r d in
      let up : row_at G r ! i ≤ a = l.1 (row_at G r ! i) (stepped_on_make G q i g r k (d.cone.divides i)) in
      let down : row_at G t.0 ! i ≤ row_at G r ! i =
      largest (at_divisor d) (member_at G [] t.0 (h.from t.0 t.1)) (h.same t.0 r t.1 k) (omega (arith, s.1, t.2)) in
      omega (arith, t.2)

  shrink : (i : ℕ) (g : List ℕ) (a : ℕ) → Group i g → LastIs (stepped_on G q i g) (some a) → T (goes_on G q i g a)
      → Group (suc i) (keep (λ r. eqb (row_at G r ! i) a) g)
  shrink i g a h l t = record {
    from = λ r m. h.from r (old r m);
    same = λ r s m k. before_suc i (row_at G r) (row_at G s) (h.same r s (old r m) (old s k)) (at r m ∙ sym (at s k));
    full = λ r s m k e. keep_make f g s (h.full r s (old r m) k (λ j b. e j (omega arith)))
        ((tests_eq (row_at G s ! i) a).complete (e i (omega arith) ∙ at r m));
    under = λ r m. below_suc (λ j. row_at G r ! j ≤ q ! j) i (h.under r (old r m)) (omega (arith, at r m, (stepped_on_in G q i g a l.0).1));
    only = λ r m. below_suc (λ j. row_at G r ! j < q ! j → Multiplicative G (row_at G r) j) i (h.only r (old r m)) (λ b v k. marked r m b v k);
    kept = λ r d. keep_make f g r (h.kept r d) ((tests_eq (row_at G r ! i) a).complete (divisor_last i g a h l r d));
  }
    where
      f : ℕ → Bool
      f r = eqb (row_at G r ! i) a

      old : (r : ℕ) → Memᴰ r (keep f g) → Memᴰ r g
      old r m = (keep_in f g r m).0

      at : (r : ℕ) → Memᴰ r (keep f g) → row_at G r ! i ≡ a
      at r m = (tests_eq (row_at G r ! i) a).sound (keep_in f g r m).1

      -- q exceeds a, so a is the group's largest
      marked : (r : ℕ) → Memᴰ r (keep f g) → row_at G r ! i < q ! i → (v : Monomial) → InGroup G (row_at G r) i v → v ! i ≤ row_at G r ! i
      marked r m b v k =
          let p = member_index G [] v k.member in
          let s : SameBefore i (row_at G p.0) (row_at G r) = subst (λ (w : Monomial). SameBefore i w (row_at G r)) (sym p.2) k.same in
          let e : row_at G p.0 ! i ≡ v ! i = ap (λ (w : Monomial). w ! i) p.2 in
          ⊎_elim
          (λ o. omega (arith, at r m))
          (λ o. omega (arith, at r m, o p.0 (h.full r p.0 (old r m) p.1 s)))
          ((tests_goes_on G q i g a).sound t)

  onward_answers : (i : ℕ) (g : List ℕ) (o : Option ℕ) (next : List ℕ → Descent) → Group i g → LastIs (stepped_on G q i g) o
      → ((h : List ℕ) → Group (suc i) h → Answers Multiplicative G q (next h).found) → Answers Multiplicative G q (onward G q i g o next).found
  unfolding onward
  onward_answers i g none next h l c = λ r d. l (row_at G r ! i) (stepped_on_make G q i g r (h.kept r d) (d.cone.divides i))
  onward_answers i g (some a) next h l c = go (goes_on G q i g a) (tests_goes_on G q i g a) (λ t. t)
    where
      smaller : List ℕ
      smaller = keep (λ r. eqb (row_at G r ! i) a) g

      go : (b : Bool) → Tests b ((a ≡ q ! i) ⊎ ((r : ℕ) → Memᴰ r g → row_at G r ! i ≤ a)) → (T b → T (goes_on G q i g a)) →
          Answers Multiplicative G q (pick {A = Descent} b
          (record { found = (next smaller).found; steps = length (stepped_on G q i g) + (next smaller).steps; ended = (next smaller).ended })
          (record { found = none; steps = length (stepped_on G q i g); ended = i })).found
      go true s t = c smaller (shrink i g a h l (t tt))
      go false s t = λ r d. s.complete (
          let e : row_at G r ! i ≡ a = divisor_last i g a h l r d in
          by_cases (dec_lt a (q ! i))
          (λ b. inr (λ x m.
          omega (arith, d.cone.only i (omega arith) (row_at G x) (record { member = member_at G [] x (h.from x m); same = h.same x r m (h.kept r d) }))))
          (λ b. inl (omega (arith, d.cone.divides i))))

  descend_answers : (k i : ℕ) (g : List ℕ) → Group i g → i + k ≡ suc (length q) → Answers Multiplicative G q (descend G q k i g).found
  unfolding descend first
  descend_answers zero i [] h e = λ r d. mathlib.Core.List.Memᴰ.not-nil (h.kept r d)
  descend_answers zero i (r ∷ g) h e =
      let m : Memᴰ r (r ∷ g) = mathlib.Core.List.Memᴰ.head refl in
      let size : length (row_at G r) ≡ length q = z (row_at G r) (member_at G [] r (h.from r m)) in
      record {
        within = h.from r m;
        cone = record {
          divides = λ j. by_cases (dec_lt j i) (h.under r m j) (λ b. omega (arith, beyond (row_at G r) j (omega arith)));
          only = λ j l. h.only r m j (omega (arith, within q j (omega arith))) l;
        };
      }
  descend_answers (suc k) i g h e =
      onward_answers i g (last (stepped_on G q i g)) (λ x. descend G q k (suc i) x) h (stepped_on_last G q i g)
      (λ x y. descend_answers k (suc i) x y (omega arith))

  -- all rows are the group at variable 1
  start : Group 1 (numbers_from 0 (length G))
  start = record {
    from = λ r m. omega (arith, (numbers_in 0 (length G) r m).1);
    same = λ r s m k. before_first (row_at G r) (row_at G s);
    full = λ r s m k e. numbers_make 0 (length G) s (omega arith) (omega arith);
    under = λ r m. below_suc (λ j. row_at G r ! j ≤ q ! j) 0 (λ j l. absurd (not-suc-le-zero l)) (omega arith);
    only = λ r m. below_suc (λ j. row_at G r ! j < q ! j → Multiplicative G (row_at G r) j) 0 (λ j l. absurd (not-suc-le-zero l)) (λ l. absurd (omega arith));
    kept = λ r d. numbers_make 0 (length G) r (omega arith) (omega (arith, d.within));
  }

pub descent_finds : {n : ℕ} {G : Table} → OfSize n G → (q : Monomial) → length q ≡ n → Answers Multiplicative G q (descent n G q).found
unfolding descent
descent_finds {n} {G} z q e =
    let y : OfSize (length q) G = λ u m. z u m ∙ sym e in
    descend_answers G q y n 1 (numbers_from 0 (length G)) (start G q y) (omega arith)

-- ---- the steps

-- what the k exponents of q from variable i on come to, with one more for each
unfoldable span : ℕ → ℕ → Monomial → ℕ
span zero i q = 0
span (suc k) i q = suc (q ! i) + span k (suc i) q

onward_steps : (G : Table) (q : Monomial) (i : ℕ) (g : List ℕ) (o : Option ℕ) (next : List ℕ → Descent) (b : ℕ)
    → ((h : List ℕ) → (next h).steps ≤ b) → (onward G q i g o next).steps ≤ suc (q ! i) + b
unfolding onward
onward_steps G q i g none next b h = omega arith
onward_steps G q i g (some a) next b h = go (goes_on G q i g a)
  where
    smaller : List ℕ
    smaller = keep (λ r. eqb (row_at G r ! i) a) g

    go : (c : Bool) → (pick {A = Descent} c
        (record { found = (next smaller).found; steps = length (stepped_on G q i g) + (next smaller).steps; ended = (next smaller).ended })
        (record { found = none; steps = length (stepped_on G q i g); ended = i })).steps ≤ suc (q ! i) + b
    go true = omega (arith, stepped_on_length G q i g, h smaller)
    go false = omega (arith, stepped_on_length G q i g)

descend_steps : (G : Table) (q : Monomial) (k i : ℕ) (g : List ℕ) → (descend G q k i g).steps ≤ span k i q
unfolding descend span
descend_steps G q zero i g = omega arith
descend_steps G q (suc k) i g =
    onward_steps G q i g (last (stepped_on G q i g)) (λ h. descend G q k (suc i) h) (span k (suc i) q) (λ h. descend_steps G q k (suc i) h)

span_cons : (k i a : ℕ) (q : Monomial) → span k (suc (suc i)) (a ∷ q) ≡ span k (suc i) q
unfolding span
span_cons zero i a q = refl
span_cons (suc k) i a q = omega (arith, span_cons k (suc i) a q)

span_degree : (q : Monomial) → span (length q) 1 q ≡ degree q + length q
unfolding span degree
span_degree [] = refl
span_degree (a ∷ q) = omega (arith, span_cons (length q) 0 a q, span_degree q)

-- at each variable at most one more than q's exponent
pub descent_steps : (n : ℕ) (G : Table) (q : Monomial) → length q ≡ n → (descent n G q).steps ≤ degree q + n
unfolding descent
descent_steps n G q e =
    let s : span n 1 q ≡ degree q + n = subst (λ (k : ℕ). span k 1 q ≡ degree q + k) e (span_degree q) in
    omega (arith, descend_steps G q n 1 (numbers_from 0 (length G)))

-- ---- the scan, on rows in any order

pub scan_stops : (G : Table) (q : Monomial) (r : ℕ) → r < length G → janet_test G (row_at G r) q ≡ true → scan_from G q r (drop r G) ≡ some r
unfolding scan_from
scan_stops G q r l e = rw (drop-cons G r [] l, e)

pub scan_goes : (G : Table) (q : Monomial) (r : ℕ) → r < length G → janet_test G (row_at G r) q ≡ false
    → scan_from G q r (drop r G) ≡ scan_from G q (suc r) (drop (suc r) G)
unfolding scan_from
scan_goes G q r l e = rw (drop-cons G r [] l, e)

pub scan_ends : (G : Table) (q : Monomial) → scan_from G q (length G) (drop (length G) G) ≡ none
unfolding scan_from
scan_ends G q = rw (drop-length G)

-- with k rows left, none before them being a divisor
scan_rest : (G : Table) (q : Monomial) (k r : ℕ) → r + k ≡ length G → ((s : ℕ) → s < r → DivisorAt Multiplicative G s q → ⊥)
    → AnswersFirst Multiplicative G q (scan_from G q r (drop r G))
scan_rest G q zero r e f =
    let p : r ≡ length G = omega arith in
    rw (p, scan_ends G q) (λ s d. f s (omega (arith, d.within)) d)
scan_rest G q (suc k) r e f = go (janet_test G (row_at G r) q) refl (λ g. scan_rest G q k (suc r) (omega arith) g)
  where
    l : r < length G
    l = omega arith

    t : Tests (janet_test G (row_at G r) q) (JanetDivisor G (row_at G r) q)
    t = tests_janet G (row_at G r) q (member_at G [] r l)

    go : (b : Bool) → janet_test G (row_at G r) q ≡ b
        → (((s : ℕ) → s < suc r → DivisorAt Multiplicative G s q → ⊥) → AnswersFirst Multiplicative G q (scan_from G q (suc r) (drop (suc r) G)))
        → AnswersFirst Multiplicative G q (scan_from G q r (drop r G))
    go true h rest = rw (scan_stops G q r l h) (record { divisor = record { within = l; cone = (true_tests t h).cone }; first = f })
    go false h rest =
        rw (scan_goes G q r l h) (rest (below_suc (λ s. DivisorAt Multiplicative G s q → ⊥) r f (λ d. false_tests t h (at_divisor d))))

pub scan_finds : (G : Table) (q : Monomial) → AnswersFirst Multiplicative G q (scan G q)
unfolding scan
scan_finds G q = scan_rest G q (length G) 0 (omega arith) (λ s l. absurd (not-suc-le-zero l))

-- ---- one answer

pub answers_first : (M : Division) (G : Table) (q : Monomial) (o : Option ℕ) → AnswersFirst M G q o → Answers M G q o
answers_first M G q none h = h
answers_first M G q (some r) h = h.divisor

pub first_unique : (M : Division) (G : Table) (q : Monomial) (o p : Option ℕ) → AnswersFirst M G q o → AnswersFirst M G q p → o ≡ p
first_unique M G q none none h k = refl
first_unique M G q none (some s) h k = absurd (h s k.divisor)
first_unique M G q (some r) none h k = absurd (k r h.divisor)
first_unique M G q (some r) (some s) h k = by_cases (dec_lt r s)
    (λ l. absurd (k.first r l h.divisor))
    (λ g. by_cases (dec_lt s r) (λ l. absurd (h.first s l k.divisor)) (λ f. let e : r ≡ s = omega arith in ap some e))

pub answers_unique : {M : Division} {G : Table} → Disjoint M G → (q : Monomial) (o p : Option ℕ) → Answers M G q o → Answers M G q p → o ≡ p
answers_unique f q none none h k = refl
answers_unique f q none (some s) h k = absurd (h s k)
answers_unique f q (some r) none h k = absurd (k r h)
answers_unique f q (some r) (some s) h k = ap some (at_most_one f h k)

pub descent_scan : {n : ℕ} {G : Table} → OfSize n G → Distinct G → (q : Monomial) → length q ≡ n → (descent n G q).found ≡ scan G q
descent_scan {n} {G} z f q e =
    answers_unique (janet_disjoint z f) q (descent n G q).found (scan G q) (descent_finds z q e) (answers_first Multiplicative G q (scan G q) (scan_finds G q))

tests_answer : (G : Table) (q : Monomial) (o : Option ℕ) → Answers Multiplicative G q o → Tests (found_test o) ((u : Monomial) × JanetDivisor G u q)
tests_answer G q none h = record { sound = λ t. absurd t; complete = λ p. let d = divisor_at p.1 in h d.0 d.1 }
tests_answer G q (some r) h = record { sound = λ t. (row_at G r, at_divisor h); complete = λ p. tt }

pub covered_found : {n : ℕ} {G : Table} → OfSize n G → (q : Monomial) → length q ≡ n → covered_test G q ≡ found_test (descent n G q).found
covered_found {n} {G} z q e =
    tests_same (covered_test G q) (found_test (descent n G q).found) (tests_covered G q) (tests_answer G q (descent n G q).found (descent_finds z q e))

-- ---- the variable at which it ended

ended_wider : (o : Option ℕ) (i j e : ℕ) → EndedAt o (suc i) j e → EndedAt o i j e
ended_wider none i j e h = (omega (arith, h.0), h.1)
ended_wider (some r) i j e h = h

onward_ended : (G : Table) (q : Monomial) (i j : ℕ) (g : List ℕ) (o : Option ℕ) (next : List ℕ → Descent) → i < j → LastIs (stepped_on G q i g) o
    → ((h : List ℕ) (r : ℕ) → Memᴰ r h → EndedAt (next h).found (suc i) j (next h).ended)
    → EndedAt (onward G q i g o next).found i j (onward G q i g o next).ended
unfolding onward
onward_ended G q i j g none next b l c = (omega arith, b)
onward_ended G q i j g (some a) next b l c = go (goes_on G q i g a)
  where
    smaller : List ℕ
    smaller = keep (λ r. eqb (row_at G r ! i) a) g

    result : Bool → Descent
    result c = pick c
        (record { found = (next smaller).found; steps = length (stepped_on G q i g) + (next smaller).steps; ended = (next smaller).ended })
        (record { found = none; steps = length (stepped_on G q i g); ended = i })

    -- the last exponent stepped on is that of a row, which stays
    deeper : EndedAt (next smaller).found (suc i) j (next smaller).ended
    deeper =
        let t = exponents_in G q i g a (stepped_on_in G q i g a l.0).0 in
        c smaller t.0 (keep_make (λ (r : ℕ). eqb (row_at G r ! i) a) g t.0 t.1 ((tests_eq (row_at G t.0 ! i) a).complete (sym t.2)))

    go : (c : Bool) → EndedAt (result c).found i j (result c).ended
    go true = ended_wider (next smaller).found i j (next smaller).ended deeper
    go false = (omega arith, b)

descend_ended : (G : Table) (q : Monomial) (k i : ℕ) (g : List ℕ) (r : ℕ) → Memᴰ r g
    → EndedAt (descend G q k i g).found i (i + k) (descend G q k i g).ended
unfolding descend first
descend_ended G q zero i [] r m = absurd (mathlib.Core.List.Memᴰ.not-nil m)
descend_ended G q zero i (s ∷ g) r m = refl
descend_ended G q (suc k) i g r m =
    let e : suc i + k ≡ i + suc k = omega arith in
    onward_ended G q i (i + suc k) g (last (stepped_on G q i g)) (λ h. descend G q k (suc i) h) (omega arith) (stepped_on_last G q i g)
    (λ h s t. subst (λ (j : ℕ). EndedAt (descend G q k (suc i) h).found (suc i) j (descend G q k (suc i) h).ended) e (descend_ended G q k (suc i) h s t))

-- in a table with rows
pub descent_ended : (n : ℕ) (G : Table) (q : Monomial) → 0 < length G → EndedAt (descent n G q).found 1 (1 + n) (descent n G q).ended
unfolding descent
descent_ended n G q p = descend_ended G q n 1 (numbers_from 0 (length G)) 0 (numbers_make 0 (length G) 0 (omega arith) (omega arith))

-- in a table without rows it ends at variable 1, with no step
pub descent_empty : (n : ℕ) (q : Monomial) → descent (suc n) [] q ≡ record { found = none; steps = 0; ended = 1 }
unfolding descent
descent_empty n q = refl
