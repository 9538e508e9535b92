-- Rule 6 over ascending rows: a group is a range of rows, and one step of the descent leaves a smaller range.
--
--   distinct_parts   the distinct exponents of rows that share one, followed by rows that exceed it
--   descend_none     the descent ends with nothing where the least exponent exceeds q's
--   descend_next     it steps on the least exponent and goes on with the rows above it where one of them does not exceed q's
--   descend_gap      it ends with nothing where the last exponent stepped on is below q's and not the largest
--   descend_down     it takes the next variable where that exponent is q's or the largest
--   ascends_at       in a range that is equal before i the exponents at i ascend
--   range_above, range_shared   the rows above the least exponent, and those that have it, are such ranges again
--   range_none, range_next, range_gap, range_down   the four laws of the descent, of ranges
--   larger_unique    there is one first later row with a larger exponent
--   found_number, number_row   a row number as code gives it, and as a number
use mathlib.Core.Path.{◌≡◌, refl, sym, ap, ◌∙◌, subst}
use mathlib.Core.Bool.{Bool, true, false, ◌||◌}
use mathlib.Core.List.Memᴰ
use mathlib.Core.List.{List, [], ◌∷◌, ◌++◌, map, Memᴰ}
use mathlib.Core.Option.{Option, none, some}
use mathlib.Core.Logic.{◌⊎◌, inl, inr, ⊎_elim, by_cases}
use Prim.Native.Nat.{ℕ, zero, suc, ◌+◌, ◌-◌, ◌≤◌, ◌<◌}
use native.Mathlib.Nat.{not-suc-le-zero, eq-or-lt_of_le}
use native.Mathlib.Decide.{dec_lt}
use native.Mathlib.Omega.{arith}
use borrow.Author.Tests.{le-ltb, lt-ltb, le-leb, eq-eqb, ne_eqb}
use lib.Dec.{leb, eqb}
use lib.ListN.{length}
use Rattle.checks.specs.Tests.{all, keep}
use Rattle.checks.proofs.TestLaws.{tests_true, tests_false}
use Rattle.terms.specs.Monomials.{Monomial, Table, ◌!◌, row_at, SameBefore}
use Rattle.terms.specs.Order.{Precedes, Ascending}
use Rattle.terms.proofs.MonomialLaws.{before_suc, before_first}
use Rattle.terms.proofs.OrderLaws.{ascending_between}
use Rattle.division.specs.Descent.{insert, distinct, last, numbers_from, exponents, stepped_on, goes_on, onward, descend}
use Rattle.division.proofs.NumberLaws.{distinct_in, map_in, numbers_in}
use Rattle.division.proofs.DescentLaws.{exponents_in, stepped_on_in, stepped_on_make, tests_goes_on}
use Rattle.division.specs.Ranges.{range, GroupRange, FirstLarger, with_steps}
use Rattle.division.specs.Scan.{found_row, number_found}
use Rattle.std.specs.Prelude as code
use Rattle.terms.specs.declared.RowNumber.{RowNumber}

-- ---- the distinct numbers of a list

-- a number below all others comes first
insert_least : (a : ℕ) (l : List ℕ) → ((x : ℕ) → Memᴰ x l → a < x) → insert a l ≡ a ∷ l
unfolding insert
insert_least a [] h = refl
insert_least a (b ∷ l) h = rw (lt-ltb a b (h b (Memᴰ.head refl)))

insert_again : (a : ℕ) (l : List ℕ) → insert a (a ∷ l) ≡ a ∷ l
unfolding insert
insert_again a l = rw (le-ltb a a (omega arith), eq-eqb a a refl)

-- ---- a group in two parts: rows that share the exponent a, and rows that exceed it

module _ (f : ℕ → ℕ) (a : ℕ) (above : List ℕ) (exceed : (x : ℕ) → Memᴰ x above → a < f x) where
  above_distinct : (x : ℕ) → Memᴰ x (distinct (map f above)) → a < x
  above_distinct x m =
      let p = map_in f above x (distinct_in (map f above) x m) in
      omega (arith, p.2, exceed p.0 p.1)

  pub distinct_parts : (r : ℕ) (g : List ℕ) → ((x : ℕ) → Memᴰ x (r ∷ g) → f x ≡ a) → distinct (map f ((r ∷ g) ++ above)) ≡ a ∷ distinct (map f above)
  unfolding distinct
  distinct_parts r [] h = rw (h r (Memᴰ.head refl)) (insert_least a (distinct (map f above)) above_distinct)
  distinct_parts r (s ∷ g) h =
      rw (h r (Memᴰ.head refl), distinct_parts s g (λ x m. h x (Memᴰ.tail m))) (insert_again a (distinct (map f above)))

  -- those with the exponent a are the first part
  pub keep_same : (g : List ℕ) → ((x : ℕ) → Memᴰ x g → f x ≡ a) → keep (λ r. eqb (f r) a) (g ++ above) ≡ g
  keep_same [] h = none_kept above exceed
    where
      none_kept : (l : List ℕ) → ((x : ℕ) → Memᴰ x l → a < f x) → keep (λ r. eqb (f r) a) l ≡ []
      none_kept [] e = refl
      none_kept (x ∷ l) e =
          let p : a < f x = e x (Memᴰ.head refl) in
          rw (ne_eqb (f x) a (λ q. omega arith)) (none_kept l (λ y m. e y (Memᴰ.tail m)))
  keep_same (r ∷ g) h = rw (eq-eqb (f r) a (h r (Memᴰ.head refl))) (ap (λ (l : List ℕ). r ∷ l) (keep_same g (λ x m. h x (Memᴰ.tail m))))

  -- those with a larger one are in the second
  pub keep_above : (b : ℕ) → a < b → (g : List ℕ) → ((x : ℕ) → Memᴰ x g → f x ≡ a) → keep (λ r. eqb (f r) b) (g ++ above) ≡ keep (λ r. eqb (f r) b) above
  keep_above b l [] h = refl
  keep_above b l (r ∷ g) h =
      let e : f r ≡ a = h r (Memᴰ.head refl) in
      rw (ne_eqb (f r) b (λ q. omega arith)) (keep_above b l g (λ x m. h x (Memᴰ.tail m)))

  pub all_above : (b : ℕ) → a ≤ b → (g : List ℕ) → ((x : ℕ) → Memᴰ x g → f x ≡ a) → all (λ r. leb (f r) b) (g ++ above) ≡ all (λ r. leb (f r) b) above
  all_above b l [] h = refl
  all_above b l (r ∷ g) h =
      let e : f r ≡ a = h r (Memᴰ.head refl) in
      rw (le-leb (f r) b (omega arith)) (all_above b l g (λ x m. h x (Memᴰ.tail m)))

-- ---- the exponents stepped on, and the last of them

nothing_in : (l : List ℕ) → ((x : ℕ) → Memᴰ x l → ⊥) → l ≡ []
nothing_in [] h = refl
nothing_in (x ∷ l) h = absurd (h x (Memᴰ.head refl))

last_in : (b : ℕ) (l : List ℕ) → (c : ℕ) × (last (b ∷ l) ≡ some c) × Memᴰ c (b ∷ l)
unfolding last
last_in b [] = (b, refl, Memᴰ.head refl)
last_in b (d ∷ l) = let p = last_in d l in (p.0, p.1, Memᴰ.tail p.2)

module _ (G : Table) (q : Monomial) (i : ℕ) where
  pub stepped_on_none : (g : List ℕ) → ((r : ℕ) → Memᴰ r g → q ! i < row_at G r ! i) → stepped_on G q i g ≡ []
  stepped_on_none g h = nothing_in (stepped_on G q i g) (λ x m.
      let s = stepped_on_in G q i g x m in
      let p = exponents_in G q i g x s.0 in
      omega (arith, s.1, p.2, h p.0 p.1))

  -- ---- rule 6 at one variable, by the last exponent stepped on

  pub descend_none : (k : ℕ) (g : List ℕ) → ((r : ℕ) → Memᴰ r g → q ! i < row_at G r ! i)
      → descend G q (suc k) i g ≡ record { found = none; steps = 0; ended = i }
  unfolding descend onward last
  descend_none k g h = rw (stepped_on_none g h)

  descend_on : (k : ℕ) (g : List ℕ) (c : ℕ) → last (stepped_on G q i g) ≡ some c → goes_on G q i g c ≡ true
      → descend G q (suc k) i g ≡ with_steps (length (stepped_on G q i g)) (descend G q k (suc i) (keep (λ r. eqb (row_at G r ! i) c) g))
  unfolding descend onward
  descend_on k g c e t = rw (e, t)

  descend_ends : (k : ℕ) (g : List ℕ) (c : ℕ) → last (stepped_on G q i g) ≡ some c → goes_on G q i g c ≡ false
      → descend G q (suc k) i g ≡ record { found = none; steps = length (stepped_on G q i g); ended = i }
  unfolding descend onward
  descend_ends k g c e t = rw (e, t)

  -- a group in two parts: rows that share the exponent a, which does not exceed q's, and rows that exceed it
  module _ (r : ℕ) (g above : List ℕ) (a : ℕ)
      (share : (x : ℕ) → Memᴰ x (r ∷ g) → row_at G x ! i ≡ a)
      (exceed : (x : ℕ) → Memᴰ x above → a < row_at G x ! i)
      (under : a ≤ q ! i) where
    stepped_on_parts : stepped_on G q i ((r ∷ g) ++ above) ≡ a ∷ stepped_on G q i above
    unfolding stepped_on exponents
    stepped_on_parts = rw (distinct_parts (λ s. row_at G s ! i) a above exceed r g share, le-leb a (q ! i) under)

    goes_on_above : (c : ℕ) → a ≤ c → goes_on G q i ((r ∷ g) ++ above) c ≡ goes_on G q i above c
    unfolding goes_on
    goes_on_above c l = ap (λ (b : Bool). eqb c (q ! i) || b) (all_above (λ s. row_at G s ! i) a above exceed c l (r ∷ g) share)

    -- One of the rows above does not exceed q's exponent: a is stepped on, and the other steps are those of the rows above, since the last
    -- exponent stepped on, the test whether it goes on, and the rows that have it are all the same without the rows that share a.
    pub descend_next : (k x : ℕ) → Memᴰ x above → row_at G x ! i ≤ q ! i
        → descend G q (suc k) i ((r ∷ g) ++ above) ≡ with_steps 1 (descend G q (suc k) i above)
    unfolding last
    descend_next k x m l = by_steps (stepped_on G q i above) refl
      where
        by_goes_on : (c : ℕ) → a < c → last (stepped_on G q i ((r ∷ g) ++ above)) ≡ some c → last (stepped_on G q i above) ≡ some c
            → (b : Bool) → goes_on G q i above c ≡ b → descend G q (suc k) i ((r ∷ g) ++ above) ≡ with_steps 1 (descend G q (suc k) i above)
        by_goes_on c less e f true t =
            let n : length (stepped_on G q i ((r ∷ g) ++ above)) ≡ suc (length (stepped_on G q i above)) = ap length stepped_on_parts in
            let d = descend G q k (suc i) (keep (λ s. eqb (row_at G s ! i) c) above) in
            let z : suc (length (stepped_on G q i above)) + d.steps ≡ 1 + (length (stepped_on G q i above) + d.steps) = omega arith in
            rw (
              descend_on k ((r ∷ g) ++ above) c e (goes_on_above c (omega arith) ∙ t),
              descend_on k above c f t,
              keep_above (λ s. row_at G s ! i) a above exceed c less (r ∷ g) share,
              n,
              z,
            )
        by_goes_on c less e f false t =
            let n : length (stepped_on G q i ((r ∷ g) ++ above)) ≡ 1 + length (stepped_on G q i above) = ap length stepped_on_parts ∙ omega arith in
            rw (descend_ends k ((r ∷ g) ++ above) c e (goes_on_above c (omega arith) ∙ t), descend_ends k above c f t, n)

        by_steps : (s : List ℕ) → stepped_on G q i above ≡ s → descend G q (suc k) i ((r ∷ g) ++ above) ≡ with_steps 1 (descend G q (suc k) i above)
        by_steps [] e = absurd (Memᴰ.not-nil (subst (λ (s : List ℕ). Memᴰ (row_at G x ! i) s) e (stepped_on_make G q i above x m l)))
        by_steps (b ∷ s) e =
            let p = last_in b s in
            let w = exponents_in G q i above p.0 (stepped_on_in G q i above p.0 (subst (λ (z : List ℕ). Memᴰ p.0 z) (sym e) p.2)).0 in
            by_goes_on p.0 (omega (arith, w.2, exceed w.0 w.1)) (ap last stepped_on_parts ∙ ap (λ (z : List ℕ). last (a ∷ z)) e ∙ p.1)
            (ap last e ∙ p.1) (goes_on G q i above p.0) refl

    -- the rows above exceed q's exponent: a is the only exponent stepped on
    module _ (beyond : (x : ℕ) → Memᴰ x above → q ! i < row_at G x ! i) where
      one_step : stepped_on G q i ((r ∷ g) ++ above) ≡ a ∷ []
      one_step = stepped_on_parts ∙ ap (λ (l : List ℕ). a ∷ l) (stepped_on_none above beyond)

      last_step : last (stepped_on G q i ((r ∷ g) ++ above)) ≡ some a
      unfolding last
      last_step = ap last one_step

      pub descend_gap : (k x : ℕ) → Memᴰ x above → a < q ! i → descend G q (suc k) i ((r ∷ g) ++ above) ≡ record { found = none; steps = 1; ended = i }
      descend_gap k x m l =
          let t : goes_on G q i above a ≡ false = sym (tests_false (tests_goes_on G q i above a)
          (λ o. ⊎_elim (λ e. omega arith) (λ h. omega (arith, h x m, exceed x m)) o)) in
          descend_ends k ((r ∷ g) ++ above) a last_step (goes_on_above a (omega arith) ∙ t)
          ∙ ap (λ (s : List ℕ). record { found = none; steps = length s; ended = i }) one_step

      pub descend_down : (k : ℕ) → (a ≡ q ! i) ⊎ (above ≡ []) → descend G q (suc k) i ((r ∷ g) ++ above) ≡ with_steps 1 (descend G q k (suc i) (r ∷ g))
      descend_down k o =
          let t : goes_on G q i above a ≡ true = sym (tests_true (tests_goes_on G q i above a)
          (⊎_elim (λ e. inl e) (λ e. inr (λ x m. absurd (Memᴰ.not-nil (subst (λ (l : List ℕ). Memᴰ x l) e m)))) o)) in
          rw (
            descend_on k ((r ∷ g) ++ above) a last_step (goes_on_above a (omega arith) ∙ t),
            one_step,
            keep_same (λ s. row_at G s ! i) a above exceed
                (r ∷ g) share,
          )

-- ---- ranges of row numbers

numbers_first : (r k : ℕ) → 0 < k → Memᴰ r (numbers_from r k)
unfolding numbers_from
numbers_first r zero p = absurd (not-suc-le-zero p)
numbers_first r (suc k) p = Memᴰ.head refl

numbers_add : (r j k : ℕ) → numbers_from r (j + k) ≡ numbers_from r j ++ numbers_from (r + j) k
unfolding numbers_from
numbers_add r zero k =
    let e : 0 + k ≡ k = omega arith in
    let f : r + 0 ≡ r = omega arith in
    rw (e, f)
numbers_add r (suc j) k =
    let e : suc j + k ≡ suc (j + k) = omega arith in
    let f : r + suc j ≡ suc r + j = omega arith in
    rw (e, f) (ap (λ (l : List ℕ). r ∷ l) (numbers_add (suc r) j k))

range_in : (lo hi x : ℕ) → Memᴰ x (range lo hi) → (lo ≤ x) × (x < hi)
range_in lo hi x m = let p = numbers_in lo (hi - lo) x m in (p.0, omega (arith, p.0, p.1))

pub range_cons : (lo hi : ℕ) → lo < hi → range lo hi ≡ lo ∷ range (suc lo) hi
unfolding numbers_from
range_cons lo hi l = let e : hi - lo ≡ suc (hi - suc lo) = omega arith in rw e

range_empty : (lo : ℕ) → range lo lo ≡ []
unfolding numbers_from
range_empty lo = let e : lo - lo ≡ 0 = omega arith in rw e

range_split : (lo mid hi : ℕ) → lo < mid → mid ≤ hi → range lo hi ≡ (lo ∷ range (suc lo) mid) ++ range mid hi
range_split lo mid hi l h =
    let e : hi - lo ≡ (mid - lo) + (hi - mid) = omega arith in
    let f : lo + (mid - lo) ≡ mid = omega arith in
    ap (numbers_from lo) e
    ∙ numbers_add lo (mid - lo) (hi - mid)
    ∙ ap (λ (m : ℕ). range lo mid ++ numbers_from m (hi - mid)) f
    ∙ ap (λ (x : List ℕ). x ++ range mid hi) (range_cons lo mid l)

-- ---- a range of ascending rows that are equal before variable i

-- of two rows in order that are equal before i, the first has no larger exponent at i
precedes_at : (u v : Monomial) (i : ℕ) → Precedes u v → SameBefore i u v → u ! i ≤ v ! i
precedes_at u v i p s = by_cases (dec_lt p.at i)
    (λ l. absurd (omega (arith, p.less, s p.at l)))
    (λ g. by_cases (dec_lt i p.at)
    (λ l. omega (arith, p.same i l))
    (λ h. let e : p.at ≡ i = omega arith in omega (arith, subst (λ (k : ℕ). u ! k < v ! k) e p.less)))

-- all rows are a range that is equal before the first variable
pub range_all : (G : Table) → 0 < length G → GroupRange G 1 0 (length G)
range_all G p = record { some = p; within = omega arith; same = λ r a b. before_first (row_at G 0) (row_at G r) }

pub larger_unique : (G : Table) (i lo hi r s : ℕ) → FirstLarger G i lo hi r → FirstLarger G i lo hi s → r ≡ s
larger_unique G i lo hi r s f g = by_cases (dec_lt r s)
    (λ l. absurd (omega (arith, f.larger (omega (arith, g.within)), g.none r f.later l)))
    (λ h. by_cases (dec_lt s r) (λ l. absurd (omega (arith, g.larger (omega (arith, f.within)), f.none s g.later l))) (λ k. omega arith))

module _ {G : Table} {i lo hi : ℕ} (ascends : Ascending G) (R : GroupRange G i lo hi) where
  pub ascends_at : (r s : ℕ) → lo ≤ r → r ≤ s → s < hi → row_at G r ! i ≤ row_at G s ! i
  ascends_at r s a b c = ⊎_elim
      (λ e. omega (arith, ap (λ (k : ℕ). row_at G k ! i) e))
      (λ l. precedes_at (row_at G r) (row_at G s) i (ascending_between G ascends r s l (omega (arith, R.within)))
      (λ j h. sym (R.same r a (omega arith) j h) ∙ R.same s (omega arith) c j h))
      (eq-or-lt_of_le b)

  module _ {mid : ℕ} (F : FirstLarger G i lo hi mid) where
    larger_share : (x : ℕ) → lo ≤ x → x < mid → row_at G x ! i ≡ row_at G lo ! i
    larger_share x a b = ⊎_elim
        (λ e. ap (λ (k : ℕ). row_at G k ! i) (sym e))
        (λ l. omega (arith, F.none x l b, ascends_at lo x (omega arith) a (omega (arith, F.within))))
        (eq-or-lt_of_le a)

    larger_above : (x : ℕ) → mid ≤ x → x < hi → row_at G mid ! i ≤ row_at G x ! i
    larger_above x a b = ascends_at mid x (omega (arith, F.later)) a b

    -- the rows above, and the rows that share the exponent, are such ranges again
    pub range_above : mid < hi → GroupRange G i mid hi
    range_above l = record {
      some = l;
      within = R.within;
      same = λ r a b j h. sym (R.same mid (omega (arith, F.later)) l j h) ∙ R.same r (omega (arith, F.later)) b j h;
    }

    pub range_shared : GroupRange G (suc i) lo mid
    range_shared = record {
      some = F.later;
      within = omega (arith, F.within, R.within);
      same = λ r a b. before_suc i (row_at G lo) (row_at G r) (R.same r a (omega (arith, F.within))) (sym (larger_share r a b));
    }

    share_in : (x : ℕ) → Memᴰ x (lo ∷ range (suc lo) mid) → row_at G x ! i ≡ row_at G lo ! i
    share_in x m = ⊎_elim
        (λ e. ap (λ (k : ℕ). row_at G k ! i) e)
        (λ k. let p = range_in (suc lo) mid x k in larger_share x (omega (arith, p.0)) p.1)
        (Memᴰ.cases_cons m)

    exceed_in : (x : ℕ) → Memᴰ x (range mid hi) → row_at G lo ! i < row_at G x ! i
    exceed_in x m = let p = range_in mid hi x m in omega (arith, larger_above x p.0 p.1, F.larger (omega (arith, p.0, p.1)))

  -- ---- the four laws of the descent, of ranges

  module _ (q : Monomial) (k : ℕ) where
    pub range_none : q ! i < row_at G lo ! i → descend G q (suc k) i (range lo hi) ≡ record { found = none; steps = 0; ended = i }
    range_none l = descend_none G q i k (range lo hi) (λ r m. let p = range_in lo hi r m in omega (arith, ascends_at lo r (omega arith) p.0 p.1))

    module _ {mid : ℕ} (F : FirstLarger G i lo hi mid) (under : row_at G lo ! i ≤ q ! i) where
      split : range lo hi ≡ (lo ∷ range (suc lo) mid) ++ range mid hi
      split = range_split lo mid hi F.later F.within

      pub range_next : mid < hi → row_at G mid ! i ≤ q ! i → descend G q (suc k) i (range lo hi) ≡ with_steps 1 (descend G q (suc k) i (range mid hi))
      range_next l h =
          ap (descend G q (suc k) i) split
          ∙ descend_next G q i lo (range (suc lo) mid) (range mid hi) (row_at G lo ! i) (share_in F) (exceed_in F) under k mid
          (numbers_first mid (hi - mid) (omega arith)) h

      beyond_in : (mid < hi → q ! i < row_at G mid ! i) → (x : ℕ) → Memᴰ x (range mid hi) → q ! i < row_at G x ! i
      beyond_in h x m = let p = range_in mid hi x m in omega (arith, larger_above F x p.0 p.1, h (omega (arith, p.0, p.1)))

      pub range_gap : mid < hi → q ! i < row_at G mid ! i → row_at G lo ! i < q ! i
          → descend G q (suc k) i (range lo hi) ≡ record { found = none; steps = 1; ended = i }
      range_gap l h g =
          ap (descend G q (suc k) i) split
          ∙ descend_gap G q i lo (range (suc lo) mid) (range mid hi) (row_at G lo ! i) (share_in F) (exceed_in F) under
          (beyond_in (λ m. h)) k mid (numbers_first mid (hi - mid) (omega arith)) g

      pub range_down : (mid < hi → q ! i < row_at G mid ! i) → (mid < hi → q ! i ≤ row_at G lo ! i)
          → descend G q (suc k) i (range lo hi) ≡ with_steps 1 (descend G q k (suc i) (range lo mid))
      range_down h g =
          ap (descend G q (suc k) i) split
          ∙ descend_down G q i lo (range (suc lo) mid) (range mid hi) (row_at G lo ! i) (share_in F) (exceed_in F) under (beyond_in h) k
          (by_cases (dec_lt mid hi) (λ l. inl (omega (arith, g l))) (λ f. let e : mid ≡ hi = omega (arith, F.within) in inr
          (ap (λ (m : ℕ). range mid m) (sym e) ∙ range_empty mid)))
          ∙ ap (λ (l : List ℕ). with_steps 1 (descend G q k (suc i) l)) (sym (range_cons lo mid F.later))

-- ---- the answer of the code

pub found_number : (f : code.Option RowNumber) → found_row (number_found f) ≡ f
found_number code.None = refl
found_number (code.Some r) = refl

pub number_row : (o : Option ℕ) → number_found (found_row o) ≡ o
number_row none = refl
number_row (some r) = refl
