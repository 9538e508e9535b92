-- Rule 6 as the code goes through it: the search for the next exponent, and the descent from where the code has come to.
--
--   between_within   a bracket within a bracket
--   larger_found     the second of two neighbouring rows of a bracket is the first later row with a larger exponent
--   read_at          the byte of a variable
--   reached_end, reached_none   the descent ends: with the row that is left, or with nothing at once
--   reached_above    what is known where the code goes on with the rows above
--   run_next     stepping along a variable comes to the next exponent
--   run_gap, run_down, run_shared   it ends with nothing, or calls for the next variable
--   ready_empty, descent_all, reached_start   the whole table
--   found_ok         the row number that the code's descent gives
use mathlib.Core.Path.{◌≡◌, refl, sym, ◌∙◌, subst}
use mathlib.Core.List.{[], ◌∷◌}
use mathlib.Core.Option.{Option, none, some}
use Rattle.std.specs.Result.{result_ok}
use Rattle.division.specs.Scan.{number_found}
use mathlib.Core.Logic.{by_cases}
use Prim.Native.Nat.{ℕ, zero, suc, ◌+◌, ◌-◌, ◌≤◌, ◌<◌}
use native.Mathlib.Nat.{not-suc-le-zero}
use native.Mathlib.Decide.{dec_lt}
use native.Mathlib.Numerals.{add-one}
use native.Mathlib.Omega.{arith}
use lib.ListN.{length, get_or}
use Rattle.terms.specs.Monomials.{Monomial, Table, ◌!◌, row_at}
use Rattle.terms.specs.Order.{Ascending}
use Rattle.division.specs.Descent.{Descent, first, numbers_from, descend, descent}
use Rattle.division.proofs.DescentLaws.{descent_empty}
use Rattle.division.specs.Ranges.{range, GroupRange, FirstLarger, with_steps, descend_from}
use Rattle.finding.specs.Stepping.{Between, Reached, AtRun, found_or_ended}
use Rattle.division.specs.Checks.{Ready}
use Rattle.division.proofs.RangeLaws.{range_cons, range_all, ascends_at, range_above, range_shared, range_none, range_next, range_gap, range_down}

-- ---- the search

-- a bracket within a bracket
pub between_within : {G : Table} {i a lo hi low high x y : ℕ} → Between G i a lo hi low high → Between G i a low high x y → Between G i a lo hi x y
between_within {G} {i} {a} {lo} {hi} {low} {high} {x} {y} b c = record {
  from = omega (arith, b.from, c.from);
  apart = c.apart;
  within = omega (arith, b.within, c.within);
  not_above = c.not_above;
  above = λ l. by_cases (dec_lt y high)
      c.above
      (λ g. let e : high ≡ y = omega (arith, c.within) in subst (λ (k : ℕ). a < row_at G k ! i) e (b.above (omega arith)));
}

-- the second of two neighbouring rows of a bracket is the first later row with a larger exponent
pub larger_found : {G : Table} {i lo hi : ℕ} (r : ℕ) → Ascending G → GroupRange G i lo hi → Between G i (row_at G lo ! i) lo hi (r - 1) r
    → FirstLarger G i lo hi r
larger_found r ascends R b = record {
  later = omega (arith, b.from, b.apart);
  within = b.within;
  none = λ s l h. omega (arith, b.not_above, ascends_at ascends R s (r - 1) (omega arith) (omega arith) (omega (arith, b.apart, b.within)));
  larger = b.above;
}

-- the byte of variable i stands one place before it
pub read_at : (q : Monomial) (i : ℕ) → 0 < i → get_or q (i - 1) 0 ≡ q ! i
read_at q zero p = absurd (not-suc-le-zero p)
read_at q (suc i) p = let e : suc i - 1 ≡ i = omega arith in rw e

-- ---- the descent, from where the code has come to

-- one more step before a descent
after_one : (s : ℕ) (d e : Descent) → d ≡ with_steps 1 e → with_steps (s + 1) e ≡ with_steps s d
after_one s d e p =
    let z : s + 1 + e.steps ≡ s + (1 + e.steps) = omega arith in
    rw (p, z)

module _ {n : ℕ} {G : Table} {q : Monomial} {i lo hi steps : ℕ} (R : Reached n G q i lo hi steps) where
  -- behind the last variable the row that is left is found
  pub reached_end : n < i → i ≤ suc n → record { found = some lo; steps = steps; ended = 0 } ≡ with_steps steps (descend_from n G q i lo hi)
  unfolding descend first
  reached_end l h =
      let e : suc n - i ≡ 0 = omega arith in
      let z : steps + 0 ≡ steps = omega arith in
      rw (e, range_cons lo hi R.group.some, z)

  module _ (within : i ≤ n) where
    left_here : suc n - i ≡ suc (n - i)
    left_here = omega arith

    pub reached_none : q ! i < row_at G lo ! i → record { found = none; steps = steps; ended = i } ≡ with_steps steps (descend_from n G q i lo hi)
    reached_none l =
        let z : steps + 0 ≡ steps = omega arith in
        rw (left_here, range_none R.ascends R.group q (n - i) l, z)

    module _ {mid : ℕ} (F : FirstLarger G i lo hi mid) where
      pub reached_above : mid < hi → Reached n G q i mid hi (steps + 1)
      reached_above l = record {
        ascends = R.ascends;
        limited = R.limited;
        group = range_above R.ascends R.group F l;
        sized = R.sized;
        variable = R.variable;
        left = omega (arith, R.left, F.later, F.within);
      }

      reached_shared : Reached n G q (i + 1) lo mid (steps + 1)
      reached_shared = record {
        ascends = R.ascends;
        limited = R.limited;
        group = rw (add-one i) (range_shared R.ascends R.group F);
        sized = R.sized;
        variable = omega arith;
        left = omega (arith, R.left, F.later, F.within);
      }

      module _ (under : row_at G lo ! i ≤ q ! i) where
        reached_next : mid < hi → row_at G mid ! i ≤ q ! i → with_steps (steps + 1) (descend_from n G q i mid hi) ≡ with_steps steps (descend_from n G q i lo hi)
        reached_next l h =
            rw (left_here) (after_one steps (descend G q (suc (n - i)) i (range lo hi)) (descend G q (suc (n - i)) i (range mid hi))
            (range_next R.ascends R.group q (n - i) F under l h))

        reached_gap : mid < hi → q ! i < row_at G mid ! i → row_at G lo ! i < q ! i
            → record { found = none; steps = steps + 1; ended = i } ≡ with_steps steps (descend_from n G q i lo hi)
        reached_gap l h g = rw (left_here, range_gap R.ascends R.group q (n - i) F under l h g)

        reached_down : (mid < hi → q ! i < row_at G mid ! i) → (mid < hi → q ! i ≤ row_at G lo ! i)
            → with_steps (steps + 1) (descend_from n G q (i + 1) lo mid) ≡ with_steps steps (descend_from n G q i lo hi)
        reached_down h g =
            let e : suc n - (i + 1) ≡ n - i = omega arith in
            rw (e, add-one i, left_here) (after_one steps (descend G q (suc (n - i)) i (range lo hi)) (descend G q (n - i) (suc i) (range lo mid))
            (range_down R.ascends R.group q (n - i) F under h g))

-- ---- stepping along one variable

module _ {n : ℕ} {G : Table} {q : Monomial} {i lo hi steps low high taken : ℕ} (within : i ≤ n) (S : AtRun n G q i lo hi steps low high taken) where
  -- the next exponent, which does not exceed q's
  pub run_next : {more : ℕ} → high < hi → row_at G high ! i ≤ q ! i → FirstLarger G i high hi more → AtRun n G q i lo hi steps high more (taken + 1)
  run_next l u F = record {
    reached = reached_above S.reached within S.last l;
    under = u;
    last = F;
    from = omega (arith, S.from, S.last.later);
    same = reached_next S.reached within S.last S.under l u ∙ S.same;
  }

  -- the last exponent is below q's and not the largest
  pub run_gap : high < hi → q ! i < row_at G high ! i → row_at G low ! i < q ! i
      → record { found = none; steps = taken + 1; ended = i } ≡ with_steps steps (descend_from n G q i lo hi)
  run_gap l b g = reached_gap S.reached within S.last S.under l b g ∙ S.same

  -- it is q's or the largest
  pub run_down : (high < hi → q ! i < row_at G high ! i) → (high < hi → q ! i ≤ row_at G low ! i)
      → with_steps (taken + 1) (descend_from n G q (i + 1) low high) ≡ with_steps steps (descend_from n G q i lo hi)
  run_down b g = reached_down S.reached within S.last S.under b g ∙ S.same

  pub run_shared : Reached n G q (i + 1) low high (taken + 1)
  run_shared = reached_shared S.reached within S.last

-- ---- the whole table

-- without rows the descent ends at once at the first variable
pub ready_empty : (n : ℕ) (G : Table) (q : Monomial) → Ready n G → length G ≡ 0 → record { found = none; steps = 0; ended = 1 } ≡ descent n G q
ready_empty zero G q R e = absurd (not-suc-le-zero R.some)
ready_empty (suc n) [] q R e = sym (descent_empty n q)
ready_empty (suc n) (u ∷ G) q R e = absurd (omega arith)

pub descent_all : (n : ℕ) (G : Table) (q : Monomial) → with_steps 0 (descend_from n G q 1 0 (length G)) ≡ descent n G q
unfolding descent
descent_all n G q =
    let e : suc n - 1 ≡ n = omega arith in
    let f : length G - 0 ≡ length G = omega arith in
    let z : 0 + (descend G q n 1 (numbers_from 0 (length G))).steps ≡ (descend G q n 1 (numbers_from 0 (length G))).steps = omega arith in
    rw (e, f, z)

pub reached_start : (n : ℕ) (G : Table) (q : Monomial) → Ready n G → length q ≡ n → 0 < length G → Reached n G q 1 0 (length G) 0
reached_start n G q R e p = record {
  ascends = R.ascends;
  limited = R.limited;
  group = range_all G p;
  sized = e;
  variable = omega arith;
  left = omega (arith, R.limited, R.six);
}

-- ---- the answer

pub found_ok : (o : Option ℕ) (e : ℕ) → number_found (result_ok (found_or_ended o e)) ≡ o
found_ok none e = refl
found_ok (some r) e = refl
