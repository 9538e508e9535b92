-- The examples A to D of the rules, as far as they are counts.
--
--   example_a        no rows, n = 2: the count at 1 is 3
--   example_b        the row 0 0: every count is 0
--   example_c_count, example_c_polynomial        the row 3, n = 1: the count at 2 is 3, the polynomial is 3 at every s
--   example_d        the rows 0 2, 1 2, 2 1: the count at 3 is 6; the polynomial at 0 is 3 while the count is 1; the steady degree is 3
use mathlib.Core.Path.{◌≡◌, refl, sym, ap, ap₂, ◌∙◌}
use mathlib.Core.List.Memᴰ
use mathlib.Core.List.{[], ◌∷◌}
use Prim.Native.Nat.{ℕ, zero, suc, ◌+◌, ◌-◌}
use native.Mathlib.Omega.{arith}
use lib.IntN.{ℤ, pos, ◌+ℤ◌, ◌-ℤ◌, +ℤ_idr, +ℤ-neg_ℤ_cancel, pos-+ℤ-pos}
use Rattle.binomial.specs.Choose.{choose}
use Rattle.binomial.proofs.ChooseLaws.{choose_one}
use Rattle.terms.specs.Monomials.{◌!◌, degree}
use Rattle.terms.specs.ExampleTables.{table_b, table_c, completed_d}
use Rattle.terms.specs.Ideal.{inside_test, divides_test}
use Rattle.division.proofs.Facade.{example_c_marks_in, example_d_marks_in}
use Rattle.counts.specs.Counts.{sumℤ, raised, extended, monomials_up_to, count_at, odd_test, chooseℤ, signed_share, polynomial_at, steady_of}
use Rattle.counts.proofs.CountLaws.{count_zeros}
use Rattle.counts.proofs.PolynomialLaws.{subℕ_pos}

pub example_a : count_at 2 [] 1 ≡ 3
unfolding count_at monomials_up_to extended inside_test
example_a = refl

pub example_b : (s : ℕ) → count_at 2 table_b s ≡ 0
example_b s = count_zeros 2 table_b (0 ∷ 0 ∷ []) (Memᴰ.head refl) zeros s
  where
    zeros : (i : ℕ) → (0 ∷ 0 ∷ []) ! i ≡ 0
    zeros zero = refl
    zeros (suc zero) = refl
    zeros (suc (suc zero)) = refl
    zeros (suc (suc (suc i))) = refl

pub example_c_count : count_at 1 table_c 2 ≡ 3
unfolding count_at monomials_up_to extended raised inside_test divides_test
example_c_count = refl

-- the row's share from 2 on
share_c : (k : ℕ) → signed_share (suc (suc k)) 3 1 ≡ pos k
unfolding signed_share chooseℤ
share_c k =
    let e : suc (suc k) + 1 - 3 ≡ k = omega arith in
    ap (λ (t : ℤ). chooseℤ t 1) (subℕ_pos (suc (suc k) + 1) 3 (omega arith) ∙ ap pos e) ∙ ap pos (choose_one k)

all_c : (k : ℕ) → choose (1 + suc (suc k)) 1 ≡ 3 + k
all_c k = choose_one (1 + suc (suc k)) ∙ omega arith

-- C(s + 1, 1) less the share of the row, which has one mark
polynomial_c : (s : ℕ) → polynomial_at 1 table_c s ≡ pos (choose (1 + s) 1) -ℤ (signed_share s 3 1 +ℤ pos 0)
unfolding polynomial_at sumℤ degree
polynomial_c s = rw example_c_marks_in

-- C(s + 1, 1) less C(s − 2, 1): from 2 on s + 1 less s − 2, and at 0 and 1 it is computed.
pub example_c_polynomial : (s : ℕ) → polynomial_at 1 table_c s ≡ pos 3
unfolding signed_share chooseℤ odd_test choose
example_c_polynomial zero = polynomial_c 0
example_c_polynomial (suc zero) = polynomial_c 1
example_c_polynomial (suc (suc k)) =
    polynomial_c (suc (suc k))
    ∙ ap₂ (λ (x y : ℤ). x -ℤ y) (ap pos (all_c k) ∙ sym (pos-+ℤ-pos 3 k)) (ap (λ (x : ℤ). x +ℤ pos 0) (share_c k) ∙ +ℤ_idr (pos k))
    ∙ +ℤ-neg_ℤ_cancel (pos 3) (pos k)

-- the rows have 1, 1 and 2 marks
polynomial_d : polynomial_at 2 completed_d 0 ≡ pos 3
unfolding polynomial_at sumℤ signed_share chooseℤ odd_test choose degree
polynomial_d = rw (example_d_marks_in.0, example_d_marks_in.1, example_d_marks_in.2)

pub example_d : (count_at 2 completed_d 3 ≡ 6) × (count_at 2 completed_d 0 ≡ 1) × (polynomial_at 2 completed_d 0 ≡ pos 3) × (steady_of completed_d ≡ 3)
unfolding count_at monomials_up_to extended raised inside_test divides_test steady_of
example_d = (refl, refl, polynomial_d, refl)
