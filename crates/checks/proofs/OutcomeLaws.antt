-- Laws of outcomes: the number of an outcome and the value of an answer settle it.
--
--   refused_by m       the refusal of that number
--   refused_number     each refusal is the one of its number
--   number_positive    its number is above 0
--   refused_on, passed_on   what earlier checks refuse is refused, and passed on
--   same_outcome       two outcomes of one number, and of one value where they answer, are equal
use mathlib.Core.Path.{◌≡◌, refl, sym, ap, ◌∙◌}
use Prim.Native.Nat.{ℕ, ◌<◌}
use native.Mathlib.Omega.{arith}
use Rattle.std.specs.Prelude.{Result, Ok, Err, eqb}
use Rattle.checks.specs.Tests.{pick}
use Rattle.checks.specs.declared.Refusal.{Refusal}
use Rattle.checks.specs.declared.Refusal.TheVariants.{Variables, Length, Rows, Entry, Argument, Order, Incomplete, Room, Frame, Place, End, EqualRows}
use Rattle.checks.specs.Outcomes.{number, number_of, value_or}
use Rattle.checks.specs.Refusals.{Check, refusal}
use Rattle.checks.proofs.RefusalLaws.{refuses_first}
use mathlib.Core.List.{List, ◌++◌}

refused_by : ℕ → Refusal
refused_by m =
    pick (eqb m 1) Variables (pick (eqb m 2) Length (pick (eqb m 3) Rows (
    pick (eqb m 4) Entry (pick (eqb m 5) Argument (pick (eqb m 6) Order (
    pick (eqb m 7) Incomplete (pick (eqb m 8) Room (pick (eqb m 9) Frame (
    pick (eqb m 10) Place (pick (eqb m 11) End EqualRows))))))))))

refused_number : (e : Refusal) → refused_by (number e) ≡ e
unfolding refused_by
refused_number Variables = refl
refused_number Length = refl
refused_number Rows = refl
refused_number Entry = refl
refused_number Argument = refl
refused_number Order = refl
refused_number Incomplete = refl
refused_number Room = refl
refused_number Frame = refl
refused_number Place = refl
refused_number End = refl
refused_number EqualRows = refl

pub number_positive : (e : Refusal) → 0 < number e
number_positive Variables = omega arith
number_positive Length = omega arith
number_positive Rows = omega arith
number_positive Entry = omega arith
number_positive Argument = omega arith
number_positive Order = omega arith
number_positive Incomplete = omega arith
number_positive Room = omega arith
number_positive Frame = omega arith
number_positive Place = omega arith
number_positive End = omega arith
number_positive EqualRows = omega arith

pub same_outcome : {A : Type 0} (z : A) (a b : Result A Refusal) → number_of a ≡ number_of b → value_or z a ≡ value_or z b → a ≡ b
same_outcome z (Ok x) (Ok y) m v = ap (λ w. Ok w) v
same_outcome z (Ok x) (Err e) m v = absurd (omega (arith, m, number_positive e))
same_outcome z (Err d) (Ok y) m v = absurd (omega (arith, m, number_positive d))
same_outcome z (Err d) (Err e) m v = ap (λ w. Err w) (sym (refused_number d) ∙ ap refused_by m ∙ refused_number e)

-- what earlier checks refuse is refused, and passed on as it is
pub refused_on : (checks more : List Check) (e : Refusal) → number e ≡ refusal checks → number e ≡ refusal (checks ++ more)
refused_on checks more e m = refuses_first checks more (number e) m (λ z. omega (arith, z, number_positive e))

pub passed_on : {A : Type 0} (checks more : List Check) (e : Refusal) (r : Result A Refusal) → r ≡ Err e → number e ≡ refusal checks
    → number_of r ≡ refusal (checks ++ more)
passed_on checks more e r is m = rw is (refused_on checks more e m)
