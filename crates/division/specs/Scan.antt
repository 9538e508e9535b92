-- A Janet divisor looked for row by row, in a table whose rows stand in any order.
--
--   Answers M G q o  o is a row number that is a divisor of q, or none where there is none
--   FirstDivisor M G q r   row number r is a divisor of q, and no earlier one is
--   AnswersFirst M G q o   o is the first row number that is a divisor of q, or none where there is none
--   scan G q         the first row number of a Janet divisor of q in G
--   found_test o     o is a row number, and not none
--   found_row o      o as code gives it
--   number_found f   what code gives, as a number
use Rattle.std.specs.Prelude.{Bool, true, false, [], ◌∷◌, ℕ, suc, ◌<◌}
use Rattle.std.proofs.Math.Option.{Option, none, some}
use Rattle.checks.specs.Tests.{pick}
use Rattle.terms.specs.Monomials.{Monomial, Table}
use Rattle.division.specs.Cones.{Division, DivisorAt}
use Rattle.division.specs.Janet.{janet_test}
use Rattle.terms.specs.declared.RowNumber.{RowNumber}
use Rattle.std.specs.Prelude as code

abbrev pub Answers : Division → Table → Monomial → Option ℕ → Type 0
Answers M G q none = (r : ℕ) → DivisorAt M G r q → ⊥
Answers M G q (some r) = DivisorAt M G r q

pub record FirstDivisor (M : Division) (G : Table) (q : Monomial) (r : ℕ) : Type 0 where
  pub divisor : DivisorAt M G r q
  pub first : (s : ℕ) → s < r → DivisorAt M G s q → ⊥

abbrev pub AnswersFirst : Division → Table → Monomial → Option ℕ → Type 0
AnswersFirst M G q none = (r : ℕ) → DivisorAt M G r q → ⊥
AnswersFirst M G q (some r) = FirstDivisor M G q r

-- among the rows, which stand in G from row r on
unfoldable pub scan_from : Table → Monomial → ℕ → Table → Option ℕ
unfolding janet_test
scan_from G q r [] = none
scan_from G q r (u ∷ rows) = pick (janet_test G u q) (some r) (scan_from G q (suc r) rows)

unfoldable pub scan : Table → Monomial → Option ℕ
unfolding scan_from
scan G q = scan_from G q 0 G

abbrev pub found_test : Option ℕ → Bool
found_test none = false
found_test (some r) = true

abbrev pub found_row : Option ℕ → code.Option RowNumber
found_row none = code.None
found_row (some r) = code.Some (record { 0 = r })

abbrev pub number_found : code.Option RowNumber → Option ℕ
number_found code.None = none
number_found (code.Some r) = some r.0
