-- What `inside` promises.
--
--   inside_checks n table query  the checks in order: 1 to 4 and 12 of the table, 5
--   inside_row       of an answer: the row number, if there is one. Beside a refusal none
--   InsidePromise n table query answer   the promise: the number is that of the first check that refuses, and the row is the first that
--                    divides the query
use Rattle.std.specs.Prelude.{◌≡◌, List, [], ◌∷◌, ◌++◌, ℕ, Result}
use Rattle.std.specs.Prelude as code
use Rattle.std.proofs.Math.Option.{Option, none}
use Rattle.terms.specs.Rows.{rows}
use Rattle.terms.specs.declared.RowNumber.{RowNumber}
use Rattle.checks.specs.declared.Refusal.{Refusal}
use Rattle.checks.specs.Outcomes.{number_of, value_or}
use Rattle.checks.specs.Refusals.{Check, refusal, answered}
use Rattle.distinct.specs.EqualRows.{distinct_checks}
use Rattle.division.specs.Checks.{length_check}
use Rattle.division.specs.Scan.{number_found}
use Rattle.inside.specs.FirstDividing.{first_dividing}

abbrev pub inside_checks : ℕ → List ℕ → List ℕ → List Check
inside_checks n table query = distinct_checks n table ++ (length_check n query ∷ [])

abbrev pub inside_row : Result (code.Option RowNumber) Refusal → Option ℕ
inside_row answer = number_found (value_or code.None answer)

pub record InsidePromise (n : ℕ) (table query : List ℕ) (answer : Result (code.Option RowNumber) Refusal) : Type 0 where
  pub number : number_of answer ≡ refusal (inside_checks n table query)
  pub row : inside_row answer ≡ answered (inside_checks n table query) (first_dividing (rows n table) query) none
