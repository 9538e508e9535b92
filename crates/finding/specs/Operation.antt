-- What `find` promises.
--
--   find_checks n table query  the checks in order: 1 to 4 of the table, 5, 6
--   nothing          what stands beside a refusal: no row and no step
--   find_row, find_steps   of an answer: the row number, if there is one, and the steps
--   FindPromise n table query answer   the promise: the number is that of the first check that refuses, row and steps are what rule 6's descent gives
use Rattle.std.specs.Prelude.{◌≡◌, List, [], ◌∷◌, ◌++◌, ℕ, Result}
use Rattle.std.specs.Prelude as code
use Rattle.std.proofs.Math.Option.{Option, none}
use Rattle.terms.specs.Rows.{rows}
use Rattle.checks.specs.declared.Refusal.{Refusal}
use Rattle.checks.specs.Outcomes.{number_of, value_or}
use Rattle.checks.specs.Refusals.{Check, refusal, answered}
use Rattle.terms.specs.TableChecks.{table_checks}
use Rattle.division.specs.Descent.{descent}
use Rattle.division.specs.Scan.{number_found}
use Rattle.division.specs.Checks.{length_check, order_check}
use Rattle.finding.specs.declared.Finding.{Finding}

-- ---- the checks

abbrev pub find_checks : ℕ → List ℕ → List ℕ → List Check
find_checks n table query = table_checks n table ++ (length_check n query ∷ (order_check n table ∷ []))

-- ---- the answer

abbrev pub nothing : Finding
nothing = record { row = code.None; steps = 0 }

abbrev pub find_row : Result Finding Refusal → Option ℕ
find_row answer = number_found (value_or nothing answer).row

abbrev pub find_steps : Result Finding Refusal → ℕ
find_steps answer = (value_or nothing answer).steps

pub record FindPromise (n : ℕ) (table query : List ℕ) (answer : Result Finding Refusal) : Type 0 where
  pub number : number_of answer ≡ refusal (find_checks n table query)
  pub row : find_row answer ≡ answered (find_checks n table query) (descent n (rows n table) query).found none
  pub steps : find_steps answer ≡ answered (find_checks n table query) (descent n (rows n table) query).steps 0
