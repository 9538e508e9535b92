-- What the exported functions promise: the operation's own promise, with its answer as the numbers that C sees.
--
--   row_number f     a row number as it is handed out: 65,535 for no row
--   inside_out, row_out   the row number out for each case of an answer: 0 beside a refusal
--   MarksExport n table buffer number after, InsideExport n table query number row,
--   FindExport n table query number row steps   some answer keeps the operation's promise, and the numbers are those of that answer
--   CompleteExport, CountExport, PolynomialExport, SteadyExport, OpenExport, WriteExport   likewise
use Rattle.std.specs.Prelude.{◌≡◌, List, ℕ, ℤ, pos, Option, Some, None, Result, Ok, Err, ⊤}
use Rattle.checks.specs.declared.Refusal.{Refusal}
use Rattle.checks.specs.Outcomes.{number_of, value_or}
use Rattle.terms.specs.declared.RowNumber.{RowNumber}
use Rattle.terms.specs.declared.Degree.{Degree}
use Rattle.marking.specs.Operation.{MarksPromise}
use Rattle.inside.specs.Operation.{InsidePromise}
use Rattle.completing.specs.Operation.{CompletePromise}
use Rattle.finding.specs.Operation.{FindPromise, find_steps}
use Rattle.finding.specs.declared.Finding.{Finding}
use Rattle.counting.specs.Operations.{CountPromise, PolynomialPromise, SteadyPromise, steady_value}
use Rattle.bundle.specs.Operation.{LocatePromise, located_n, located_rows, located_place}
use Rattle.bundle.specs.declared.Located.{Located}
use Rattle.packing.specs.Operation.{WritePromise}

pub record MarksExport (n : ℕ) (table buffer : List ℕ) (number : ℕ) (after : List ℕ) : Type 0 where
  pub answer : Result ⊤ Refusal
  pub promise : MarksPromise n table buffer answer after
  pub returned : number ≡ number_of answer

abbrev pub row_number : Option RowNumber → ℕ
row_number (Some r) = r.0
row_number None = 65535

abbrev pub inside_out : Result (Option RowNumber) Refusal → ℕ
inside_out (Ok found) = row_number found
inside_out (Err e) = 0

pub record InsideExport (n : ℕ) (table query : List ℕ) (number row : ℕ) : Type 0 where
  pub answer : Result (Option RowNumber) Refusal
  pub promise : InsidePromise n table query answer
  pub returned : number ≡ number_of answer
  pub found : row ≡ inside_out answer

pub record CompleteExport (n : ℕ) (table buffer : List ℕ) (number count : ℕ) (after : List ℕ) : Type 0 where
  pub answer : Result ℕ Refusal
  pub promise : CompletePromise n table buffer answer after
  pub returned : number ≡ number_of answer
  pub counted : count ≡ value_or 0 answer

-- the row number, 65,535 for none
abbrev pub row_out : Result Finding Refusal → ℕ
row_out (Ok f) = row_number f.row
row_out (Err e) = 0

pub record FindExport (n : ℕ) (table query : List ℕ) (number row steps : ℕ) : Type 0 where
  pub answer : Result Finding Refusal
  pub promise : FindPromise n table query answer
  pub returned : number ≡ number_of answer
  pub found : row ≡ row_out answer
  pub taken : steps ≡ find_steps answer

pub record CountExport (n : ℕ) (table : List ℕ) (s number value : ℕ) : Type 0 where
  pub answer : Result ℕ Refusal
  pub promise : CountPromise n table s answer
  pub returned : number ≡ number_of answer
  pub counted : value ≡ value_or 0 answer

pub record PolynomialExport (n : ℕ) (table : List ℕ) (s number : ℕ) (value : ℤ) : Type 0 where
  pub answer : Result ℤ Refusal
  pub promise : PolynomialPromise n table s answer
  pub returned : number ≡ number_of answer
  pub value_is : value ≡ value_or (pos 0) answer

pub record SteadyExport (n : ℕ) (table : List ℕ) (number degree : ℕ) : Type 0 where
  pub answer : Result Degree Refusal
  pub promise : SteadyPromise n table answer
  pub returned : number ≡ number_of answer
  pub degree_is : degree ≡ steady_value answer

pub record OpenExport (bundle : List ℕ) (j number n rows offset : ℕ) : Type 0 where
  pub answer : Result Located Refusal
  pub promise : LocatePromise bundle j answer
  pub returned : number ≡ number_of answer
  pub variables : n ≡ located_n answer
  pub count : rows ≡ located_rows answer
  pub begins : offset ≡ located_place answer

pub record WriteExport (n : ℕ) (counts tables buffer : List ℕ) (number size : ℕ) (after : List ℕ) : Type 0 where
  pub answer : Result ℕ Refusal
  pub promise : WritePromise n counts tables buffer answer after
  pub returned : number ≡ number_of answer
  pub size_is : size ≡ value_or 0 answer
