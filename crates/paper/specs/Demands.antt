-- The three demands, as statements about every result that the promise of an operation allows.
--
--   Settled checks number   the operation answers exactly where no condition of its list holds, and otherwise refuses by
--                           the number of the first condition that does
--   DemandOne     each operation answers, or refuses by a number of the table exactly on its condition; a refusal leaves each lent byte
--   DemandTwo     marks follow rule 2; completion writes rule 5's table, ascending, complete, of the same ideal and the smallest such table, and
--                 is refused for room exactly when that table has more rows than the room
--   DemandThree   among the completed rows a monomial of the ideal has exactly one Janet divisor, and any other none; the descent finds
--                 what a scan finds within degree plus n steps; the count from the completed rows is the number of monomials outside
--   Completion, MarksWritten, OneDivisor   what stands in a buffer after an accepted completion, after accepted marks; one divisor and no other
--
-- The contract of each operation is the promise of that name; every function is proved to keep it.
use Rattle.std.specs.Prelude.{Result, Option, ⊤, ℤ}
use Rattle.checks.specs.Outcomes.{number_of}
use Rattle.checks.specs.declared.Refusal.{Refusal}
use Rattle.terms.specs.declared.RowNumber.{RowNumber}
use Rattle.terms.specs.declared.Degree.{Degree}
use Rattle.finding.specs.declared.Finding.{Finding}
use Rattle.std.specs.Prelude.{◌≡◌, List, [], ◌↔◌, ℕ, suc, ◌+◌, ◌*◌, ◌/◌, ◌%◌, ◌^◌, ◌≤◌, ◌<◌, length, take, drop, get_or}
use Rattle.std.proofs.Math.Option.{some}
use Rattle.std.specs.Borrow.{Bor}
use Rattle.terms.specs.Monomials.{Monomial, Table, ◌!◌, ◌∈◌, row_at, degree, OfSize}
use Rattle.terms.specs.Ideal.{Inside, SameIdeal}
use Rattle.terms.specs.Rows.{rows, first_rows}
use Rattle.checks.specs.Refusals.{Check, Accepts, Refuses}
use Rattle.distinct.specs.EqualRows.{distinct_checks}
use Rattle.division.specs.Cones.{DivisorAt}
use Rattle.division.specs.Janet.{Multiplicative, Complete}
use Rattle.division.specs.Scan.{scan}
use Rattle.marking.specs.Operation.{MarksPromise, marks_checks}
use Rattle.inside.specs.Operation.{InsidePromise, inside_checks}
use Rattle.finding.specs.Operation.{FindPromise, find_checks, find_row, find_steps}
use Rattle.completion.specs.Completed.{CompletedTable}
use Rattle.completing.specs.Operation.{CompletePromise, complete_checks, complete_rows, room_for}
use Rattle.counts.specs.Counts.{CountsOutside}
use Rattle.counting.specs.Operations.{CountPromise, PolynomialPromise, SteadyPromise, count_checks, steady_checks, count_value}
use Rattle.bundle.specs.Checks.{open_checks}
use Rattle.bundle.specs.Operation.{LocatePromise, located_n, located_rows, located_place, OpenPromise, opened_n, opened_rows, opened_bytes}
use Rattle.packing.specs.Operation.{WritePromise, write_checks}
use Rattle.bundle.specs.declared.Located.{Located}
use Rattle.bundle.specs.declared.OpenedTable.{OpenedTable}

pub record Settled (checks : List Check) (number : ℕ) : Type 1 where
  pub answers : Accepts checks → number ≡ 0
  pub answered : number ≡ 0 → Accepts checks
  pub refuses : (m : ℕ) → Refuses checks m → number ≡ m
  pub refused : 0 < number → Refuses checks number

pub record DemandOne : Type 1 where
  pub marks : (n : ℕ) (table buffer : List ℕ) (answer : Result ⊤ Refusal) (after : List ℕ) → MarksPromise n table buffer answer after
      → Settled (marks_checks n table (length buffer)) (number_of answer) × (0 < number_of answer → after ≡ buffer)
  pub inside : (n : ℕ) (table query : List ℕ) (answer : Result (Option RowNumber) Refusal) → InsidePromise n table query answer
      → Settled (inside_checks n table query) (number_of answer)
  pub complete : (n : ℕ) (table buffer : List ℕ) (answer : Result ℕ Refusal) (after : List ℕ) → CompletePromise n table buffer answer after
      → Settled (complete_checks n table (length buffer)) (number_of answer) × (0 < number_of answer → after ≡ buffer)
  pub find : (n : ℕ) (table query : List ℕ) (answer : Result Finding Refusal) → FindPromise n table query answer → Settled (find_checks n table query) (number_of answer)
  pub count : (n : ℕ) (table : List ℕ) (s : ℕ) (answer : Result ℕ Refusal) → CountPromise n table s answer → Settled (count_checks n table s) (number_of answer)
  pub polynomial : (n : ℕ) (table : List ℕ) (s : ℕ) (answer : Result ℤ Refusal) → PolynomialPromise n table s answer
      → Settled (count_checks n table s) (number_of answer)
  pub steady : (n : ℕ) (table : List ℕ) (answer : Result Degree Refusal) → SteadyPromise n table answer → Settled (steady_checks n table) (number_of answer)
  pub locate : (bundle : List ℕ) (j : ℕ) (answer : Result Located Refusal) → LocatePromise bundle j answer
      → Settled (open_checks bundle j) (number_of answer)
      × (0 < number_of answer → (located_n answer ≡ 0) × (located_rows answer ≡ 0) × (located_place answer ≡ 0))
  pub opened : (bundle : Bor (List ℕ)) (j : ℕ) (answer : Result OpenedTable Refusal) → OpenPromise bundle j answer
      → Settled (open_checks bundle.now j) (number_of answer)
      × (0 < number_of answer → (opened_n answer ≡ 0) × (opened_rows answer ≡ 0) × (opened_bytes answer ≡ []))
  pub write : (n : ℕ) (counts tables buffer : List ℕ) (answer : Result ℕ Refusal) (after : List ℕ) → WritePromise n counts tables buffer answer after
      → Settled (write_checks n counts tables (length buffer)) (number_of answer) × (0 < number_of answer → after ≡ buffer)

-- what stands in the buffer after an accepted completion of k rows
pub record Completion (n : ℕ) (table buffer : List ℕ) (k : ℕ) (after : List ℕ) : Type 0 where
  pub rule : CompletedTable n (rows n table) (first_rows n k after)
  pub complete : Complete n (first_rows n k after)
  pub ideal : SameIdeal n (rows n table) (first_rows n k after)
  -- any complete table of the same ideal has all these rows
  pub smallest : (K : Table) → OfSize n K → Complete n K → SameIdeal n (rows n table) K → (u : Monomial) → u ∈ first_rows n k after → u ∈ K
  pub behind : drop (k * n) after ≡ drop (k * n) buffer

-- what stands in the buffer after accepted marks: of row r's byte, bit j is set exactly when variable j + 1 is multiplicative for the row
pub record MarksWritten (n : ℕ) (table buffer after : List ℕ) : Type 0 where
  pub marks : (r j : ℕ) → r < length (rows n table) → j < n → (get_or after r 0 / 2 ^ j % 2 ≡ 1) ↔ Multiplicative (rows n table) (row_at (rows n table) r) (suc j)
  pub small : (r : ℕ) → r < length (rows n table) → get_or after r 0 < 2 ^ n
  pub behind : drop (length (rows n table)) after ≡ drop (length (rows n table)) buffer

pub record DemandTwo : Type 1 where
  -- rule 5's table is there for every table, and it is the only one
  pub table : (n : ℕ) (table : List ℕ) → (H : Table) × CompletedTable n (rows n table) H × ((K : Table) → CompletedTable n (rows n table) K → K ≡ H)
  pub marks : (n : ℕ) (table buffer : List ℕ) (answer : Result ⊤ Refusal) (after : List ℕ) → MarksPromise n table buffer answer after
      → number_of answer ≡ 0 → MarksWritten n table buffer after
  pub complete : (n : ℕ) (table buffer : List ℕ) (answer : Result ℕ Refusal) (after : List ℕ) → CompletePromise n table buffer answer after
      → number_of answer ≡ 0 → Completion n table buffer (complete_rows answer) after
  -- 8 exactly when rule 5's table has more rows than the room
  pub room : (n : ℕ) (table buffer : List ℕ) (answer : Result ℕ Refusal) (after : List ℕ) → CompletePromise n table buffer answer after
      → Accepts (distinct_checks n table) → (H : Table) → CompletedTable n (rows n table) H
      → (number_of answer ≡ 8) ↔ (room_for n (length buffer) < length H)

-- row number r is the only one whose cone holds q
pub record OneDivisor (G : Table) (q : Monomial) (r : ℕ) : Type 0 where
  pub divisor : DivisorAt Multiplicative G r q
  pub only : (s : ℕ) → DivisorAt Multiplicative G s q → s ≡ r

pub record DemandThree : Type 1 where
  pub one : (n : ℕ) (table buffer : List ℕ) (answer : Result ℕ Refusal) (after : List ℕ) → CompletePromise n table buffer answer after
      → number_of answer ≡ 0 → (q : Monomial) → length q ≡ n → ((i : ℕ) → q ! i ≤ 255) → Inside (rows n table) q
      → (r : ℕ) × OneDivisor (first_rows n (complete_rows answer) after) q r
  pub none : (n : ℕ) (table buffer : List ℕ) (answer : Result ℕ Refusal) (after : List ℕ) → CompletePromise n table buffer answer after
      → number_of answer ≡ 0 → (q : Monomial) → length q ≡ n → (Inside (rows n table) q → ⊥)
      → (r : ℕ) → DivisorAt Multiplicative (first_rows n (complete_rows answer) after) r q → ⊥
  -- find gives row number r exactly when that row is the Janet divisor; this is what a scan of all rows finds
  pub found : (n : ℕ) (table query : List ℕ) (answer : Result Finding Refusal) → FindPromise n table query answer → number_of answer ≡ 0
      → (r : ℕ) → (find_row answer ≡ some r) ↔ DivisorAt Multiplicative (rows n table) r query
  pub descent : (n : ℕ) (table query : List ℕ) (answer : Result Finding Refusal) → FindPromise n table query answer → number_of answer ≡ 0
      → (find_row answer ≡ scan (rows n table) query) × (find_steps answer ≤ degree query + n)
  -- on the completed rows find answers, and gives a row exactly where some given row divides the query
  pub completed_find : (n : ℕ) (table buffer : List ℕ) (completed : Result ℕ Refusal) (after : List ℕ) → CompletePromise n table buffer completed after
      → number_of completed ≡ 0 → (query : List ℕ) → length query ≡ n → (answer : Result Finding Refusal)
      → FindPromise n (take (complete_rows completed * n) after) query answer
      → (number_of answer ≡ 0) × (((r : ℕ) × (find_row answer ≡ some r)) ↔ Inside (rows n table) query)
  pub count : (n : ℕ) (table buffer : List ℕ) (completed : Result ℕ Refusal) (after : List ℕ) → CompletePromise n table buffer completed after
      → number_of completed ≡ 0 → (s : ℕ) → s ≤ 300 → (answer : Result ℕ Refusal) → CountPromise n (take (complete_rows completed * n) after) s answer
      → (number_of answer ≡ 0) × CountsOutside n (rows n table) s (count_value answer)
