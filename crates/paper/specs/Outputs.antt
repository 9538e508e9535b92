-- What goes out, beside the three demands: the values of an accepted answer, the numbers of the exported functions, the listing.
--
--   ValueDemand     inside gives the first row that divides, polynomial and steady what rules 8 and 9 say
--   ExportDemand    an exported function returns the operation's number; beside a refusal lent bytes stay and the numbers out are 0
--   RowDemand       65,535 out of inside and find means exactly that there is no row: any other number is below 4,096, and is the row
--   TableText b j H   part j of the output is the text of the completed table H, or the line that says that there is no room for it
--   ListingDemand   what the library makes for `janet` to write: part j of an accepted bundle is the text of rule 5's table of table j, a
--                   refused bundle has the line of its refusal, and the parts are the whole
use Rattle.std.specs.Prelude.{Result, Option}
use Rattle.checks.specs.Outcomes.{number_of}
use Rattle.checks.specs.declared.Refusal.{Refusal}
use Rattle.terms.specs.declared.RowNumber.{RowNumber}
use Rattle.terms.specs.declared.Degree.{Degree}
use Rattle.std.specs.Prelude.{◌≡◌, List, ◌↔◌, ℕ, ◌≤◌, ◌<◌, ℤ, pos, length, take}
use Rattle.terms.specs.Monomials.{Table}
use Rattle.terms.specs.Ideal.{Inside}
use Rattle.terms.specs.Rows.{rows}
use Rattle.checks.specs.Refusals.{Accepts, Refuses}
use Rattle.marking.specs.Operation.{marks_checks}
use Rattle.inside.specs.Operation.{InsidePromise, inside_checks, inside_row}
use Rattle.inside.specs.FirstDividing.{FirstDividing, DividesFirst}
use Rattle.division.specs.Cones.{DivisorAt}
use Rattle.division.specs.Janet.{Multiplicative}
use Rattle.finding.specs.Operation.{find_checks}
use Rattle.completion.specs.Completed.{CompletedTable}
use Rattle.completing.specs.Operation.{complete_checks}
use Rattle.counts.specs.Counts.{polynomial_at, steady_of}
use Rattle.counting.specs.Operations.{PolynomialPromise, SteadyPromise, count_checks, steady_checks, polynomial_value}
use Rattle.counting.specs.Operations.{steady_value}
use Rattle.bundle.specs.Format.{variables_of, table_of}
use Rattle.bundle.specs.Checks.{bundle_checks, open_checks}
use Rattle.packing.specs.Operation.{write_checks}
use Rattle.listing.specs.Operation.{PartPromise}
use Rattle.listing.specs.Text.{completed_text, no_room_line, refusal_line, part_text, parts_text, bundle_text}
use Rattle.interface.specs.Exports.{MarksExport, InsideExport, CompleteExport, FindExport, CountExport, PolynomialExport, SteadyExport, OpenExport}
use Rattle.interface.specs.Exports.{WriteExport}
use Rattle.paper.specs.Demands.{Settled}

pub record ValueDemand : Type 0 where
  pub inside : (n : ℕ) (table query : List ℕ) (answer : Result (Option RowNumber) Refusal) → InsidePromise n table query answer → number_of answer ≡ 0
      → DividesFirst (rows n table) query (inside_row answer)
  pub polynomial : (n : ℕ) (table : List ℕ) (s : ℕ) (answer : Result ℤ Refusal) → PolynomialPromise n table s answer → number_of answer ≡ 0
      → polynomial_value answer ≡ polynomial_at n (rows n table) s
  pub steady : (n : ℕ) (table : List ℕ) (answer : Result Degree Refusal) → SteadyPromise n table answer → number_of answer ≡ 0
      → steady_value answer ≡ steady_of (rows n table)

pub record ExportDemand : Type 1 where
  pub marks : (n : ℕ) (table buffer : List ℕ) (number : ℕ) (after : List ℕ) → MarksExport n table buffer number after
      → Settled (marks_checks n table (length buffer)) number × (0 < number → after ≡ buffer)
  pub inside : (n : ℕ) (table query : List ℕ) (number row : ℕ) → InsideExport n table query number row
      → Settled (inside_checks n table query) number × (0 < number → row ≡ 0)
  pub complete : (n : ℕ) (table buffer : List ℕ) (number count : ℕ) (after : List ℕ) → CompleteExport n table buffer number count after
      → Settled (complete_checks n table (length buffer)) number × (0 < number → (count ≡ 0) × (after ≡ buffer))
  pub find : (n : ℕ) (table query : List ℕ) (number row steps : ℕ) → FindExport n table query number row steps
      → Settled (find_checks n table query) number × (0 < number → (row ≡ 0) × (steps ≡ 0))
  pub count : (n : ℕ) (table : List ℕ) (s number value : ℕ) → CountExport n table s number value
      → Settled (count_checks n table s) number × (0 < number → value ≡ 0)
  pub polynomial : (n : ℕ) (table : List ℕ) (s number : ℕ) (value : ℤ) → PolynomialExport n table s number value
      → Settled (count_checks n table s) number × (0 < number → value ≡ pos 0)
  pub steady : (n : ℕ) (table : List ℕ) (number degree : ℕ) → SteadyExport n table number degree
      → Settled (steady_checks n table) number × (0 < number → degree ≡ 0)
  pub opened : (bundle : List ℕ) (j number n count offset : ℕ) → OpenExport bundle j number n count offset
      → Settled (open_checks bundle j) number × (0 < number → (n ≡ 0) × (count ≡ 0) × (offset ≡ 0))
  pub write : (n : ℕ) (counts tables buffer : List ℕ) (number size : ℕ) (after : List ℕ) → WriteExport n counts tables buffer number size after
      → Settled (write_checks n counts tables (length buffer)) number × (0 < number → (size ≡ 0) × (after ≡ buffer))

pub record RowDemand : Type 0 where
  pub inside : (n : ℕ) (table query : List ℕ) (number row : ℕ) → InsideExport n table query number row → number ≡ 0
      → ((row ≡ 65535) ↔ (Inside (rows n table) query → ⊥)) × ((row ≡ 65535 → ⊥) → (row < 4096) × FirstDividing (rows n table) query row)
  pub find : (n : ℕ) (table query : List ℕ) (number row steps : ℕ) → FindExport n table query number row steps → number ≡ 0
      → ((row ≡ 65535) ↔ ((r : ℕ) → DivisorAt Multiplicative (rows n table) r query → ⊥))
      × ((row ≡ 65535 → ⊥) → (row < 4096) × DivisorAt Multiplicative (rows n table) row query)

pub record TableText (b : List ℕ) (j : ℕ) (H : Table) : Type 0 where
  pub room : length H ≤ 4096 → part_text b j ≡ completed_text (variables_of b) j (length (table_of b j)) H
  pub none : 4096 < length H → part_text b j ≡ no_room_line j

pub record ListingDemand : Type 1 where
  pub part : (bundle : List ℕ) (j : ℕ) (before : List ℕ) (size : ℕ) (after : List ℕ) → PartPromise bundle j before size after
      → take size after ≡ part_text bundle j
  pub table : (bundle : List ℕ) (j : ℕ) → Accepts (open_checks bundle j) → (H : Table) → CompletedTable (variables_of bundle) (table_of bundle j) H
      → TableText bundle j H
  pub refused : (bundle : List ℕ) (m : ℕ) → Refuses (bundle_checks bundle) m → bundle_text bundle ≡ refusal_line m
  pub whole : (bundle : List ℕ) → bundle_text bundle ≡ parts_text bundle 0 16
