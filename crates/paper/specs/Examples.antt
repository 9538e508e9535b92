-- The paper's starred examples, A to J, of the rules themselves, under one statement; and D's bundle written.
--
--   StarredExamples   a field for each example
--   Gives d o k       a descent gives this row number, in so many steps
--
-- The tables that they speak of, table_b to completed_i, stand in `terms/specs/ExampleTables`.
use Rattle.checks.specs.declared.Refusal.TheVariants.{Room}
use Rattle.checks.specs.declared.Refusal.{Refusal}
use Rattle.std.specs.Prelude.{Result, Ok, Err}
use Rattle.std.specs.Prelude.{◌≡◌, List, [], ◌∷◌, ℕ, pos, length}
use Rattle.std.proofs.Math.Option.{Option, none, some}
use Rattle.terms.specs.Monomials.{Monomial, EqualRows}
use Rattle.checks.specs.Refusals.{refusal}
use Rattle.terms.specs.ExampleTables.{table_b, table_c, table_d, bytes_d, bundle_d, listing_d, completed_d, table_e, bytes_e, bundle_e, table_f, completed_f, table_i}
use Rattle.terms.specs.ExampleTables.{completed_i}
use Rattle.terms.specs.Order.{Ascending}
use Rattle.division.specs.Janet.{Complete, table_marks}
use Rattle.division.specs.Descent.{Descent, descent}
use Rattle.completion.specs.Completed.{CompletedTable}
use Rattle.marking.specs.Operation.{marks_checks}
use Rattle.inside.specs.Operation.{inside_checks}
use Rattle.finding.specs.Operation.{find_checks}
use Rattle.completing.specs.Operation.{complete_checks, CompletePromise}
use Rattle.counts.specs.Counts.{count_at, polynomial_at, steady_of}
use Rattle.counting.specs.Operations.{count_checks}
use Rattle.bundle.specs.Checks.{open_checks}
use Rattle.listing.specs.Text.{bundle_text}
use Rattle.packing.specs.Operation.{write_checks, WritePromise}

-- a descent gives this row number, in so many steps
pub record Gives (d : Descent) (o : Option ℕ) (k : ℕ) : Type 0 where
  pub found : d.found ≡ o
  pub steps : d.steps ≡ k

pub record StarredExamples : Type 0 where
  -- no rows, n = 2: completed 0 rows, find gives none in 0 steps, count at 1 is 3
  pub A : CompletedTable 2 [] [] × ((q : Monomial) → Gives (descent 2 [] q) none 0) × (count_at 2 [] 1 ≡ 3)
  -- row 0 0: completed 1 row, marks 3, every count 0
  pub B : CompletedTable 2 table_b table_b × (table_marks 2 table_b ≡ 3 ∷ []) × ((s : ℕ) → count_at 2 table_b s ≡ 0)
  -- row 3, n = 1: count at 2 is 3, polynomial 3 at every s
  pub C : (count_at 1 table_c 2 ≡ 3) × ((s : ℕ) → polynomial_at 1 table_c s ≡ pos 3)
  -- the listing, byte for byte, its completed rows, their marks and steady degree; count at 3 is 6, polynomial at 0 is 3 while the count is 1
  pub D : (bundle_text bundle_d ≡ listing_d) × CompletedTable 2 table_d completed_d × (table_marks 2 completed_d ≡ 2 ∷ 2 ∷ 3 ∷ []) × (steady_of completed_d ≡ 3)
      × (count_at 2 completed_d 3 ≡ 6) × (polynomial_at 2 completed_d 0 ≡ pos 3) × (count_at 2 completed_d 0 ≡ 1)
  -- rows 1 0 and 1 0: refused by 12 for marks, inside, complete, write, open and the listing, whatever else is asked; and by 6 for find and count
  pub E : EqualRows table_e × ((size : ℕ) → refusal (marks_checks 2 bytes_e size) ≡ 12) × ((query : List ℕ) → refusal (inside_checks 2 bytes_e query) ≡ 12)
      × ((size : ℕ) → refusal (complete_checks 2 bytes_e size) ≡ 12) × ((room : ℕ) → refusal (write_checks 2 (2 ∷ []) bytes_e room) ≡ 12)
      × ((j : ℕ) → refusal (open_checks bundle_e j) ≡ 12) × (bundle_text bundle_e ≡ 82 ∷ 32 ∷ 49 ∷ 50 ∷ 10 ∷ [])
      × ((a b : ℕ) → refusal (find_checks 2 bytes_e (a ∷ b ∷ [])) ≡ 6) × (refusal (count_checks 2 bytes_e 0) ≡ 6)
  -- ascending, with marks 4, 4, 6, 6, 7; not complete
  pub F : Ascending table_f × (table_marks 3 table_f ≡ 4 ∷ 4 ∷ 6 ∷ 6 ∷ 7 ∷ []) × (Complete 3 table_f → ⊥)
  -- in F, find of 1 2 5 gives row 3 in 4 steps; of 2 0 1, none in 2 steps
  pub G : Gives (descent 3 table_f (1 ∷ 2 ∷ 5 ∷ [])) (some 3) 4 × Gives (descent 3 table_f (2 ∷ 0 ∷ 1 ∷ [])) none 2
  -- F completes to 11 rows
  pub H : CompletedTable 3 table_f completed_f × (length completed_f ≡ 11)
  -- document 004's rows, columns reversed, complete to five rows
  pub I : CompletedTable 3 table_i completed_i
  -- D's rows with 6 bytes of room are accepted, with 5 refused by 8
  pub J : ((buffer : List ℕ) (answer : Result ℕ Refusal) (after : List ℕ) → length buffer ≡ 6 → CompletePromise 2 bytes_d buffer answer after → answer ≡ Ok 3)
      × ((buffer : List ℕ) (answer : Result ℕ Refusal) (after : List ℕ) → length buffer ≡ 5 → CompletePromise 2 bytes_d buffer answer after → answer ≡ Err Room)
  -- D's rows, written with 10 bytes of room, are the listing's bundle; with 9 they are refused by 8
  pub d_written : ((buffer : List ℕ) (answer : Result ℕ Refusal) (after : List ℕ) → length buffer ≡ 10 → WritePromise 2 (2 ∷ []) bytes_d buffer answer after
      → (answer ≡ Ok 10) × (after ≡ bundle_d))
      × ((buffer : List ℕ) (answer : Result ℕ Refusal) (after : List ℕ) → length buffer ≡ 9 → WritePromise 2 (2 ∷ []) bytes_d buffer answer after
      → answer ≡ Err Room)
