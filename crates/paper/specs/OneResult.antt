-- One result: any two results that the promise of an operation allows are equal, answer and lent bytes.
-- Of an opened table its numbers, its bytes and where they stand are equal (`SameOpened`).
--
--   OneResult     a field for each public operation
--   OneExport     a field for each exported function
use Rattle.finding.specs.declared.Finding.{Finding}
use Rattle.terms.specs.declared.Degree.{Degree}
use Rattle.terms.specs.declared.RowNumber.{RowNumber}
use Rattle.checks.specs.declared.Refusal.{Refusal}
use Rattle.std.specs.Prelude.{Result, Option, ⊤}
use Rattle.std.specs.Prelude.{◌≡◌, List, ℕ, ℤ}
use Rattle.std.specs.Borrow.{Bor}
use Rattle.marking.specs.Operation.{MarksPromise}
use Rattle.inside.specs.Operation.{InsidePromise}
use Rattle.finding.specs.Operation.{FindPromise}
use Rattle.completing.specs.Operation.{CompletePromise}
use Rattle.counting.specs.Operations.{CountPromise, PolynomialPromise, SteadyPromise}
use Rattle.bundle.specs.Operation.{LocatePromise, OpenPromise, SameOpened}
use Rattle.bundle.specs.declared.Located.{Located}
use Rattle.bundle.specs.declared.OpenedTable.{OpenedTable}
use Rattle.packing.specs.Operation.{WritePromise}
use Rattle.listing.specs.Operation.{PartPromise}
use Rattle.interface.specs.Exports.{MarksExport, InsideExport, CompleteExport, FindExport, CountExport, PolynomialExport, SteadyExport, OpenExport}
use Rattle.interface.specs.Exports.{WriteExport}

pub record OneResult : Type 0 where
  pub marks : (n : ℕ) (table buffer : List ℕ) (a b : Result ⊤ Refusal) (x y : List ℕ) → MarksPromise n table buffer a x
      → MarksPromise n table buffer b y → (a ≡ b) × (x ≡ y)
  pub inside : (n : ℕ) (table query : List ℕ) (a b : Result (Option RowNumber) Refusal) → InsidePromise n table query a → InsidePromise n table query b → a ≡ b
  pub find : (n : ℕ) (table query : List ℕ) (a b : Result Finding Refusal) → FindPromise n table query a → FindPromise n table query b → a ≡ b
  pub complete : (n : ℕ) (table buffer : List ℕ) (a b : Result ℕ Refusal) (x y : List ℕ) → CompletePromise n table buffer a x
      → CompletePromise n table buffer b y → (a ≡ b) × (x ≡ y)
  pub count : (n : ℕ) (table : List ℕ) (s : ℕ) (a b : Result ℕ Refusal) → CountPromise n table s a → CountPromise n table s b → a ≡ b
  pub polynomial : (n : ℕ) (table : List ℕ) (s : ℕ) (a b : Result ℤ Refusal) → PolynomialPromise n table s a → PolynomialPromise n table s b → a ≡ b
  pub steady : (n : ℕ) (table : List ℕ) (a b : Result Degree Refusal) → SteadyPromise n table a → SteadyPromise n table b → a ≡ b
  pub locate : (bundle : List ℕ) (j : ℕ) (a b : Result Located Refusal) → LocatePromise bundle j a → LocatePromise bundle j b → a ≡ b
  pub opened : (bundle : Bor (List ℕ)) (j : ℕ) (a b : Result OpenedTable Refusal) → OpenPromise bundle j a → OpenPromise bundle j b → SameOpened a b
  pub part : (bundle : List ℕ) (j : ℕ) (before : List ℕ) (r s : ℕ) (x y : List ℕ) → PartPromise bundle j before r x
      → PartPromise bundle j before s y → (r ≡ s) × (x ≡ y)
  pub write : (n : ℕ) (counts tables buffer : List ℕ) (a b : Result ℕ Refusal) (x y : List ℕ) → WritePromise n counts tables buffer a x
      → WritePromise n counts tables buffer b y → (a ≡ b) × (x ≡ y)

pub record OneExport : Type 0 where
  pub marks : (n : ℕ) (table buffer : List ℕ) (m k : ℕ) (x y : List ℕ) → MarksExport n table buffer m x → MarksExport n table buffer k y → (m ≡ k) × (x ≡ y)
  pub inside : (n : ℕ) (table query : List ℕ) (m k r s : ℕ) → InsideExport n table query m r → InsideExport n table query k s → (m ≡ k) × (r ≡ s)
  pub complete : (n : ℕ) (table buffer : List ℕ) (m k c d : ℕ) (x y : List ℕ) → CompleteExport n table buffer m c x
      → CompleteExport n table buffer k d y → (m ≡ k) × (c ≡ d) × (x ≡ y)
  pub find : (n : ℕ) (table query : List ℕ) (m k r s t u : ℕ) → FindExport n table query m r t → FindExport n table query k s u → (m ≡ k) × (r ≡ s) × (t ≡ u)
  pub count : (n : ℕ) (table : List ℕ) (s m k v w : ℕ) → CountExport n table s m v → CountExport n table s k w → (m ≡ k) × (v ≡ w)
  pub polynomial : (n : ℕ) (table : List ℕ) (s m k : ℕ) (v w : ℤ) → PolynomialExport n table s m v → PolynomialExport n table s k w → (m ≡ k) × (v ≡ w)
  pub steady : (n : ℕ) (table : List ℕ) (m k v w : ℕ) → SteadyExport n table m v → SteadyExport n table k w → (m ≡ k) × (v ≡ w)
  pub opened : (bundle : List ℕ) (j m k n o r s p q : ℕ) → OpenExport bundle j m n r p → OpenExport bundle j k o s q → (m ≡ k) × (n ≡ o) × (r ≡ s) × (p ≡ q)
  pub write : (n : ℕ) (counts tables buffer : List ℕ) (m k c d : ℕ) (x y : List ℕ) → WriteExport n counts tables buffer m c x
      → WriteExport n counts tables buffer k d y → (m ≡ k) × (c ≡ d) × (x ≡ y)
