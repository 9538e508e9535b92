-- The answers are small, so that each fits the number in which it is handed out.
--
--   row_small, inside_small   a row number that find or inside gives is below 4,096
--   steps_small     steps are at most 256 for each variable
--   count_small     there are at most 4,096 completed rows
--   steady_small    a steady degree is at most 300
--   length_small    a written bundle has at most 65,535 bytes
--   located_small   n, row count and place of a table that is found are below 65,536
use mathlib.Core.Path.{◌≡◌, sym, ◌∙◌, subst}
use mathlib.Core.List.{List}
use Prim.Native.Nat.{ℕ, ◌≤◌, ◌<◌}
use native.Mathlib.Nat.{le_of_suc-le-suc}
use native.Mathlib.Omega.{arith}
use lib.ListN.{length, get_or}
use Rattle.std.specs.Prelude.{Result, Ok, Err}
use Rattle.std.specs.Prelude as code
use Rattle.checks.specs.declared.Refusal.{Refusal}
use Rattle.checks.specs.Outcomes.{value_or}
use Rattle.terms.specs.Monomials.{Monomial, Table}
use Rattle.terms.specs.Rows.{rows}
use Rattle.division.specs.Cones.{Division}
use Rattle.division.specs.Janet.{Multiplicative}
use Rattle.division.specs.Scan.{Answers, number_found}
use Rattle.finding.specs.declared.Finding.{Finding}
use Rattle.inside.specs.FirstDividing.{DividesFirst}
use Rattle.checks.specs.Refusals.{refusal}
use Rattle.terms.specs.declared.RowNumber.{RowNumber}
use Rattle.terms.specs.declared.Degree.{Degree}
use Rattle.terms.proofs.MonomialLaws.{most_by, degree_most}
use Rattle.terms.proofs.RowsLaws.{rows_size}
use Rattle.terms.proofs.TableLaws.{rows_small}
use Rattle.finding.specs.Operation.{FindPromise, find_checks}
use Rattle.inside.specs.Operation.{InsidePromise, inside_checks}
use Rattle.finding.proofs.OperationLaws.{find_finds, find_steps_lem, find_ready, find_length}
use Rattle.inside.proofs.OperationLaws.{inside_passed, inside_finds}
use Rattle.completing.specs.Operation.{CompletePromise}
use Rattle.completing.proofs.OperationLaws.{complete_count, accepted_room, room_limited}
use Rattle.counting.specs.Operations.{SteadyPromise, steady_checks, steady_value}
use Rattle.counts.proofs.PolynomialLaws.{steady_most}
use Rattle.counting.proofs.OperationLaws.{steady_checked}
use Rattle.bundle.specs.Checks.{open_checks}
use Rattle.bundle.specs.Operation.{LocatePromise}
use Rattle.bundle.specs.declared.Located.{Located}
use Rattle.bundle.proofs.ReadLaws.{open_accepted, numbers}
use Rattle.checks.proofs.RefusalLaws.{answered_accepted}
use Rattle.packing.specs.Operation.{WritePromise}
use Rattle.packing.proofs.OperationLaws.{write_bound}

-- ---- row numbers

-- a row number that code found, of a table of at most 4,096 rows
found_small : (M : Division) (G : Table) (q : Monomial) (f : code.Option RowNumber) → Answers M G q (number_found f) → length G ≤ 4096
    → code.IfSome f (λ r. r.0 < 4096)
found_small M G q code.None a l = tt
found_small M G q (code.Some r) a l = omega (arith, a.within, l)

pub row_small : {n : ℕ} {table query : List ℕ} {answer : Result Finding Refusal} {f : Finding} → FindPromise n table query answer → answer ≡ Ok f
    → code.IfSome f.row (λ r. r.0 < 4096)
row_small {n} {table} {query} {answer} {f} q e =
    let p : FindPromise n table query (Ok f) = subst (λ (a : Result Finding Refusal). FindPromise n table query a) e q in
    let z : refusal (find_checks n table query) ≡ 0 = sym p.number in
    found_small Multiplicative (rows n table) query f.row (find_finds n table query (Ok f) p z) (find_ready n table query z).limited

-- an answer has the steps of the descent, at most degree plus n
pub steps_small : {n : ℕ} {table query : List ℕ} {answer : Result Finding Refusal} {f : Finding} → ((i : ℕ) → get_or query i 0 < 256)
    → FindPromise n table query answer → answer ≡ Ok f → f.steps ≤ 1536
steps_small {n} {table} {query} {answer} {f} h q e =
    let p : FindPromise n table query (Ok f) = subst (λ (a : Result Finding Refusal). FindPromise n table query a) e q in
    let z : refusal (find_checks n table query) ≡ 0 = sym p.number in
    let small = degree_most 255 query (most_by 255 query (λ i. le_of_suc-le-suc (h i))) in
    omega (arith, find_steps_lem n table query (Ok f) p z, small, find_length n table query z, (find_ready n table query z).six)

pub inside_small : {n : ℕ} {table query : List ℕ} {answer : Result (code.Option RowNumber) Refusal} {f : code.Option RowNumber}
    → InsidePromise n table query answer → answer ≡ Ok f → code.IfSome f (λ r. r.0 < 4096)
inside_small {n} {table} {query} {answer} {f} q e =
    let p : InsidePromise n table query (Ok f) = subst (λ (a : Result (code.Option RowNumber) Refusal). InsidePromise n table query a) e q in
    let z : refusal (inside_checks n table query) ≡ 0 = sym p.number in
    go f (inside_finds n table query z (Ok f) p) (inside_passed n table query z).limited
  where
    go : (o : code.Option RowNumber) → DividesFirst (rows n table) query (number_found o) → length (rows n table) ≤ 4096 → code.IfSome o (λ r. r.0 < 4096)
    go code.None d l = tt
    go (code.Some r) d l = omega (arith, d.within, l)

-- ---- numbers

pub count_small : {n : ℕ} {table buffer after : List ℕ} (answer : Result ℕ Refusal) → CompletePromise n table buffer answer after → value_or 0 answer ≤ 4096
count_small {n} {table} {buffer} (Ok k) p =
    omega (arith, complete_count p, accepted_room n table (length buffer) (sym p.number), room_limited n (length buffer))
count_small (Err e) p = omega arith

pub steady_small : {n : ℕ} {table : List ℕ} (answer : Result Degree Refusal) → SteadyPromise n table answer → steady_value answer ≤ 300
steady_small {n} {table} (Ok d) p =
    let z : refusal (steady_checks n table) ≡ 0 = sym p.number in
    let t = (steady_checked n table z).accepted in
    omega (
      arith,
      p.value ∙ answered_accepted (steady_checks n table) _ 0 z,
      steady_most n 50 (rows n table) (rows_size n table) (rows_small n table t),
      t.six,
    )
steady_small (Err e) p = omega arith

pub length_small : {n : ℕ} {counts tables buffer after : List ℕ} (answer : Result ℕ Refusal) → WritePromise n counts tables buffer answer after
    → value_or 0 answer ≤ 65535
length_small (Ok k) p = write_bound p
length_small (Err e) p = omega arith

-- ---- open

pub record Small (f : Located) : Type 0 where
  pub variables : f.n < 65536
  pub count : f.rows < 65536
  pub begins : f.place < 65536

pub located_small : {b : List ℕ} {j : ℕ} {answer : Result Located Refusal} {f : Located} → LocatePromise b j answer → answer ≡ Ok f → Small f
located_small {b} {j} {answer} {f} q e =
    let p : LocatePromise b j (Ok f) = subst (λ (a : Result Located Refusal). LocatePromise b j a) e q in
    let passed : refusal (open_checks b j) ≡ 0 = sym p.number in
    let a = open_accepted b j passed in
    let l = a.0.layout in
    let w = l.tables j a.1 in
    let z = numbers b j (Ok f) p passed in
    record {
      variables = omega (arith, z.0, l.frame.six);
      count = omega (arith, z.1, w.limited);
      begins = omega (arith, z.2, w.within, l.frame.short);
    }
