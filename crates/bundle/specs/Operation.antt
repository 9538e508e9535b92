-- What the reader promises.
--
--   Entered b j f    n, row count and place of table j are read from b's header
--   nowhere          what stands beside a refusal: n, row count and place 0
--   located_n, located_rows, located_place   of an answer of `locate`: n, row count and place
--   LocatePromise b j r   `locate`: n, row count and place of table j of b
--   FoundWithin b f  what was found lies within b
--   PartOf b place size r   r shows the part of b that begins at the place and has that size
--   opened_n, opened_rows, opened_bytes   of an answer of `open_table`: n, row count and the bytes shown; beside a refusal 0, 0 and none
--   OpenPromise b j r   `open_table`: the part of b that table j is, with its n and row count
--   SameOpened r s   two answers of `open_table` are the same: the same numbers, and the same part of the same memory
use Rattle.std.specs.Prelude.{◌≡◌, List, [], ℕ, ◌+◌, ◌*◌, ◌≤◌, length, take, drop, Result, Ok, Err, IfOk}
use Rattle.std.specs.Borrow.{Bor}
use Rattle.checks.specs.declared.Refusal.{Refusal}
use Rattle.checks.specs.Outcomes.{number_of, value_or}
use Rattle.checks.specs.Refusals.{refusal, answered}
use Rattle.bundle.specs.Format.{variables_of, row_count, offset_of, place_of, body_of}
use Rattle.bundle.specs.Checks.{open_checks}
use Rattle.bundle.specs.declared.Located.{Located}
use Rattle.bundle.specs.declared.OpenedTable.{OpenedTable}

-- ---- where a table stands

pub record Entered (b : List ℕ) (j : ℕ) (f : Located) : Type 0 where
  pub variables : f.n ≡ variables_of b
  pub count : f.rows ≡ row_count b j
  pub begins : f.place ≡ offset_of b j

abbrev pub nowhere : Located
nowhere = record { n = 0; rows = 0; place = 0 }

abbrev pub located_n : Result Located Refusal → ℕ
located_n r = (value_or nowhere r).n

abbrev pub located_rows : Result Located Refusal → ℕ
located_rows r = (value_or nowhere r).rows

abbrev pub located_place : Result Located Refusal → ℕ
located_place r = (value_or nowhere r).place

-- the number of the first check that refuses; n, row count and place of the table, and beside a refusal 0
pub record LocatePromise (b : List ℕ) (j : ℕ) (r : Result Located Refusal) : Type 0 where
  pub number : number_of r ≡ refusal (open_checks b j)
  pub variables : located_n r ≡ answered (open_checks b j) (variables_of b) 0
  pub count : located_rows r ≡ answered (open_checks b j) (row_count b j) 0
  pub begins : located_place r ≡ answered (open_checks b j) (place_of b j) 0

-- ---- the table shown

abbrev pub FoundWithin : List ℕ → Located → Type 0
FoundWithin b f = f.place + f.rows * f.n ≤ length b

-- its bytes are those of b from the place on, and they are not a copy: they stand in b's own memory, at the place
pub record PartOf (b : Bor (List ℕ)) (place size : ℕ) (r : Bor (List ℕ)) : Type 0 where
  pub bytes : r.now ≡ take size (drop place b.now)
  pub block : r.ref_ptr.0 ≡ b.ref_ptr.0
  pub place_in : r.ref_ptr.1 ≡ place + b.ref_ptr.1

abbrev pub opened_n : Result OpenedTable Refusal → ℕ
opened_n (Ok o) = o.n
opened_n (Err e) = 0

abbrev pub opened_rows : Result OpenedTable Refusal → ℕ
opened_rows (Ok o) = o.rows
opened_rows (Err e) = 0

abbrev pub opened_bytes : Result OpenedTable Refusal → List ℕ
opened_bytes (Ok o) = o.bytes.now
opened_bytes (Err e) = []

-- the number of the first check that refuses; the table's n and row count and its body, and beside a refusal 0, 0 and no byte. An answer's bytes
-- are the part of the bundle that the body is
pub record OpenPromise (b : Bor (List ℕ)) (j : ℕ) (r : Result OpenedTable Refusal) : Type 0 where
  pub number : number_of r ≡ refusal (open_checks b.now j)
  pub variables : opened_n r ≡ answered (open_checks b.now j) (variables_of b.now) 0
  pub count : opened_rows r ≡ answered (open_checks b.now j) (row_count b.now j) 0
  pub shown : opened_bytes r ≡ answered (open_checks b.now j) (body_of b.now j) []
  pub block : IfOk r (λ o. o.bytes.ref_ptr.0 ≡ b.ref_ptr.0)
  pub begins : IfOk r (λ o. o.bytes.ref_ptr.1 ≡ place_of b.now j + b.ref_ptr.1)

-- two answers are the same: numbers, bytes, and where these stand
pub record SameOpened (r s : Result OpenedTable Refusal) : Type 0 where
  pub number : number_of r ≡ number_of s
  pub variables : opened_n r ≡ opened_n s
  pub count : opened_rows r ≡ opened_rows s
  pub shown : opened_bytes r ≡ opened_bytes s
  pub block : IfOk r (λ o. IfOk s (λ p. o.bytes.ref_ptr.0 ≡ p.bytes.ref_ptr.0))
  pub place : IfOk r (λ o. IfOk s (λ p. o.bytes.ref_ptr.1 ≡ p.bytes.ref_ptr.1))
