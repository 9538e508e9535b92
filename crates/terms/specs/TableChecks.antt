-- The checks 1 to 4, which every operation on a table begins with.
--
--   NotOneToSix n, NoMultiple n bytes, TooManyRows n bytes, EntryAbove50 bytes   the conditions of 1 to 4, each with its test, `tests-..`
--   no_multiple, quotient   lengths with and without remainder
--   table_checks n bytes  the checks in order. An operation's list is these and then its own
--   TableAccepted n bytes   what is known of a table that passes them
use Rattle.std.specs.Prelude.{◌≡◌, not, ◌&&◌, ℕ, ◌*◌, ◌/◌, ◌%◌, ◌≤◌, ◌<◌, leb, ltb, eqb, length}
use Rattle.std.proofs.Common.{sym, ap, ◌∙◌, div-add-mod', arith, lit<}
use mathlib.Core.List.{List, [], ◌∷◌, Memᴰ}
use Rattle.std.proofs.Math.Nat.{mul-mod_left}
use Rattle.checks.specs.Tests.{Tests, any}
use Rattle.checks.specs.Refusals.{Check, check}
use Rattle.checks.proofs.TestLaws.{tests_as, tests_le, tests_lt, tests_eq, tests_and, tests_not, tests_any}
use Rattle.terms.specs.Rows.{rows}

-- 1: n is not 1 to 6
abbrev pub NotOneToSix : ℕ → Type 0
NotOneToSix n = (0 < n) × (n ≤ 6) → ⊥

-- 2: the table's length is no multiple of n
abbrev pub NoMultiple : ℕ → List ℕ → Type 0
NoMultiple n bytes = (k : ℕ) → length bytes ≡ k * n → ⊥

-- 3: more than 4,096 rows
abbrev pub TooManyRows : ℕ → List ℕ → Type 0
TooManyRows n bytes = 4096 < length (rows n bytes)

-- 4: an entry above 50
abbrev pub EntryAbove50 : List ℕ → Type 0
EntryAbove50 bytes = (e : ℕ) × Memᴰ e bytes × (50 < e)

pub tests_not_one_to_six : (n : ℕ) → Tests (not (ltb 0 n && leb n 6)) (NotOneToSix n)
tests_not_one_to_six n = tests_not (tests_and (tests_lt 0 n) (λ p. tests_le n 6))

-- a length with a remainder is no multiple; one without is the quotient times n
pub no_multiple : (n : ℕ) (bytes : List ℕ) → (length bytes % n ≡ 0 → ⊥) → NoMultiple n bytes
no_multiple n bytes f k e = f (ap (λ (x : ℕ). x % n) e ∙ mul-mod_left k n)

pub quotient : (n : ℕ) (bytes : List ℕ) → length bytes % n ≡ 0 → length bytes ≡ length bytes / n * n
quotient n bytes e = sym (div-add-mod' (length bytes) n) ∙ omega (arith, e)

pub tests_no_multiple : (n : ℕ) (bytes : List ℕ) → Tests (not (eqb (length bytes % n) 0)) (NoMultiple n bytes)
tests_no_multiple n bytes = tests_as (tests_not (tests_eq (length bytes % n) 0))
    (no_multiple n bytes) (λ f e. f (length bytes / n) (quotient n bytes e))

pub tests_too_many_rows : (n : ℕ) (bytes : List ℕ) → Tests (ltb 4096 (length (rows n bytes))) (TooManyRows n bytes)
tests_too_many_rows n bytes = tests_lt 4096 (length (rows n bytes))

pub tests_entry_above50 : (bytes : List ℕ) → Tests (any (λ e. ltb 50 e) bytes) (EntryAbove50 bytes)
tests_entry_above50 bytes = tests_any bytes (λ (e : ℕ) m. tests_lt 50 e)

abbrev pub table_checks : ℕ → List ℕ → List Check
table_checks n bytes =
    check 1 (lit< tt) (tests_not_one_to_six n)
    ∷ check 2 (lit< tt) (tests_no_multiple n bytes)
    ∷ check 3 (lit< tt) (tests_too_many_rows n bytes)
    ∷ check 4 (lit< tt) (tests_entry_above50 bytes)
    ∷ []

-- what is known of a table that passes them
pub record TableAccepted (n : ℕ) (bytes : List ℕ) : Type 0 where
  pub some : 0 < n
  pub six : n ≤ 6
  pub whole : length bytes ≡ length (rows n bytes) * n
  pub limited : length (rows n bytes) ≤ 4096
  pub small : (e : ℕ) → Memᴰ e bytes → e ≤ 50
