-- Checks that several operations share: 5 of a query, and 6.
--
--   OtherLength n query    5: the query's length is not n, with its check `length_check`
--   NotAscending n table   6: the rows are not strictly ascending, with its check `order_check`
--   Ready n G        what is known of a table that passed the checks 1 to 3 and 6
use Rattle.std.specs.Prelude.{◌≡◌, not, List, ℕ, ◌≤◌, ◌<◌, eqb, length}
use Rattle.std.proofs.Common.{lit<}
use Rattle.checks.specs.Tests.{Tests}
use Rattle.checks.specs.Refusals.{Check, check}
use Rattle.checks.proofs.TestLaws.{tests_not, tests_eq}
use Rattle.terms.specs.Monomials.{Table}
use Rattle.terms.specs.Order.{Ascending, ascending_test}
use Rattle.terms.specs.Rows.{rows}
use Rattle.terms.proofs.OrderLaws.{tests_ascending}

abbrev pub OtherLength : ℕ → List ℕ → Type 0
OtherLength n query = length query ≡ n → ⊥

abbrev pub NotAscending : ℕ → List ℕ → Type 0
NotAscending n table = Ascending (rows n table) → ⊥

pub tests_other_length : (n : ℕ) (query : List ℕ) → Tests (not (eqb (length query) n)) (OtherLength n query)
tests_other_length n query = tests_not (tests_eq (length query) n)

pub tests_not_ascending : (n : ℕ) (table : List ℕ) → Tests (not (ascending_test (rows n table))) (NotAscending n table)
tests_not_ascending n table = tests_not (tests_ascending (rows n table))

abbrev pub length_check : ℕ → List ℕ → Check
length_check n query = check 5 (lit< tt) (tests_other_length n query)

abbrev pub order_check : ℕ → List ℕ → Check
order_check n table = check 6 (lit< tt) (tests_not_ascending n table)

pub record Ready (n : ℕ) (G : Table) : Type 0 where
  pub some : 0 < n
  pub six : n ≤ 6
  pub limited : length G ≤ 4096
  pub ascends : Ascending G
