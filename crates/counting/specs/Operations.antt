-- What count, polynomial and steady promise.
--
--   Above300 s              5: s above 300, with its check `degree_check`
--   NotComplete n table     7: the table is not complete, with its check `complete_check`; 6, `order_check`, is that of find
--   countable_checks n table    6 and 7, with which all three end
--   count_checks n table s  the checks of count and polynomial, in order: 1 to 4 of the table, 5, 6, 7
--   steady_checks n table   the checks of steady: 1 to 4, 6, 7
--   count_value, polynomial_value, steady_value   the value of an answer, 0 beside a refusal
--   CountPromise n table s answer, PolynomialPromise, SteadyPromise   the promise: the number is that of the first check that refuses,
--                    and the value is that of the rule
use Rattle.std.specs.Prelude.{◌≡◌, not, List, [], ◌∷◌, ◌++◌, ℕ, ◌<◌, ltb, ℤ, pos, Result}
use Rattle.std.proofs.Common.{lit<}
use Rattle.checks.specs.Tests.{Tests}
use Rattle.checks.proofs.TestLaws.{tests_lt, tests_not}
use Rattle.terms.specs.Rows.{rows}
use Rattle.terms.specs.declared.Degree.{Degree}
use Rattle.checks.specs.declared.Refusal.{Refusal}
use Rattle.checks.specs.Outcomes.{number_of, value_or}
use Rattle.checks.specs.Refusals.{Check, refusal, check, answered}
use Rattle.terms.specs.TableChecks.{table_checks}
use Rattle.division.proofs.Facade.{order_check, Complete, complete_test, tests_complete}
use Rattle.counts.specs.Counts.{count_at, polynomial_at, steady_of}

-- ---- the checks

-- 5: s above 300
abbrev pub Above300 : ℕ → Type 0
Above300 s = 300 < s

-- 7: table not complete
abbrev pub NotComplete : ℕ → List ℕ → Type 0
NotComplete n table = Complete n (rows n table) → ⊥

pub tests_above300 : (s : ℕ) → Tests (ltb 300 s) (Above300 s)
tests_above300 s = tests_lt 300 s

pub tests_not_complete : (n : ℕ) (table : List ℕ) → Tests (not (complete_test n (rows n table))) (NotComplete n table)
tests_not_complete n table = tests_not (tests_complete n (rows n table))

abbrev pub degree_check : ℕ → Check
degree_check s = check 5 (lit< tt) (tests_above300 s)

abbrev pub complete_check : ℕ → List ℕ → Check
complete_check n table = check 7 (lit< tt) (tests_not_complete n table)

-- the checks 6 and 7, which all three end with
abbrev pub countable_checks : ℕ → List ℕ → List Check
countable_checks n table = order_check n table ∷ complete_check n table ∷ []

abbrev pub count_checks : ℕ → List ℕ → ℕ → List Check
count_checks n table s = table_checks n table ++ (degree_check s ∷ countable_checks n table)

abbrev pub steady_checks : ℕ → List ℕ → List Check
steady_checks n table = table_checks n table ++ countable_checks n table

-- ---- the answers

abbrev pub count_value : Result ℕ Refusal → ℕ
count_value answer = value_or 0 answer

pub record CountPromise (n : ℕ) (table : List ℕ) (s : ℕ) (answer : Result ℕ Refusal) : Type 0 where
  pub number : number_of answer ≡ refusal (count_checks n table s)
  pub value : count_value answer ≡ answered (count_checks n table s) (count_at n (rows n table) s) 0

abbrev pub polynomial_value : Result ℤ Refusal → ℤ
polynomial_value answer = value_or (pos 0) answer

pub record PolynomialPromise (n : ℕ) (table : List ℕ) (s : ℕ) (answer : Result ℤ Refusal) : Type 0 where
  pub number : number_of answer ≡ refusal (count_checks n table s)
  pub value : polynomial_value answer ≡ answered (count_checks n table s) (polynomial_at n (rows n table) s) (pos 0)

abbrev pub steady_value : Result Degree Refusal → ℕ
steady_value answer = (value_or (record { 0 = 0 }) answer).0

pub record SteadyPromise (n : ℕ) (table : List ℕ) (answer : Result Degree Refusal) : Type 0 where
  pub number : number_of answer ≡ refusal (steady_checks n table)
  pub value : steady_value answer ≡ answered (steady_checks n table) (steady_of (rows n table)) 0
