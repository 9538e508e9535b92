-- Each table is asked in turn, and the answer is whether some table has equal rows.
use Rattle.std.proofs.Common.{ℕ, Bool, true, false, ◌≡◌, ◌<◌, length, MatchBool, zero-add, arith, rules}
use Rattle.std.specs.List.{HoldsAt, AllWithin, range_with_len}
use Rattle.std.proofs.lemmas.Iterator.{cases_from_any, YieldsList-from_range, serves_from_Range}
use Rattle.std.proofs.lemmas.List.FromFn.{length-range_with_len, get_or-range_with_len}
use Rattle.checks.specs.Tests.{Tests, SomeBelow}
use Rattle.checks.proofs.TestLaws.{tests_true, tests_false, true_tests, false_tests}
use Rattle.terms.specs.Monomials.{EqualRows, Distinct}
use Rattle.distinct.specs.EqualRows.{tests_equal_rows}
use Rattle.bundle.specs.Format.{table_of, table_count}
use Rattle.bundle.specs.Checks.{tests_equal_rows_in}
use Rattle.bundle.proofs.some_equal_rows.Goals as goal

-- what `any` says of the numbers below m is whether P holds of some of them
below : (P : ℕ → Type 0) (m n : ℕ) (r b : Bool) → m ≡ n → Tests b (SomeBelow n P)
    → MatchBool r ((k : ℕ) × (k < length (range_with_len 0 m)) × HoldsAt P (range_with_len 0 m) k)
    (AllWithin (λ j. P j → ⊥) (range_with_len 0 m) 0 (length (range_with_len 0 m))) → r ≡ b
below P m n true b e t h =
    let l : h.0 < m = omega (arith, h.1, length-range_with_len 0 m) in
    tests_true t (h.0, omega arith, rw (get_or-range_with_len 0 m h.0 0 l, zero-add) at (h.2 0))
below P m n false b e t h = tests_false t (λ s.
    let l : s.0 < length (range_with_len 0 m) = omega (arith, s.1, length-range_with_len 0 m) in
    rw (get_or-range_with_len 0 m s.0 0 (omega (arith, s.1)), zero-add) at (h s.0 0 (omega arith) l) s.2)

pub any-requires-clause-callable : goal.any-requires-clause-callable
any-requires-clause-callable c = serves_from_Range (λ x q k. search rules) (λ x a b.
    let lies : x < table_count c.args.bundle.now = omega (arith, c.from-tables.ensures) in
    search rules)

pub returns : goal.returns
returns c =
    let m = c.from-tables.result in
    let P : ℕ → Type 0 = λ j. EqualRows (table_of c.args.bundle.now j) in
    below P m _ c.any.result _ c.from-tables.ensures (tests_equal_rows_in c.args.bundle.now)
    (cases_from_any _ _ c.any.result P (λ j. Distinct (table_of c.args.bundle.now j)) c.any.ensures.ran (YieldsList-from_range 0 m m (cc) (omega arith))
    (λ x q k. true_tests (tests_equal_rows (table_of c.args.bundle.now x)) (search rules))
    (λ x q k. (search rules, false_tests (tests_equal_rows (table_of c.args.bundle.now x)) (search rules))))
