-- Each return is the law of the check that refuses there, the earlier ones having passed.
use borrow.Author.Rules.{rules}
use mathlib.Core.Path.{refl, sym, ◌∙◌}
use Rattle.terms.specs.Rows.{rows_of}
use Rattle.checks.proofs.TestLaws.{true_tests, false_tests}
use Rattle.checks.proofs.OutcomeLaws.{passed_on}
use Rattle.terms.specs.TableChecks.{table_checks}
use Rattle.terms.proofs.OrderLaws.{tests_ascending}
use Rattle.terms.proofs.TableLaws.{table_passed}
use Rattle.finding.proofs.OperationLaws.{refuses_length, refuses_order, refuses_none}
use Rattle.finding.proofs.check_find.Goals as goal

pub returns-in_err-check : goal.returns-in_err-check
returns-in_err-check c =
    let t = c.args.table in
    passed_on (table_checks t.n t.bytes.now) _ _ _ (search rules) c.in_err-check.ensures

pub returns-then-query-table : goal.returns-then-query-table
returns-then-query-table c =
    let t = c.args.table in
    refuses_length t.n t.bytes.now c.args.query.now (sym c.in_ok-check.ensures) c.if-query-table.true

pub ascends-requires : goal.ascends-requires
ascends-requires c = let t = c.args.table in (table_passed t.n t.bytes.now 0 c.in_ok-check.ensures refl).some

pub returns-then-not-ascends : goal.returns-then-not-ascends
returns-then-not-ascends c =
    let t = c.args.table in
    refuses_order t.n t.bytes.now c.args.query.now (sym c.in_ok-check.ensures) c.if-query-table.false
    (false_tests (tests_ascending (rows_of t)) (sym c.ascends.ensures ∙ c.if-not-ascends.true))

pub returns : goal.returns
returns c =
    let t = c.args.table in
    refuses_none t.n t.bytes.now c.args.query.now (sym c.in_ok-check.ensures) c.if-query-table.false
    (true_tests (tests_ascending (rows_of t)) (sym c.ascends.ensures ∙ c.if-not-ascends.false))
