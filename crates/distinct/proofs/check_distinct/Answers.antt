-- What the checks 1 to 4 refuse is refused; where they pass, the answer about equal rows decides.
use borrow.Author.Rules.{rules}
use mathlib.Core.Path.{refl, sym, ◌∙◌}
use Rattle.checks.proofs.OutcomeLaws.{passed_on}
use Rattle.checks.proofs.TestLaws.{true_tests, false_tests}
use Rattle.terms.specs.Rows.{rows_of}
use Rattle.terms.specs.TableChecks.{table_checks}
use Rattle.terms.proofs.TableLaws.{table_passed}
use Rattle.distinct.specs.EqualRows.{tests_equal_rows}
use Rattle.distinct.proofs.CheckLaws.{refuses_equal, refuses_distinct}
use Rattle.distinct.proofs.check_distinct.Goals as goal

pub returns-in_err-check : goal.returns-in_err-check
returns-in_err-check c =
    let t = c.args.table in
    passed_on (table_checks t.n t.bytes.now) _ _ _ (search rules) c.in_err-check.ensures

pub has_equal_rows-requires : goal.has_equal_rows-requires
has_equal_rows-requires c = let t = c.args.table in table_passed t.n t.bytes.now 0 c.in_ok-check.ensures refl

pub returns-then-has_equal_rows : goal.returns-then-has_equal_rows
returns-then-has_equal_rows c =
    let t = c.args.table in
    refuses_equal t.n t.bytes.now (sym c.in_ok-check.ensures)
    (true_tests (tests_equal_rows (rows_of t)) (sym c.has_equal_rows.ensures ∙ c.if-has_equal_rows.true))

pub returns : goal.returns
returns c =
    let t = c.args.table in
    refuses_distinct t.n t.bytes.now (sym c.in_ok-check.ensures)
    (false_tests (tests_equal_rows (rows_of t)) (sym c.has_equal_rows.ensures ∙ c.if-has_equal_rows.false))
