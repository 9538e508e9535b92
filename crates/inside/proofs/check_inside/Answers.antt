-- Each return gives the first check that refuses.
use borrow.Author.Rules.{rules}
use mathlib.Core.Path.{sym}
use Rattle.checks.proofs.OutcomeLaws.{passed_on}
use Rattle.distinct.specs.EqualRows.{distinct_checks}
use Rattle.inside.proofs.OperationLaws.{refuses_length, refuses_none}
use Rattle.inside.proofs.check_inside.Goals as goal

pub returns-in_err-check_distinct : goal.returns-in_err-check_distinct
returns-in_err-check_distinct c =
    let t = c.args.table in
    passed_on (distinct_checks t.n t.bytes.now) _ _ _ (search rules) c.in_err-check_distinct.ensures

pub returns-then-query-table : goal.returns-then-query-table
returns-then-query-table c =
    let t = c.args.table in
    refuses_length t.n t.bytes.now c.args.query.now (sym c.in_ok-check_distinct.ensures) c.if-query-table.true

pub returns : goal.returns
returns c =
    let t = c.args.table in
    refuses_none t.n t.bytes.now c.args.query.now (sym c.in_ok-check_distinct.ensures) c.if-query-table.false
