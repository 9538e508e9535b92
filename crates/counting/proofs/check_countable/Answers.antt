-- The tests are those of the checks 6 and 7, in this order.
use mathlib.Core.Path.{sym, ◌∙◌}
use Rattle.checks.proofs.TestLaws.{true_tests, false_tests}
use Rattle.terms.proofs.OrderLaws.{tests_ascending}
use Rattle.terms.proofs.TableLaws.{entries_small}
use Rattle.division.proofs.Facade.{tests_complete}
use Rattle.counting.proofs.OperationLaws.{countable_6, countable_7, countable_0}
use Rattle.counting.proofs.check_countable.Goals as goal

pub returns-then-not-ascends : goal.returns-then-not-ascends
returns-then-not-ascends c =
    let t = c.args.table in
    countable_6 t.n t.bytes.now (false_tests (tests_ascending _) (sym c.ascends.ensures ∙ c.if-not-ascends.true))

pub table_complete-requires : goal.table_complete-requires
table_complete-requires c =
    let t = c.args.table in
    let ascending = true_tests (tests_ascending _) (sym c.ascends.ensures ∙ c.if-not-ascends.false) in
    let a = c.requires in
    (record { some = a.some; six = a.six; limited = a.limited; ascends = ascending }, entries_small t.n t.bytes.now a)

pub returns-then-not-table_complete : goal.returns-then-not-table_complete
returns-then-not-table_complete c =
    let t = c.args.table in
    let ascending = true_tests (tests_ascending _) (sym c.ascends.ensures ∙ c.if-not-ascends.false) in
    countable_7 t.n t.bytes.now ascending (false_tests (tests_complete _ _) (sym c.table_complete.ensures ∙ c.if-not-table_complete.true))

pub returns : goal.returns
returns c =
    let t = c.args.table in
    let ascending = true_tests (tests_ascending _) (sym c.ascends.ensures ∙ c.if-not-ascends.false) in
    countable_0 t.n t.bytes.now ascending (true_tests (tests_complete _ _) (sym c.table_complete.ensures ∙ c.if-not-table_complete.false))
