-- What the checks 1 to 4 refuse is refused; other rows ascend, or are listed in order first.
use borrow.Author.Rules.{rules}
use mathlib.Core.Path.{◌≡◌, refl, sym, ◌∙◌}
use lib.ListN.{length}
use Rattle.std.specs.Prelude.{Err}
use Rattle.checks.proofs.TestLaws.{true_tests}
use Rattle.terms.specs.Rows.{rows_of}
use Rattle.terms.proofs.OrderLaws.{tests_ascending}
use Rattle.terms.proofs.TableLaws.{table_passed}
use Rattle.marking.proofs.InOrderLaws.{ascending_order}
use Rattle.marking.proofs.OperationLaws.{marks_refuses, refuses_table}
use Rattle.marking.proofs.marks.Goals as goal

pub returns-in_err-check : goal.returns-in_err-check
returns-in_err-check c =
    let t = c.args.table in
    let is : c.from_residual.result ≡ Err c.in_err-check.field-0.0 = search rules in
    rw is (marks_refuses t.n t.bytes.now c.args.buffer.now _ (refuses_table t.n t.bytes.now (length c.args.buffer.now) _ c.in_err-check.ensures))

pub ascends-requires : goal.ascends-requires
ascends-requires c = (table_passed _ _ _ c.in_ok-check.ensures refl).some

pub marks_in_order-requires : goal.marks_in_order-requires
marks_in_order-requires c =
    let G = rows_of c.args.table in (
      table_passed _ _ _ c.in_ok-check.ensures refl,
      record {
        number = λ k. k;
        order = ascending_order G (true_tests (tests_ascending G) (sym c.ascends.ensures ∙ c.if-ascends.true));
        asked = λ k l. search rules;
        given = λ k r p. search rules;
      },
    )

pub marks_unordered-requires : goal.marks_unordered-requires
marks_unordered-requires c = table_passed _ _ _ c.in_ok-check.ensures refl
