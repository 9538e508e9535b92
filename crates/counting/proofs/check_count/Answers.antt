-- The checks 1 to 4 refuse, or they pass and 5 decides, or that passes and 6 and 7 do.
use borrow.Author.Rules.{rules}
use native.Mathlib.Omega.{arith}
use mathlib.Core.Path.{refl, sym, ◌∙◌}
use Rattle.checks.proofs.OutcomeLaws.{passed_on}
use Rattle.checks.proofs.RefusalLaws.{passes_first}
use Rattle.terms.specs.TableChecks.{table_checks}
use Rattle.terms.proofs.TableLaws.{table_passed}
use Rattle.counting.proofs.OperationLaws.{late_5, late_passed}
use Rattle.counting.proofs.check_count.Goals as goal

pub returns-in_err-check : goal.returns-in_err-check
returns-in_err-check c =
    let t = c.args.table in
    passed_on (table_checks t.n t.bytes.now) _ _ _ (search rules) c.in_err-check.ensures

pub returns-then-s-gt-LARGEST_DEGREE : goal.returns-then-s-gt-LARGEST_DEGREE
returns-then-s-gt-LARGEST_DEGREE c =
    let t = c.args.table in
    passes_first (table_checks t.n t.bytes.now) _ _ (sym c.in_ok-check.ensures) (late_5 t.n t.bytes.now c.args.s.0 (omega arith))

pub check_countable-requires : goal.check_countable-requires
check_countable-requires c = table_passed _ _ _ c.in_ok-check.ensures refl

pub returns : goal.returns
returns c =
    let t = c.args.table in
    passes_first (table_checks t.n t.bytes.now) _ _ (sym c.in_ok-check.ensures)
    (c.check_countable.ensures ∙ sym (late_passed t.n t.bytes.now c.args.s.0 (omega arith)))
