-- A refusal is passed on; otherwise the sum over the table with its marks is the value.
use borrow.Author.Rules.{rules}
use mathlib.Core.Path.{◌≡◌, sym}
use Rattle.std.specs.Prelude.{Err}
use Rattle.counting.proofs.OperationLaws.{count_checked, polynomial_refused, polynomial_given}
use Rattle.counting.proofs.polynomial.Goals as goal

pub returns-in_err-marks : goal.returns-in_err-marks
returns-in_err-marks c =
    let t = c.args.table in
    let is : c.from_residual.result ≡ Err c.in_err-marks.field-0.0 = search rules in
    rw is (polynomial_refused t.n t.bytes.now c.args.s.0 _ c.in_err-marks.ensures.number)

pub polynomial_sum-requires : goal.polynomial_sum-requires
polynomial_sum-requires c =
    let t = c.args.table in
    let checked = count_checked t.n t.bytes.now c.args.s.0 (sym c.in_ok-marks.ensures.number) in
    (checked.0, c.in_ok-marks.ensures.marks, checked.1)

pub returns : goal.returns
returns c =
    let t = c.args.table in
    let p = polynomial_given t.n t.bytes.now c.args.s.0 (sym c.in_ok-marks.ensures.number) _ c.polynomial_sum.ensures in
    search (rules, p)
