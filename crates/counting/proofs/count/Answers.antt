-- A refusal is passed on; otherwise the sum over the table with its marks is the value.
use borrow.Author.Rules.{rules}
use mathlib.Core.Path.{◌≡◌, sym}
use Rattle.std.specs.Prelude.{Err}
use Rattle.counting.proofs.OperationLaws.{count_checked, count_refused, count_given}
use Rattle.counting.proofs.count.Goals as goal

pub returns-in_err-marks : goal.returns-in_err-marks
returns-in_err-marks c =
    let t = c.args.table in
    let is : c.from_residual.result ≡ Err c.in_err-marks.field-0.0 = search rules in
    rw is (count_refused t.n t.bytes.now c.args.s.0 _ c.in_err-marks.ensures.number)

pub count_sum-requires : goal.count_sum-requires
count_sum-requires c =
    let t = c.args.table in
    let checked = count_checked t.n t.bytes.now c.args.s.0 (sym c.in_ok-marks.ensures.number) in
    (checked.0, c.in_ok-marks.ensures.marks, checked.1)

pub returns : goal.returns
returns c =
    let t = c.args.table in
    count_given t.n t.bytes.now c.args.s.0 (sym c.in_ok-marks.ensures.number) _ c.count_sum.ensures
