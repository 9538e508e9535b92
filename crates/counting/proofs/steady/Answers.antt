-- A refusal is passed on; otherwise the largest degree is the value.
use borrow.Author.Rules.{rules}
use mathlib.Core.Path.{◌≡◌, sym}
use Rattle.std.specs.Prelude.{Err}
use Rattle.counting.proofs.OperationLaws.{steady_checked, steady_refused, steady_given}
use Rattle.counting.proofs.steady.Goals as goal

pub returns-in_err-check_steady : goal.returns-in_err-check_steady
returns-in_err-check_steady c =
    let t = c.args.table in
    let is : c.from_residual.result ≡ Err c.in_err-check_steady.field-0.0 = search rules in
    rw is (steady_refused t.n t.bytes.now _ c.in_err-check_steady.ensures)

pub largest_degree-requires : goal.largest_degree-requires
largest_degree-requires c =
    let t = c.args.table in
    let accepted = (steady_checked t.n t.bytes.now (sym c.in_ok-check_steady.ensures)).accepted in
    (accepted.some, accepted.six)

pub returns : goal.returns
returns c =
    let t = c.args.table in
    steady_given t.n t.bytes.now (sym c.in_ok-check_steady.ensures) _ c.largest_degree.ensures
