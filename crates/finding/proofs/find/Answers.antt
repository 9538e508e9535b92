-- A refusal is passed on; otherwise the answer holds what the descent found, and its steps.
use borrow.Author.Rules.{rules}
use mathlib.Core.Path.{◌≡◌, sym, ap, ◌∙◌}
use Rattle.std.specs.Result.{result_ok}
use Rattle.division.specs.Scan.{number_found}
use Rattle.finding.specs.declared.Descended.{Descended}
use Rattle.finding.proofs.SteppingLaws.{found_ok}
use Rattle.std.specs.Prelude.{Err}
use Rattle.finding.proofs.OperationLaws.{find_refuses, find_ready, find_length, find_accepts}
use Rattle.finding.proofs.find.Goals as goal

pub returns-in_err-check_find : goal.returns-in_err-check_find
returns-in_err-check_find c =
    let a = c.args in
    let is : c.from_residual.result ≡ Err c.in_err-check_find.field-0.0 = search rules in
    rw is (find_refuses a.table.n a.table.bytes.now a.query.now _ c.in_err-check_find.ensures)

pub descend_table-descent-requires : goal.descend_table-descent-requires
descend_table-descent-requires c =
    let a = c.args in
    let passed = sym c.in_ok-check_find.ensures in
    (find_ready a.table.n a.table.bytes.now a.query.now passed, find_length a.table.n a.table.bytes.now a.query.now passed)

pub returns : goal.returns
returns c =
    let a = c.args in
    let d = c.descend_table-descent in
    find_accepts a.table.n a.table.bytes.now a.query.now (sym c.in_ok-check_find.ensures) _
    (ap number_found (c.ok.ensures.value ∙ ap (λ (x : Descended). result_ok x.found) d.ensures) ∙ found_ok _ _)
    (ap (λ (x : Descended). x.steps) d.ensures)
