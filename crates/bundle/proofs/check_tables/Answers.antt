use borrow.Author.Rules.{rules}
use native.Mathlib.Omega.{arith}
use mathlib.Core.Path.{◌≡◌}
use Rattle.std.specs.Prelude.{Err}
use Rattle.checks.proofs.OutcomeLaws.{number_positive}
use Rattle.bundle.proofs.CheckLaws.{framed, passed_first, passed_next, passed_refuses, passed_remain, passed_all}
use Rattle.bundle.proofs.check_tables.Goals as goal

pub loop-j-init : goal.loop-j-init
loop-j-init c = passed_first c.args.bundle.now _ (framed c.args.bundle.now c.requires) (omega arith)

pub check_one_table-requires : goal.check_one_table-requires
check_one_table-requires c =
    let i = c.loop-j.invariant in
    (c.requires, omega arith, i.here, omega (arith, (framed c.args.bundle.now c.requires).short))

pub returns-in_err-check_one_table : goal.returns-in_err-check_one_table
returns-in_err-check_one_table c =
    let e = c.in_err-check_one_table.field-0.0 in
    let is : c.from_residual.result ≡ Err e = search rules in
    rw is (passed_refuses c.args.bundle.now _ _ c.loop-j.invariant (omega arith) _ (number_positive e) c.in_err-check_one_table.ensures)

pub loop-j-preserved : goal.loop-j-preserved
loop-j-preserved c =
    passed_next c.args.bundle.now _ _ c.loop-j.invariant (omega arith) _ c.read_entry-entry.ensures.0 c.in_ok-check_one_table.ensures

pub returns-then-place-bundle : goal.returns-then-place-bundle
returns-then-place-bundle c = passed_remain c.args.bundle.now _ _ c.loop-j.invariant (omega arith) (omega arith)

pub returns : goal.returns
returns c = passed_all c.args.bundle.now _ _ c.loop-j.invariant (omega arith) (omega arith)
