-- The bundle is refused, it has no such table, or the header says where the table stands.
use borrow.Author.Rules.{rules}
use native.Mathlib.Omega.{arith}
use mathlib.Core.Path.{◌≡◌, sym}
use Rattle.std.specs.Prelude.{Err}
use Rattle.checks.specs.Refusals.{refusal}
use Rattle.bundle.specs.Checks.{bundle_checks}
use Rattle.bundle.proofs.ReadLaws.{locate_refuses, locate_none, locate_opens}
use Rattle.bundle.proofs.locate_checked.Goals as goal

pub returns-in_err-checked : goal.returns-in_err-checked
returns-in_err-checked c =
    let is : c.from_residual.result ≡ Err c.in_err-checked.field-0.0 = search rules in
    rw is (locate_refuses c.args.bundle.now _ _ (rw c.in_err-checked.was at c.requires))

pub returns-then-from-j : goal.returns-then-from-j
returns-then-from-j c =
    let passed : 0 ≡ refusal (bundle_checks c.args.bundle.now) = rw c.in_ok-checked.was at c.requires in
    locate_none c.args.bundle.now _ (sym passed) (omega (arith, c.from.ensures))

pub returns : goal.returns
returns c =
    let passed : 0 ≡ refusal (bundle_checks c.args.bundle.now) = rw c.in_ok-checked.was at c.requires in
    locate_opens c.args.bundle.now _ (sym passed) (omega (arith, c.from.ensures)) _ c.read_entry.ensures.0
