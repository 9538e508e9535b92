-- The frame refuses, or it passes and the tables decide.
use borrow.Author.Rules.{rules}
use mathlib.Core.Path.{sym}
use Rattle.checks.proofs.RefusalLaws.{passes_first}
use Rattle.checks.proofs.OutcomeLaws.{passed_on}
use Rattle.bundle.specs.Checks.{frame_checks}
use Rattle.bundle.proofs.check_layout.Goals as goal

pub returns-in_err-check_frame : goal.returns-in_err-check_frame
returns-in_err-check_frame c = passed_on (frame_checks c.args.bundle.now) _ _ _ (search rules) c.in_err-check_frame.ensures

pub returns : goal.returns
returns c = passes_first (frame_checks c.args.bundle.now) _ _ (sym c.in_ok-check_frame.ensures) c.check_tables.ensures
