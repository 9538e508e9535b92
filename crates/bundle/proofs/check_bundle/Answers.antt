-- The layout refuses, or it passes and one pass over what stands behind the header decides 4, and one over the tables 12.
use borrow.Author.Rules.{rules}
use mathlib.Core.Path.{sym}
use Rattle.checks.proofs.OutcomeLaws.{passed_on}
use Rattle.bundle.specs.Checks.{layout_checks}
use Rattle.bundle.proofs.ReadLaws.{entry_four, entries_pass, rows_twelve, rows_pass}
use Rattle.bundle.proofs.check_bundle.Goals as goal

pub returns-in_err-check_layout : goal.returns-in_err-check_layout
returns-in_err-check_layout c = passed_on (layout_checks c.args.bundle.now) _ _ _ (search rules) c.in_err-check_layout.ensures

pub returns-then-has_large_entry : goal.returns-then-has_large_entry
returns-then-has_large_entry c =
    entry_four c.args.bundle.now c.in_ok-check_layout.ensures c.from.ensures c.has_large_entry.ensures c.if-has_large_entry.true

pub some_equal_rows-requires : goal.some_equal_rows-requires
some_equal_rows-requires c =
    let passed = c.in_ok-check_layout.ensures in
    (sym passed, entries_pass c.args.bundle.now passed c.from.ensures c.has_large_entry.ensures c.if-has_large_entry.false)

pub returns-then-some_equal_rows : goal.returns-then-some_equal_rows
returns-then-some_equal_rows c =
    rows_twelve c.args.bundle.now c.in_ok-check_layout.ensures c.from.ensures c.has_large_entry.ensures c.if-has_large_entry.false
    c.some_equal_rows.ensures c.if-some_equal_rows.true

pub returns : goal.returns
returns c =
    rows_pass c.args.bundle.now c.in_ok-check_layout.ensures c.from.ensures c.has_large_entry.ensures c.if-has_large_entry.false
    c.some_equal_rows.ensures c.if-some_equal_rows.false
