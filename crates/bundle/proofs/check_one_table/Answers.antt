-- Each branch is the condition of 3, 10 or 11, those before it passed.
use native.Mathlib.Omega.{arith}
use Rattle.bundle.proofs.CheckLaws.{table_three, table_ten, table_eleven, table_passes}
use Rattle.bundle.proofs.check_one_table.Goals as goal

pub returns-then-entry-gt-MOST_ROWS : goal.returns-then-entry-gt-MOST_ROWS
returns-then-entry-gt-MOST_ROWS c = table_three c.args.bundle.now c.args.j _ c.read_entry-entry.ensures.0 (omega arith)

pub returns-then-entry-place : goal.returns-then-entry-place
returns-then-entry-place c =
    table_ten c.args.bundle.now c.args.j _ c.read_entry-entry.ensures.0 (omega arith) (λ e. omega (arith, c.requires.2))

pub returns-then-bundle-place : goal.returns-then-bundle-place
returns-then-bundle-place c =
    table_eleven c.args.bundle.now c.args.j _ c.read_entry-entry.ensures.0 (omega arith) (omega (arith, c.requires.2)) (omega (arith, c.requires.2))

pub returns : goal.returns
returns c =
    table_passes c.args.bundle.now c.args.j _ c.read_entry-entry.ensures.0 (omega arith) (omega (arith, c.requires.2)) (omega (arith, c.requires.2))
