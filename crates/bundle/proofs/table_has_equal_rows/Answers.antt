-- The part that the header tells for table j is its body, and passes the checks 1 to 4.
use mathlib.Core.Path.{ap, ◌∙◌}
use Rattle.distinct.specs.EqualRows.{equal_rows_test}
use Rattle.bundle.proofs.AcceptedLaws.{laid}
use Rattle.bundle.proofs.ReadLaws.{entry_stands, stands_within, stands_shows, shown_rows, shown_accepted}
use Rattle.bundle.proofs.table_has_equal_rows.Goals as goal

pub part-requires : goal.part-requires
part-requires c =
    let t = (laid c.args.bundle.now c.requires.0).tables c.args.j c.requires.2 in
    stands_within (entry_stands t c.read_entry-found.ensures.0) t

pub has_equal_rows-requires : goal.has_equal_rows-requires
has_equal_rows-requires c =
    let t = (laid c.args.bundle.now c.requires.0).tables c.args.j c.requires.2 in
    let s = stands_shows (entry_stands t c.read_entry-found.ensures.0) {t = c.part.result} c.part.ensures.0 c.part.ensures.1.bytes in
    shown_accepted s c.requires.0 c.requires.1 c.requires.2

pub returns : goal.returns
returns c =
    let t = (laid c.args.bundle.now c.requires.0).tables c.args.j c.requires.2 in
    let s = stands_shows (entry_stands t c.read_entry-found.ensures.0) {t = c.part.result} c.part.ensures.0 c.part.ensures.1.bytes in
    c.has_equal_rows.ensures ∙ ap equal_rows_test (shown_rows s)
