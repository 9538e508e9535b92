-- The rows are as many as n fits into the length.
use mathlib.Core.Path.{sym}
use Rattle.terms.proofs.RowsLaws.{length_rows}
use Rattle.terms.proofs.FlatTable.row_count.Goals as goal

pub returns : goal.returns
returns c = sym (length_rows c.args.self.n c.args.self.bytes.now)
