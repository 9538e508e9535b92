-- The rows from place k on are marked, `next` is the row at place k, and `marks` are its marks.
use mathlib.Core.Path.{◌≡◌}
use Prim.Native.Nat.{◌<◌}
use lib.ListN.{length}
use Rattle.terms.specs.Monomials.{row_at}
use Rattle.terms.specs.Rows.{rows_of, as_row}
use Rattle.division.specs.Janet.{marks_of}
use Rattle.marking.specs.InOrder.{GivesOrder}
use Rattle.marking.proofs.WritingLaws.{Written}
use Rattle.marking.proofs.mark_rows.Given as goal

abbrev pub invariant-loop-k : goal.invariant-loop-k
invariant-loop-k g l = (o : GivesOrder (rows_of l.table) (goal.F-pre g l.number_at) (goal.F-post g l.number_at)) × record {
  within : l.k < length (rows_of l.table);
  next : l.next ≡ as_row l.table.n (row_at (rows_of l.table) (o.number l.k));
  marks : l.marks ≡ marks_of l.table.n (rows_of l.table) (row_at (rows_of l.table) (o.number l.k));
  written : Written l.table.n (rows_of l.table) o.number l.fn.buffer l.k l.buffer;
}
