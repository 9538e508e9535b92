-- After each turn the lines of so many rows are written, and what the iterator has left are the bytes and the marks of the others.
use Rattle.std.specs.Iterator.Adapters.{zip_first, zip_second}
use Rattle.std.specs.Slice.Iter.{iter_rest, chunks_exact_rest, chunks_exact_size}
use Rattle.listing.proofs.TextLaws.{Listed}
use Rattle.listing.proofs.put_rows.Given as goal

abbrev pub invariant-loop-row : goal.invariant-loop-row
invariant-loop-row l =
    let rows_left = zip_first l.row-iterator in
    let marks_left = iter_rest (zip_second l.row-iterator) in
    Listed l.table.n l.table.bytes.now l.marks l.initial.out l.at (chunks_exact_size rows_left) (chunks_exact_rest rows_left) marks_left l.next l.out
