-- The first line, the lines of the rows and the last line, one behind the other.
use native.Mathlib.Omega.{arith}
use mathlib.Core.Path.{◌≡◌, refl}
use Rattle.terms.specs.Rows.{rows_of}
use Rattle.counts.specs.Counts.{steady_of}
use Rattle.writing.proofs.WrittenLaws.{wrote_then, wrote_as}
use Rattle.listing.proofs.BoundLaws.{whole_text_sum, whole_text_parts}
use Rattle.listing.proofs.put_whole.Goals as goal

pub put_table_line-line_end-requires : goal.put_table_line-line_end-requires
put_table_line-line_end-requires c =
    let a = c.args in
    let H = rows_of a.table in
    let same : steady_of H ≡ steady_of H = refl in
    omega (arith, whole_text_sum a.j a.given H a.marks.now c.row_count.ensures same)

pub put_rows-rows_end-requires : goal.put_rows-rows_end-requires
put_rows-rows_end-requires c =
    let a = c.args in
    let H = rows_of a.table in
    let same : steady_of H ≡ steady_of H = refl in
    let lengths = whole_text_sum a.j a.given H a.marks.now c.row_count.ensures same in
    (c.requires.0, c.requires.1, c.requires.2, omega (arith, lengths, c.put_table_line-line_end.ensures.ends))

pub put_steady_line-requires : goal.put_steady_line-requires
put_steady_line-requires c =
    let a = c.args in
    let lengths = whole_text_sum a.j a.given (rows_of a.table) a.marks.now c.row_count.ensures c.largest_degree-steady.ensures in
    omega (arith, lengths, c.put_table_line-line_end.ensures.ends, c.put_rows-rows_end.ensures.ends)

pub returns : goal.returns
returns c =
    let a = c.args in
    let upto-second = wrote_then c.put_table_line-line_end.ensures (omega arith) c.put_rows-rows_end.ensures in
    let upto-third = wrote_then upto-second (omega arith) c.put_steady_line.ensures in
    wrote_as upto-third (whole_text_parts a.j a.given (rows_of a.table) a.marks.now c.row_count.ensures c.largest_degree-steady.ensures)
