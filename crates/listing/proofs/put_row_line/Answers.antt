-- The line part by part: the exponents, the colon, the marks behind a space, and the line feed.
use native.Mathlib.Omega.{arith}
use mathlib.Core.Path.{ap}
use Rattle.text.specs.Decimal.{field}
use Rattle.writing.proofs.WrittenLaws.{wrote_then, wrote_as}
use Rattle.listing.proofs.TextLaws.{row_line_parts}
use Rattle.listing.proofs.put_row_line.Goals as goal

pub returns : goal.returns
returns c =
    let marks = wrote_as c.put_field-marks_end.ensures (ap field c.from.ensures) in
    let upto-second = wrote_then c.put_exponents-exponents_end.ensures (omega arith) c.put_byte-colon_end.ensures in
    let upto-third = wrote_then upto-second (omega arith) marks in
    let upto-fourth = wrote_then upto-third (omega arith) c.put_byte.ensures in
    wrote_as upto-fourth (row_line_parts c.args.row.now c.args.marks)
