-- The line part by part: the letter and the number, the second letter and 8, and the line feed.
use native.Mathlib.Omega.{arith}
use Rattle.writing.proofs.WrittenLaws.{wrote_then, wrote_as}
use Rattle.listing.proofs.TextLaws.{no_room_line_parts}
use Rattle.listing.proofs.put_no_room_line.Goals as goal

pub returns : goal.returns
returns c =
    let a = c.args in
    let upto-second = wrote_then c.put_byte-letter_end.ensures (omega arith) c.put_field-number_end.ensures in
    let upto-third = wrote_then upto-second (omega arith) c.put_byte-space_end.ensures in
    let upto-fourth = wrote_then upto-third (omega arith) c.put_byte-refused_end.ensures in
    let upto-fifth = wrote_then upto-fourth (omega arith) c.put_field-eight_end.ensures in
    let upto-sixth = wrote_then upto-fifth (omega arith) c.put_byte.ensures in
    wrote_as upto-sixth (no_room_line_parts a.j)
