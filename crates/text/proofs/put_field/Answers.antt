-- A space, then the number behind it.
use native.Mathlib.Omega.{arith}
use Rattle.writing.proofs.WrittenLaws.{wrote_then}
use Rattle.text.proofs.put_field.Goals as goal

pub put_number-requires : goal.put_number-requires
put_number-requires c = omega (arith, c.put_byte-next.ensures.ends)

pub returns : goal.returns
returns c =
    let a = c.args in
    wrote_then c.put_byte-next.ensures (omega arith) c.put_number.ensures
