-- `put16` meets its contract: the low byte, and the high byte behind it.
use native.Mathlib.Omega.{arith}
use Rattle.writing.proofs.WrittenLaws.{wrote_then, wrote_as}
use Rattle.packing.proofs.LoopLaws.{bytes_low_high}
use Rattle.packing.proofs.put16.Goals as goal

pub returns : goal.returns
returns c =
    wrote_as (wrote_then c.put_byte-next.ensures (omega arith) c.put_byte.ensures) (bytes_low_high c.args.value c.ranges.value.fits c.to_le_bytes.ensures)
