-- The number, then the space behind it.
use native.Mathlib.Omega.{arith}
use mathlib.Core.Path.{ap}
use mathlib.Core.List.{[], ◌∷◌}
use lib.ListN.{length-append}
use Rattle.text.specs.Decimal.{decimal, space}
use Rattle.writing.proofs.WrittenLaws.{wrote_then, wrote_as}
use Rattle.listing.proofs.put_exponent.Goals as goal

pub put_number-next-requires : goal.put_number-next-requires
put_number-next-requires c = rw c.from.ensures (omega (arith, length-append (decimal c.args.e) (space ∷ [])))

pub put_byte-requires : goal.put_byte-requires
put_byte-requires c =
    let number = wrote_as c.put_number-next.ensures (ap decimal c.from.ensures) in
    omega (arith, length-append (decimal c.args.e) (space ∷ []), number.ends)

pub returns : goal.returns
returns c =
    let number = wrote_as c.put_number-next.ensures (ap decimal c.from.ensures) in
    wrote_then number (omega arith) c.put_byte.ensures
