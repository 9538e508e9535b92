-- A number below 10 is one digit. For any other the library writes the digits into a buffer of its own, and these are copied to their place.
use native.Mathlib.Omega.{arith}
use mathlib.Core.Path.{◌≡◌}
use Rattle.std.specs.Fmt
use Rattle.text.proofs.DecimalLaws.{decimal_one_length, number_one, number_length, number_wrote}
use Rattle.text.proofs.put_number.Goals as goal

pub put_byte-requires : goal.put_byte-requires
put_byte-requires c = omega (arith, decimal_one_length c.args.x (omega arith))

pub returns-then-x-lt10 : goal.returns-then-x-lt10
returns-then-x-lt10 c = number_one (omega arith) c.put_byte.ensures

pub copy_from-requires : goal.copy_from-requires
copy_from-requires c =
    let text : c.as_bytes-digits.result.now ≡ Fmt.decimal c.args.x = cc in
    (omega (arith, number_length c.args.x c.ranges.x.fits text), omega arith)

pub returns : goal.returns
returns c =
    let text : c.as_bytes-digits.result.now ≡ Fmt.decimal c.args.x = cc in
    number_wrote c.ranges.x.fits text c.copy_from.ensures
