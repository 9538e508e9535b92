use native.Mathlib.Omega.{arith}
use mathlib.Core.Path.{ap}
use mathlib.Core.List.{List, ◌∷◌}
use Prim.Native.Nat.{ℕ}
use lib.Seq.{take_all}
use Rattle.std.specs.List.{flat_map}
use Rattle.text.specs.Decimal.{field}
use Rattle.writing.proofs.WrittenLaws.{wrote_then, wrote_as}
use Rattle.listing.proofs.TextLaws.{numbers_line_parts, numbers_line_length, joined_next, joined_fits}
use Rattle.listing.proofs.put_numbers_line.Goals as goal

pub put_field-next-requires : goal.put_field-next-requires
put_field-next-requires c =
    let numbers = c.args.numbers.now in
    omega (arith, numbers_line_length c.args.letter numbers, joined_fits field numbers c.loop-number.number-index (omega arith))

pub loop-number-preserved : goal.loop-number-preserved
loop-number-preserved c =
    let more = joined_next field c.args.numbers.now c.loop-number.number-index (omega arith) in
    wrote_as (wrote_then c.loop-number.invariant (omega arith) c.put_field-next.ensures) (ap (λ (l : List ℕ). c.args.letter ∷ l) more)

pub put_byte-requires : goal.put_byte-requires
put_byte-requires c =
    let numbers = c.args.numbers.now in
    let all = wrote_as c.loop-number.invariant
    (ap (λ (l : List ℕ). c.args.letter ∷ flat_map field l) (take_all c.loop-number.number-index numbers (omega arith))) in
    omega (arith, numbers_line_length c.args.letter numbers, all.ends)

pub returns : goal.returns
returns c =
    let numbers = c.args.numbers.now in
    let all = wrote_as c.loop-number.invariant
    (ap (λ (l : List ℕ). c.args.letter ∷ flat_map field l) (take_all c.loop-number.number-index numbers (omega arith))) in
    wrote_as (wrote_then all (omega arith) c.put_byte.ensures) (numbers_line_parts c.args.letter numbers)
