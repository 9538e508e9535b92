-- Six exponents are read, with zeros for those that the row lacks.
use Rattle.terms.proofs.LoopLaws.{row_of_six}
use Rattle.terms.proofs.Row.of_bytes.Goals as goal

pub returns : goal.returns
returns c =
    row_of_six c.args.bytes.now c.requires c.exponent_or_zero.ensures c.exponent_or_zero-2.ensures c.exponent_or_zero-3.ensures
    c.exponent_or_zero-4.ensures c.exponent_or_zero-5.ensures c.exponent_or_zero-6.ensures
