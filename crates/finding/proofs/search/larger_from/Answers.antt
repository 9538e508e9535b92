-- Two neighbouring rows that are a bracket of the range: since its exponents ascend, the second is the first later row with a larger exponent.
use Rattle.finding.proofs.SteppingLaws.{between_within, larger_found}
use Rattle.finding.proofs.search.larger_from.Goals as goal

pub returns : goal.returns
returns c =
    let e = c.exponent-bound.ensures in
    let b = between_within c.enclose.ensures c.narrow.ensures in
    larger_found c.narrow.result.0 c.requires.4 c.requires.3 (rw e at b)
