use native.Mathlib.Omega.{arith}
use mathlib.Core.Path.{ap, ◌∙◌}
use lib.ListN.{length}
use lib.Seq.{take_all}
use Rattle.std.specs.List.{flat_map}
use Rattle.writing.proofs.WrittenLaws.{wrote_nothing, wrote_then, wrote_as}
use Rattle.listing.proofs.TextLaws.{entry, joined_next, joined_fits, spaced_entries}
use Rattle.listing.proofs.put_exponents.Goals as goal

pub loop-e-init : goal.loop-e-init
loop-e-init c = wrote_nothing c.args.out.now c.args.at

pub put_exponent-next-requires : goal.put_exponent-next-requires
put_exponent-next-requires c =
    let row = c.args.row.now in
    omega (arith, joined_fits entry row c.loop-e.e-index (omega arith), ap length (spaced_entries row))

pub loop-e-preserved : goal.loop-e-preserved
loop-e-preserved c =
    wrote_as (wrote_then c.loop-e.invariant (omega arith) c.put_exponent-next.ensures) (joined_next entry c.args.row.now c.loop-e.e-index (omega arith))

pub returns : goal.returns
returns c =
    let row = c.args.row.now in
    wrote_as c.loop-e.invariant (ap (flat_map entry) (take_all c.loop-e.e-index row (omega arith)) ∙ spaced_entries row)
