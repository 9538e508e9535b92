-- After so many turns the exponents before the one at hand are written, each with one space behind it.
use lib.ListN.{take}
use Rattle.std.specs.List.{flat_map}
use Rattle.writing.specs.Written.{Wrote}
use Rattle.listing.proofs.TextLaws.{entry}
use Rattle.listing.proofs.put_exponents.Given as goal

abbrev pub invariant-loop-e : goal.invariant-loop-e
invariant-loop-e l = Wrote l.initial.out l.at (flat_map entry (take l.e-index l.row)) l.next l.out
