-- The letter is written, and after so many turns the numbers before the one at hand, each behind one space.
use lib.ListN.{take}
use mathlib.Core.List.{[], ◌∷◌, ◌++◌}
use Rattle.std.specs.List.{flat_map}
use Rattle.text.specs.Decimal.{field}
use Rattle.writing.specs.Written.{Wrote}
use Rattle.listing.proofs.put_numbers_line.Given as goal

abbrev pub invariant-loop-number : goal.invariant-loop-number
invariant-loop-number l = Wrote l.fn.out l.at ((l.letter ∷ []) ++ flat_map field (take l.number-index l.numbers)) l.next l.out
