-- No entry before the stretch at hand is above 50, so the search in what is left says what the whole search says.
use mathlib.Core.Path.{◌≡◌}
use lib.Dec.{ltb}
use Rattle.std.specs.Slice.Iter.{chunks_rest}
use Rattle.checks.specs.Tests.{any}
use Rattle.terms.proofs.has_large_entry.Given as goal

abbrev pub invariant-loop-stretch : goal.invariant-loop-stretch
invariant-loop-stretch l =
    goal.iterator-loop-stretch.can_next l.stretch-iterator
    × goal.iterator-loop-stretch.is_finite l.stretch-iterator
    × (any (λ e. ltb 50 e) l.bytes ≡ any (λ e. ltb 50 e) (chunks_rest l.stretch-iterator))
