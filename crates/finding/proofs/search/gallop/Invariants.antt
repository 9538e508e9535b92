-- Invariant: the stride at hand begins before the end, where the test failed, or at 0.
use Rattle.std.proofs.Common.{◌≡◌, ◌⊎◌, ◌-◌, ◌/◌, ◌<◌, false}
use Rattle.finding.proofs.search.gallop.Given as goal

abbrev pub invariant-loop-to : goal.invariant-loop-to
invariant-loop-to g l = (0 < l.to) × (l.to / 2 < l.end) × ((l.to / 2 ≡ 0) ⊎ goal.F-post g l.stops (l.to / 2) false)

abbrev pub decreases-loop-to : goal.decreases-loop-to
decreases-loop-to g l = l.end - l.to
