-- Stepping along a variable calls for the next variable, which calls for stepping again. The measure: the rows left, which bound the exponents left, plus
-- the variables left. They fall at the call for the next variable; `descend` calls `step` with the same, so it counts one more.
-- Each return is a law of rule 6 over ranges: reached_end, reached_none, run_gap, run_down.
use Prim.Native.Nat.{suc, ◌+◌, ◌*◌, ◌-◌}
use Rattle.finding.proofs.+descend_step.Given as goal

abbrev pub decreases-descend : goal.decreases-descend
decreases-descend l = 2 * ((l.at.group.high.0 - l.at.group.low.0) + (suc l.table.n - l.at.i.0)) + 1

abbrev pub decreases-step : goal.decreases-step
decreases-step l = 2 * ((l.at.group.high.0 - l.at.group.low.0) + (suc l.table.n - l.at.i.0))
