-- Invariant: stepping has come to the exponent of the rows low to before high, and what is left of rule 6 from here is the same as from the start.
-- The next exponent that does not exceed the query's is one more step (run_next); where there is none stepping has ended.
use Prim.Native.Nat.{◌-◌}
use Rattle.terms.specs.Rows.{rows_of}
use Rattle.finding.specs.Stepping.{AtRun}
use Rattle.finding.proofs.along.Given as goal

abbrev pub invariant-loop-end : goal.invariant-loop-end
invariant-loop-end l = AtRun l.table.n (rows_of l.table) l.query l.at.i.0 l.at.group.low.0 l.end.0 l.at.steps l.low.0 l.high.0 l.steps

abbrev pub decreases-loop-end : goal.decreases-loop-end
decreases-loop-end l = l.end.0 - l.high.0
