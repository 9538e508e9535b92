-- Invariant: the two rows at hand are a bracket within the given one. Once they are neighbours the lower is the one before the answer.
use Prim.Native.Nat.{◌-◌}
use Rattle.terms.specs.Rows.{rows_of}
use Rattle.finding.specs.Stepping.{Between}
use Rattle.finding.proofs.search.Column.narrow.Given as goal

abbrev pub invariant-loop-high : goal.invariant-loop-high
invariant-loop-high l = Between (rows_of l.self.table) l.self.i.0 l.self.bound l.initial.low l.initial.high l.low l.high

abbrev pub decreases-loop-high : goal.decreases-loop-high
decreases-loop-high l = l.high - l.low
