-- Each row before row k precedes the one behind it; the first that does not ends the walk.
use Rattle.terms.specs.Keys.{FrontAscends}
use Rattle.terms.proofs.FlatTable.ascends.Given as goal

abbrev pub invariant-loop-k : goal.invariant-loop-k
invariant-loop-k l = FrontAscends l.self.n l.self.bytes.now l.k
