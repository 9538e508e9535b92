-- The tables before j passed, the place is where body j must begin, and the checks from table j on decide.
use Rattle.bundle.proofs.CheckLaws.{Passed}
use Rattle.bundle.proofs.check_tables.Given as goal

abbrev pub invariant-loop-j : goal.invariant-loop-j
invariant-loop-j l = Passed l.bundle l.place l.j
