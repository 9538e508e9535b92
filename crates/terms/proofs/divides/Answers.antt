-- There is no first failure exactly where u divides q.
use native.Mathlib.Omega.{arith}
use Rattle.terms.proofs.IdealLaws.{failure_test}
use Rattle.terms.proofs.divides.Goals as goal

pub returns : goal.returns
returns c =
    let test = failure_test _ _ _ c.first_failure.ensures in
    grind (arith, test, c.is_none.ensures)
