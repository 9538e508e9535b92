-- One variable that fails decides; where each passes, the test of the row holds.
use native.Mathlib.Omega.{arith}
use mathlib.Core.Path.{◌≡◌, sym, ◌∙◌}
use Prim.Native.Nat.{◌<◌}
use Rattle.terms.specs.Rows.{rows_of, monomial_of}
use Rattle.covering.specs.RowTest.{variable_test, row_test}
use Rattle.covering.proofs.RowTestLaws.{marked_variable, unmarked_variable, each_goes_on, each_fails}
use Rattle.covering.proofs.row_complete.Goals as goal
use Rattle.covering.proofs.row_complete.Goals.{else-marks-i-eq0-via-then-marks-i-eq0+else-not-covered, else-marks-i-eq0-via-else-marks-i-eq0}

pub returns-then-not-covered : goal.returns-then-not-covered
unfolding row_test
returns-then-not-covered c =
    let a = c.args in
    let G = rows_of a.table in
    let u = monomial_of a.row in
    let i = c.loop-i.i in
    let l : i < a.table.n = omega arith in
    let fails = unmarked_variable a.table.n G u a.marks c.requires.3 i l c.if-marks-i-eq0.true c.covered.ensures ∙ c.if-not-covered.true in
    sym (each_fails a.table.n i (variable_test G u) l fails)

pub loop-i-preserved : goal.loop-i-preserved
loop-i-preserved c =
    let a = c.args in
    let G = rows_of a.table in
    let u = monomial_of a.row in
    let i = c.loop-i.i in
    let l : i < a.table.n = omega arith in
    each_goes_on i (variable_test G u) c.loop-i.invariant (elim c.else-marks-i-eq0.branch [
      | else-marks-i-eq0-via-then-marks-i-eq0+else-not-covered w ↦
          unmarked_variable a.table.n G u a.marks c.requires.3 i l w.if-marks-i-eq0.true w.covered.ensures ∙ w.if-not-covered.false
      | else-marks-i-eq0-via-else-marks-i-eq0 w ↦ marked_variable a.table.n G u a.marks c.requires.3 i l w.if-marks-i-eq0.false
    ])

pub returns : goal.returns
unfolding row_test
returns c =
    let e : c.loop-i.i ≡ c.args.table.n = omega arith in
    sym (rw e at c.loop-i.invariant)
