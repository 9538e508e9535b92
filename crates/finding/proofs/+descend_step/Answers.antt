use borrow.Author.Rules.{rules}
use native.Mathlib.Omega.{arith}
use mathlib.Core.Path.{ap, ◌∙◌}
use Prim.Native.Nat.{◌≤◌, ◌<◌}
use Rattle.finding.specs.Stepping.{descended}
use Rattle.finding.proofs.SteppingLaws.{read_at, reached_end, reached_none, run_gap, run_down, run_shared}
use Rattle.finding.proofs.+descend_step.Goals as goal
use Rattle.finding.proofs.+descend_step.Goals.{step-then-lt+else-exponent-most, step-else-lt}

pub descend-returns-then-table-at : goal.descend-returns-then-table-at
descend-returns-then-table-at t c = ap descended (reached_end c.requires.1 c.if-table-at.true c.requires.0)

pub step-returns-then-most-exponent : goal.step-returns-then-most-exponent
step-returns-then-most-exponent t c =
    let a = c.args in
    let e = read_at a.query.now a.at.i.0 c.requires.1.variable in
    ap descended (reached_none c.requires.1 c.requires.0 (omega (arith, e, c.if-most-exponent.true, c.exponent.ensures)))

pub step-along-last-requires : goal.step-along-last-requires
step-along-last-requires t c =
    let a = c.args in
    let e = read_at a.query.now a.at.i.0 c.requires.1.variable in
    (c.requires.0, c.requires.1, omega (arith, e, c.if-most-exponent.false, c.exponent.ensures))

pub step-returns-then-exponent-most : goal.step-returns-then-exponent-most
step-returns-then-exponent-most t c =
    let a = c.args in
    let e = read_at a.query.now a.at.i.0 c.requires.1.variable in
    let w = c.along-last in
    let x = w.result in
    let l : x.group.high.0 < a.at.group.high.0 = search rules in
    ap descended (run_gap c.requires.0 w.ensures.0.run l (w.ensures.0.beyond l)
    (omega (arith, e, c.if-exponent-most.true, c.exponent-then-lt.ensures)))

pub step-descend-requires : goal.step-descend-requires
step-descend-requires t c =
    let w = c.along-last in
    let m = c.decreases in (
      omega (arith, w.ensures.0.run.from, w.ensures.0.run.last.later, w.ensures.0.run.last.within),
      (omega (arith, c.requires.0), run_shared c.requires.0 w.ensures.0.run),
    )

pub step-returns : goal.step-returns
step-returns t c =
    let a = c.args in
    let e = read_at a.query.now a.at.i.0 c.requires.1.variable in
    let w = c.along-last in
    c.descend.ensures ∙ ap descended (run_down c.requires.0 w.ensures.0.run w.ensures.0.beyond (λ l. elim c.if-lt.branch [
      | step-then-lt+else-exponent-most y ↦ omega (arith, e, y.if-exponent-most.false, y.exponent-then-lt.ensures)
      | step-else-lt y ↦ let past : a.at.group.high.0 ≤ w.result.group.high.0 = search rules in absurd (omega (arith, past, l))
    ]))
