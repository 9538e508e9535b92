use borrow.Author.Rules.{rules}
use native.Mathlib.Omega.{arith}
use mathlib.Core.Path.{refl}
use Prim.Native.Nat.{◌+◌, ◌≤◌, ◌<◌}
use Rattle.terms.specs.Rows.{rows_of}
use Rattle.finding.specs.Stepping.{Reached}
use Rattle.finding.proofs.SteppingLaws.{read_at, reached_above, run_next}
use Rattle.finding.proofs.along.Goals as goal
use Rattle.finding.proofs.along.Goals.{else-loop-end-test, then-loop-end-test+then-most-exponent}

pub returns : goal.returns
returns c =
    let a = c.args in
    let l = c.loop-end in
    let e = read_at a.query.now a.at.i.0 c.requires.1.variable in (
      record {
        run = l.invariant;
        beyond = λ h. elim c.loop-end-test.branch [
          | else-loop-end-test w ↦ let past : a.at.group.high.0 ≤ l.high.0 = search rules in absurd (omega (arith, past, h))
          | then-loop-end-test+then-most-exponent w ↦ omega (arith, e, w.if-most-exponent.true, w.exponent.ensures)
        ];
      },
      refl,
    )

pub larger_from-high-requires-in-loop-end : goal.larger_from-high-requires-in-loop-end
larger_from-high-requires-in-loop-end c =
    let a = c.args in
    let G = rows_of a.table in
    let l = c.loop-end in
    let e = read_at a.query.now a.at.i.0 c.requires.1.variable in
    let below : l.high.0 < a.at.group.high.0 = search rules in
    let r : Reached a.table.n G a.query.now a.at.i.0 l.high.0 a.at.group.high.0 (l.steps + 1) =
    reached_above l.invariant.reached c.requires.0 l.invariant.last below in
    (c.requires.1.variable, c.requires.0, omega (arith, r.limited, r.group.within), r.group, r.ascends, omega (arith, l.invariant.last.later))

pub loop-end-preserved : goal.loop-end-preserved
loop-end-preserved c =
    let a = c.args in
    let l = c.loop-end in
    let e = read_at a.query.now a.at.i.0 c.requires.1.variable in
    let below : l.high.0 < a.at.group.high.0 = search rules in
    run_next c.requires.0 l.invariant below
    (omega (arith, e, c.if-most-exponent.false, c.exponent.ensures)) c.larger_from-high-in-loop-end.ensures
