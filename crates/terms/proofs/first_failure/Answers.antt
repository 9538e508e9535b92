use borrow.Author.Rules.{rules}
use native.Mathlib.Omega.{arith}
use mathlib.Core.Path.{◌≡◌}
use Prim.Native.Nat.{◌≤◌}
use lib.ListN.{length}
use Rattle.terms.specs.Monomials.{◌!◌}
use Rattle.terms.proofs.MonomialLaws.{upto_next, upto_zero}
use Rattle.terms.proofs.LoopLaws.{fails_at, never_fails}
use Rattle.terms.proofs.first_failure.Goals as goal

pub loop-i-init : goal.loop-i-init
loop-i-init c = upto_zero (λ j. c.args.u.exponents ! j ≤ c.args.q.exponents ! j) (omega arith)

pub returns-then-u-i : goal.returns-then-u-i
returns-then-u-i c =
    let a = c.args in
    let l = c.loop-i in
    fails_at a.u.exponents a.q.exponents l.i l.invariant c.if-u-i.true

pub loop-i-preserved : goal.loop-i-preserved
loop-i-preserved c =
    let a = c.args in
    let l = c.loop-i in
    upto_next (λ j. a.u.exponents ! j ≤ a.q.exponents ! j) l.i l.invariant c.if-u-i.false

pub returns : goal.returns
returns c =
    let a = c.args in
    let six : length a.u.exponents ≡ 6 = search rules in
    never_fails a.u.exponents a.q.exponents c.loop-i.i (omega arith) c.loop-i.invariant
