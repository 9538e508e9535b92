use native.Mathlib.Omega.{arith}
use mathlib.Core.Path.{sym, ◌∙◌}
use Prim.Native.Nat.{◌-◌}
use Rattle.checks.proofs.TestLaws.{tests_true}
use Rattle.terms.specs.Rows.{rows}
use Rattle.terms.proofs.OrderLaws.{tests_ascending}
use Rattle.terms.proofs.RowsLaws.{length_rows}
use Rattle.terms.proofs.LoopLaws.{breaks}
use Rattle.terms.proofs.KeyLaws.{front_more}
use Rattle.terms.proofs.FlatTable.ascends.Goals as goal

pub loop-k-init : goal.loop-k-init
loop-k-init c = c.ascending_front-k.ensures

pub overflow_sub-k : goal.overflow_sub-k
overflow_sub-k c = omega (arith, c.loop-k.invariant.some)

pub precedes_next-requires : goal.precedes_next-requires
precedes_next-requires c =
    let a = c.args in
    omega (arith, length_rows a.self.n a.self.bytes.now, c.loop-k.invariant.some)

pub returns-then-not-precedes_next : goal.returns-then-not-precedes_next
returns-then-not-precedes_next c =
    let a = c.args in
    let l = c.loop-k in
    let G = rows a.self.n a.self.bytes.now in
    breaks G (l.k - 1) (omega (arith, length_rows a.self.n a.self.bytes.now, l.invariant.some)) (sym c.if-not-precedes_next.true ∙ c.precedes_next.ensures)

pub loop-k-preserved : goal.loop-k-preserved
loop-k-preserved c =
    let a = c.args in
    front_more c.loop-k.invariant (sym c.if-not-precedes_next.false ∙ c.precedes_next.ensures)

pub returns : goal.returns
returns c =
    let a = c.args in
    let G = rows a.self.n a.self.bytes.now in
    tests_true (tests_ascending G) (λ r h. c.loop-k.invariant.ascends r (omega (arith, length_rows a.self.n a.self.bytes.now)) h)
