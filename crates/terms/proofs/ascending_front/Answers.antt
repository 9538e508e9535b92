use native.Mathlib.Omega.{arith}
use Rattle.terms.proofs.KeyLaws.{front_first, front_next, front_done, front_none}
use Rattle.terms.proofs.ascending_front.Goals as goal

pub returns-then-n-gt6 : goal.returns-then-n-gt6
returns-then-n-gt6 c = let a = c.args in front_none a.n a.bytes.now

pub loop-at-init : goal.loop-at-init
loop-at-init c = (omega (arith, c.requires), front_first c.args.n c.args.bytes.now c.key_at-before.result (omega arith) c.key_at-before.ensures)

pub key_at-key-requires : goal.key_at-key-requires
key_at-key-requires c = (c.requires, omega arith, omega arith)

pub returns-then-key-before : goal.returns-then-key-before
returns-then-key-before c = front_done c.loop-at.invariant.1

pub overflow_add-k : goal.overflow_add-k
overflow_add-k c = omega (arith, c.loop-at.invariant.0)

pub loop-at-smaller : goal.loop-at-smaller
loop-at-smaller c = omega (arith, c.requires)

pub loop-at-preserved : goal.loop-at-preserved
loop-at-preserved c =
    let key = c.key_at-key in (
      omega (arith, c.loop-at.invariant.0, c.requires),
      front_next c.loop-at.invariant.1 (λ i. omega (arith, c.type_inv.bytes i)) (omega arith) (omega arith) key.result key.ensures (omega arith),
    )

pub returns : goal.returns
returns c = front_done c.loop-at.invariant.1
