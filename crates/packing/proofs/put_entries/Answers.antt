use native.Mathlib.Omega.{arith}
use Rattle.packing.proofs.LoopLaws.{entered_none, entered_more, entered_all}
use Rattle.packing.proofs.put_entries.Goals as goal

pub loop-rows-init : goal.loop-rows-init
loop-rows-init c = entered_none

pub loop-rows-preserved : goal.loop-rows-preserved
loop-rows-preserved c =
    entered_more c.loop-rows.invariant c.from.result (omega arith) c.from.ensures (omega arith) (rw c.from.ensures c.put16-next.ensures) c.put16-at.ensures

pub returns : goal.returns
returns c = entered_all c.loop-rows.invariant (omega arith)
