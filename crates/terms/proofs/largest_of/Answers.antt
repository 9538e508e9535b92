use native.Mathlib.Omega.{arith}
use mathlib.Core.Path.{sym, subst}
use Prim.Native.Nat.{◌+◌}
use lib.ListN.{take}
use Rattle.terms.specs.Monomials.{LargestOf}
use Rattle.terms.proofs.LoopLaws.{largest_none, largest_next, largest_whole}
use Rattle.terms.proofs.largest_of.Goals as goal

pub loop-entry-init : goal.loop-entry-init
loop-entry-init c = largest_none

pub loop-entry-preserved : goal.loop-entry-preserved
loop-entry-preserved c =
    let bytes = c.args.bytes.now in
    let l = c.loop-entry in
    subst (LargestOf (take (l.entry-index + 1) bytes)) (sym c.max-largest.ensures) (largest_next bytes l.entry-index l.largest (omega arith) l.invariant)

pub returns : goal.returns
returns c = let l = c.loop-entry in largest_whole c.args.bytes.now l.entry-index l.largest (omega arith) l.invariant
