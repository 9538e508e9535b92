use native.Mathlib.Omega.{arith}
use Rattle.writing.proofs.CopyLaws.{copied_none, copied_all, copied_length, copied_more}
use Rattle.writing.proofs.copy_from.Goals as goal

pub loop-i-init : goal.loop-i-init
loop-i-init c = copied_none

pub bounds-bytes-to : goal.bounds-bytes-to
bounds-bytes-to c = let l = copied_length c.loop-i.invariant (omega arith) (omega arith) in omega arith

pub loop-i-preserved : goal.loop-i-preserved
loop-i-preserved c = copied_more c.loop-i.invariant (omega arith) (omega arith) (omega arith)

pub shape_of-bytes : goal.shape_of-bytes
shape_of-bytes c = copied_length c.loop-i.invariant (omega arith) (omega arith)

pub returns : goal.returns
returns c = copied_all c.loop-i.invariant (omega arith)
