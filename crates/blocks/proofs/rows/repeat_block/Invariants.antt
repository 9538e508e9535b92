-- `repeat_block` meets its contract. The block stands under each head before the present one, and there is room for it.
use mathlib.Core.List.{◌++◌}
use lib.ListN.{length, take}
use Rattle.terms.specs.Rows.{flat}
use Rattle.blocks.specs.Bytes.{part, copies}
use mathlib.Core.Path.{◌≡◌}
use Prim.Native.Nat.{suc, ◌+◌, ◌*◌, ◌-◌, ◌≤◌}
use Rattle.blocks.proofs.rows.repeat_block.Given as goal

abbrev pub invariant-loop-head : goal.invariant-loop-head
invariant-loop-head l =
    let block = part l.n l.count (l.first.0 * l.n) l.initial.out in
    let written = copies (l.i.0 - 1) (suc l.last) (l.head - suc l.last) block in
    (l.end * l.n ≤ length l.out)
    × (l.end ≡ l.initial.end + length written)
    × (take (l.end * l.n) l.out ≡ take (l.initial.end * l.n) l.initial.out ++ flat written)
    × (l.head - suc l.last ≤ l.a - suc l.last)
