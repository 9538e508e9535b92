-- `append_completed` calls `take_head` at the same number of variables, and `take_head` calls `append_completed` at one less: 2r for `take_head` and
-- 2r + 1 for `append_completed`, with r variables behind the present one.
-- The loop of `append_completed`: what is written, the block, the generators and the last head are those of the walk on lists after the heads below a, and the
-- chains stand. `take_head` follows one step of that walk: the tails are collected, tested, and where they grow the block is repeated and the tails completed.
use mathlib.Core.Path.{◌≡◌}
use Prim.Native.Nat.{suc, ◌+◌, ◌*◌}
use lib.ListN.{length, take}
use Rattle.terms.specs.Rows.{first_rows}
use Rattle.slicing.specs.Walk.{Standing}
use Rattle.blocks.specs.Bytes.{Linked, Firsts}
use Rattle.slicing.proofs.+append_completed_take_head.Given as goal

abbrev pub invariant-append_completed-loop-a : goal.invariant-append_completed-loop-a
invariant-append_completed-loop-a l =
    let n = l.prefix.n in
    let T = first_rows (suc l.rest) l.rows l.initial.work in
    Standing n T l.at (take (l.at * n) l.initial.out) l.rest l.rows l.prefix.exponents l.a l.work l.out l.progress
    × (take (l.rows * suc l.rest) l.work ≡ take (l.rows * suc l.rest) l.initial.work)
    × (length l.first ≡ 256)
    × Linked T l.next
    × Firsts T l.first

abbrev pub decreases-append_completed : goal.decreases-append_completed
decreases-append_completed l = 2 * l.rest + 1

abbrev pub decreases-take_head : goal.decreases-take_head
decreases-take_head l = 2 * l.rest
