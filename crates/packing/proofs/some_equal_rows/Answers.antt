use native.Mathlib.Omega.{arith}
use Rattle.packing.proofs.SearchLaws.{looked_none, looked_found, looked_more, looked_all, part_fits, part_within, part_accepted}
use Rattle.packing.proofs.some_equal_rows.Goals as goal

pub loop-count-init : goal.loop-count-init
loop-count-init c = looked_none c.requires.0 c.requires.1

pub overflow_mul-from : goal.overflow_mul-from
overflow_mul-from c = omega (arith, part_fits c.loop-count.invariant c.from.result (omega arith) c.from.ensures)

pub split_at-requires : goal.split_at-requires
split_at-requires c = part_within c.loop-count.invariant c.from.result (omega arith) c.from.ensures

pub has_equal_rows-requires : goal.has_equal_rows-requires
has_equal_rows-requires c =
    part_accepted c.loop-count.invariant c.from.result (omega arith) c.from.ensures c.split_at.ensures.front

pub returns-then-has_equal_rows : goal.returns-then-has_equal_rows
returns-then-has_equal_rows c =
    let s = c.split_at.ensures in
    looked_found c.loop-count.invariant c.from.result (omega arith) c.from.ensures s.front s.back c.has_equal_rows.ensures c.if-has_equal_rows.true

pub loop-count-preserved : goal.loop-count-preserved
loop-count-preserved c =
    let s = c.split_at.ensures in
    looked_more c.loop-count.invariant c.from.result (omega arith) c.from.ensures s.front s.back c.has_equal_rows.ensures c.if-has_equal_rows.false

pub returns : goal.returns
returns c = looked_all c.loop-count.invariant (omega arith)
