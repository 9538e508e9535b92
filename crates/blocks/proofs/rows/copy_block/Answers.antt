-- `copy_block` meets its contract. A copy of the rows, and one column of it set.
use Rattle.std.proofs.Common.{arith, ◌+◌, ◌-◌}
use Rattle.blocks.proofs.ByteLaws.{rows_before}
use Rattle.blocks.proofs.RowLaws.{again_rows}
use Rattle.blocks.proofs.rows.copy_block.Goals as goal

pub copy_within-requires : goal.copy_within-requires
copy_within-requires c =
    let a = c.args in
    let whole = rows_before a.end.0 a.count (a.end.0 + a.count) a.n (omega arith) in
    (rows_before a.first.0 a.count a.end.0 a.n (omega arith), omega arith)

pub returns : goal.returns
returns c =
    let a = c.args in
    again_rows a.n (a.i.0 - 1) a.first.0 a.count a.end.0 a.e a.out.now
    c.copy_within.new.bytes c.set_column.new.out
    (omega arith) (omega arith)
    c.copy_within.ensures c.set_column.ensures
