-- The recursion into an array of its own, then 8 or one copy to the buffer.
use Rattle.std.proofs.Common.{arith, ℕ}
use lib.ListN.{length-take}
use Rattle.completing.proofs.CollectLaws.{checked, room_fits_array, lent_length, collected_fits, complete_full, complete_done}
use Rattle.completing.proofs.complete_checked.Goals as goal

pub overflow_mul-table : goal.overflow_mul-table
overflow_mul-table c = omega (arith, checked c.args.table.n c.args.table.bytes.now c.args.buffer.now c.requires)

-- the part of the array that is lent
pub slice_bounds-completed-end : goal.slice_bounds-completed-end
slice_bounds-completed-end c = room_fits_array c.args.table.n c.args.table.bytes.now c.args.buffer.now c.requires c.min-room.ensures

pub slice_bounds-out-end : goal.slice_bounds-out-end
slice_bounds-out-end c = lent_length c.args.table.n c.args.table.bytes.now c.args.buffer.now c.requires c.min-room.ensures

pub collect-requires : goal.collect-requires
collect-requires c = checked c.args.table.n c.args.table.bytes.now c.args.buffer.now c.requires

-- more rows than room
pub returns-in_default : goal.returns-in_default
returns-in_default c =
    let a = c.args in
    complete_full a.table.n a.table.bytes.now a.buffer.now c.requires c.min-room.ensures c.in_default.ensures

-- the rows fit the buffer and what was lent
pub overflow_mul-size : goal.overflow_mul-size
overflow_mul-size c =
    let a = c.args in
    let fits = collected_fits a.table.n a.table.bytes.now a.buffer.now c.requires c.min-room.ensures c.in-Some.ensures in
    omega arith

pub slice_bounds-copy_from_slice-end : goal.slice_bounds-copy_from_slice-end
slice_bounds-copy_from_slice-end c =
    let a = c.args in
    let fits = collected_fits a.table.n a.table.bytes.now a.buffer.now c.requires c.min-room.ensures c.in-Some.ensures in
    omega arith

pub slice_bounds-copy_from_slice-end-2 : goal.slice_bounds-copy_from_slice-end-2
slice_bounds-copy_from_slice-end-2 c =
    let a = c.args in
    let fits = collected_fits a.table.n a.table.bytes.now a.buffer.now c.requires c.min-room.ensures c.in-Some.ensures in
    omega (arith, length-take {A = ℕ})

pub slice_bounds-copy_from_slice-end-3 : goal.slice_bounds-copy_from_slice-end-3
slice_bounds-copy_from_slice-end-3 c =
    let a = c.args in
    let fits = collected_fits a.table.n a.table.bytes.now a.buffer.now c.requires c.min-room.ensures c.in-Some.ensures in
    omega (arith, length-take {A = ℕ}, c.collect.auto.out)

pub copy_from_slice-requires : goal.copy_from_slice-requires
copy_from_slice-requires c =
    let a = c.args in
    let fits = collected_fits a.table.n a.table.bytes.now a.buffer.now c.requires c.min-room.ensures c.in-Some.ensures in
    omega (arith, length-take {A = ℕ}, c.collect.auto.out)

pub returns : goal.returns
returns c =
    let a = c.args in
    complete_done a.table.n a.table.bytes.now a.buffer.now c.requires c.min-room.ensures _ c.in-Some.ensures (rw c.copy_from_slice.ensures.after)
