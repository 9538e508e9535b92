-- An accepted completion leaves the completed table at the front of the local array, and its text is written. A refused one has more than
-- 4,096 rows, and the one line says so.
use borrow.Author.Rules.{rules}
use native.Mathlib.Omega.{arith}
use mathlib.Core.Path.{refl, sym, ap}
use lib.ListN.{length}
use lib.Seq.{length-take-le}
use Rattle.terms.specs.Rows.{rows_of}
use Rattle.writing.proofs.WrittenLaws.{wrote_as}
use Rattle.listing.proofs.BoundLaws.{table_text_full}
use Rattle.listing.proofs.TableLaws.{made_rows, made_none}
use Rattle.listing.proofs.put_table.Goals as goal

pub overflow_mul-size : goal.overflow_mul-size
overflow_mul-size c = let m = made_rows c.requires.0 c.in-Ok.ensures in omega (arith, m.fits)

pub slice_bounds-made-end : goal.slice_bounds-made-end
slice_bounds-made-end c = (made_rows c.requires.0 c.in-Ok.ensures).fits

pub slice_bounds-completed-end : goal.slice_bounds-completed-end
slice_bounds-completed-end c = sym (length-take-le _ _ (made_rows c.requires.0 c.in-Ok.ensures).fits)

pub put_completed-requires : goal.put_completed-requires
put_completed-requires c =
    let m = made_rows c.requires.0 c.in-Ok.ensures in
    (m.some, m.six, refl, m.same, omega (arith, ap length m.same, m.limited), c.requires.1)

pub put_no_room_line-requires : goal.put_no_room_line-requires
put_no_room_line-requires c =
    let t = c.args.table in
    let more = made_none c.requires.0 c.in-Err.ensures (search rules) in
    omega (arith, ap length (table_text_full t.n c.args.j (rows_of t) more), c.requires.1)

pub returns-in-Err : goal.returns-in-Err
returns-in-Err c =
    let t = c.args.table in
    let more = made_none c.requires.0 c.in-Err.ensures (search rules) in
    wrote_as c.put_no_room_line.ensures (sym (table_text_full t.n c.args.j (rows_of t) more))
