-- `collect_in`: the arrays hold the table's rows with all their tails and links, so the table is copied to the front and completed
-- from no row written; that is rule 5's table, by `collected`.
use Rattle.std.proofs.Common.{arith, ap, List, ℕ, length}
use lib.ListN.{length-replicate, length-append, length-drop}
use Rattle.completing.proofs.CollectLaws.{collect_roomy, collected, links_fit}
use Rattle.completing.proofs.collect_in.Goals as goal

pub append_completed-requires : goal.append_completed-requires
append_completed-requires g c =
    let work = c.as_flattened_mut-work.ensures.len in
    let next = c.as_flattened_mut-next.ensures.len in
    let rows = length-replicate {A = List ℕ} in
    let copied = ap length c.copy_from_slice.ensures.after in
    rw c.row_count-rows.ensures (
      collect_roomy c.requires.0 _ c.args.out.now (omega (arith, work, copied, rows, length-append {A = ℕ}, length-drop {A = ℕ})),
      links_fit c.requires.0 _ (omega (arith, next, rows)),
    )

pub returns : goal.returns
returns g c = collected c.requires.0 _ (rw (c.row_count-rows.ensures, c.copy_from_slice.ensures.after) at c.append_completed.ensures)
