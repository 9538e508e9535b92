use borrow.Author.Rules.{rules}
use borrow.Rule.Slice.PartMut.{take_put, same_len_mid}
use native.Mathlib.Nat.{add-mul}
use native.Mathlib.Numerals.{add-one}
use native.Mathlib.Omega.{arith}
use mathlib.Core.Path.{◌≡◌, refl, sym, ap, ◌∙◌, subst}
use Prim.Native.Nat.{ℕ, suc, ◌+◌, ◌*◌, ◌-◌, ◌≤◌}
use lib.ListN.{length, take, length-replicate}
use lib.Seq.{length-take-le}
use Rattle.terms.specs.Rows.{first_rows}
use Rattle.terms.proofs.RowsLaws.{length_first_rows, zeros_at}
use Rattle.completion.specs.Slices.{heads}
use Rattle.slicing.specs.Walk.{Appended, Roomy}
use Rattle.blocks.specs.Bytes.{Linked, Firsts}
use Rattle.blocks.proofs.ByteLaws.{rows_fewer, times_large, times_less}
use Rattle.blocks.proofs.BufferLaws.{within_fit}
use Rattle.blocks.proofs.ChainLaws.{linked_as}
use Rattle.slicing.proofs.AppendLaws.{last_roomy, last_appended, append_start, append_full, append_done, table_wide}
use Rattle.slicing.proofs.AppendLaws.{roomy_as, next_roomy, appended_above, lent_length}
use Rattle.slicing.proofs.HeadLaws.{head_room, head_stays, head_full, head_over, head_closes}
use Rattle.slicing.proofs.+append_completed_take_head.Goals as goal

-- the rows of one exponent are the bytes at the front
pub append_completed-slice_bounds-last_variable-end : goal.append_completed-slice_bounds-last_variable-end
append_completed-slice_bounds-last_variable-end t c = omega (arith, table_wide c.requires.0)

pub append_completed-slice_bounds-last_variable-end-then-rest-eq0 : goal.append_completed-slice_bounds-last_variable-end-then-rest-eq0
append_completed-slice_bounds-last_variable-end-then-rest-eq0 t c =
    let f = table_wide c.requires.0 in
    sym (length-take-le c.args.rows c.args.work.now (omega arith))

-- one variable: no others behind it
pub append_completed-last_variable-requires : goal.append_completed-last_variable-requires
append_completed-last_variable-requires t c =
    let a = c.args in
    last_roomy (subst (λ (x : ℕ). Roomy a.prefix.n x a.rows a.work.now a.out.now a.at) c.if-rest-eq0.true c.requires.0)

-- what `last_variable` appended
pub append_completed-returns-then-rest-eq0 : goal.append_completed-returns-then-rest-eq0
append_completed-returns-then-rest-eq0 t c =
    let a = c.args in
    let last = c.last_variable in
    let roomy = subst (λ (x : ℕ). Roomy a.prefix.n x a.rows a.work.now a.out.now a.at) c.if-rest-eq0.true c.requires.0 in
    subst (λ (x : ℕ). Appended a.prefix.n x a.rows a.prefix.exponents a.work.now a.out.now a.at last.result a.work.now last.new.out)
    (sym c.if-rest-eq0.true) (last_appended roomy last.ensures)

-- the table lies in work, and next has a place for each row
pub append_completed-chain-requires : goal.append_completed-chain-requires
append_completed-chain-requires t c =
    let f = table_wide c.requires.0 in
    let g = times_large c.args.rows c.args.rest (omega arith) in
    (omega arith, omega arith, c.requires.0.limited, omega (arith, c.requires.1), length-replicate {A = ℕ} 256 0, zeros_at 256)

pub append_completed-head_count-top-requires : goal.append_completed-head_count-top-requires
append_completed-head_count-top-requires t c =
    let f = table_wide c.requires.0 in
    (omega arith, omega arith)

-- before the first head nothing is written, and the chains stand
pub append_completed-loop-a-init : goal.append_completed-loop-a-init
append_completed-loop-a-init t c =
    let a = c.args in
    let k = c.chain in (
      append_start c.requires.0,
      refl,
      k.auto.first ∙ length-replicate {A = ℕ} 256 0,
      subst (λ (m : ℕ). Linked (first_rows m a.rows a.work.now) k.new.next) (add-one a.rest) k.ensures.0,
      subst (λ (m : ℕ). Firsts (first_rows m a.rows a.work.now) k.new.first) (add-one a.rest) k.ensures.1,
    )

-- the walk stands at head a, with the room of the start
pub append_completed-take_head-requires : goal.append_completed-take_head-requires
append_completed-take_head-requires t c =
    let a = c.args in
    let l = c.loop-a in
    let walk = l.invariant in
    let T = first_rows (suc a.rest) a.rows a.work.now in
    let same : first_rows (suc a.rest) a.rows l.work ≡ T = walk.0.table in (
      omega (arith, c.decreases),
      (
        roomy_as c.requires.0 l.work l.out l.progress.end l.auto.work l.auto.out (omega (arith, walk.0.within, l.auto.out)),
        omega (arith, c.if-rest-eq0.false),
        omega (arith, c.head_count-top.ensures.1),
        omega (arith, c.requires.1, l.auto.next, c.chain.auto.next),
        walk.2,
        rw same walk.3,
        rw same walk.4,
        (T, a.at, take (a.at * a.prefix.n) a.out.now, walk.0),
      ),
    )

-- no room for what a head adds: none for the whole
pub append_completed-returns-in_err-progress : goal.append_completed-returns-in_err-progress
append_completed-returns-in_err-progress t c =
    let walk = c.loop-a.invariant in
    rw c.from_residual.ensures (append_full c.requires.0 c.loop-a.auto.out (c.in_err-progress.ensures.1 _ _ _ walk.0) walk.1)

-- the walk goes on by one head; the chains of the rows were kept
pub append_completed-loop-a-preserved : goal.append_completed-loop-a-preserved
append_completed-loop-a-preserved t c =
    let a = c.args in
    let l = c.loop-a in
    let k = c.in_ok-progress.ensures in
    let T = first_rows (suc a.rest) a.rows a.work.now in
    let q = k.1 T _ _ l.invariant.0 in (
      rw (add-one l.a) q.on,
      q.kept ∙ l.invariant.1,
      l.invariant.2,
      linked_as T a.rows l.next c.take_head.new.next (length_first_rows (suc a.rest) a.rows a.work.now) k.0 l.invariant.3,
      l.invariant.4,
    )

-- past the last head the walk has written the whole
pub append_completed-returns : goal.append_completed-returns
append_completed-returns t c =
    let l = c.loop-a in
    let top = c.head_count-top in
    let h = top.ensures.0 ∙ ap (λ (m : ℕ). heads (first_rows m c.args.rows c.args.work.now)) (add-one c.args.rest) in
    append_done c.requires.0 l.auto.out l.invariant.0 l.invariant.1 (omega arith)

-- the generators lie behind the table in work
pub take_head-overflow_mul-count : goal.take_head-overflow_mul-count
take_head-overflow_mul-count t c = let q = c.requires in omega (arith, head_room q.7.3 q.0 q.1 c.args.next.now q.3)

pub take_head-overflow_add-base-2 : goal.take_head-overflow_add-base-2
take_head-overflow_add-base-2 t c = let q = c.requires in omega (arith, head_room q.7.3 q.0 q.1 c.args.next.now q.3)

-- the tails of a lie behind the generators, with room for them
pub take_head-take_tails-more-requires : goal.take_head-take_tails-more-requires
take_head-take_tails-more-requires t c =
    let q = c.requires in
    let sizes = head_room q.7.3 q.0 q.1 c.args.next.now q.3 in
    (omega arith, omega arith, sizes.chained, q.0.limited, omega (arith, q.4, q.2), q.2, q.5, q.6)

-- and so do the generators and the tails together
pub take_head-grows-requires : goal.take_head-grows-requires
take_head-grows-requires t c =
    let q = c.requires in
    let sizes = head_room q.7.3 q.0 q.1 c.args.next.now q.3 in
    rw c.take_tails-more.ensures.0 (omega (arith, c.take_tails-more.auto.bytes))

-- the tails add nothing
pub take_head-returns-then-not-grows : goal.take_head-returns-then-not-grows
take_head-returns-then-not-grows t c =
    let k = c.take_tails-more in
    (refl, λ T start P S. head_stays S c.requires.0 k.new.bytes k.auto.bytes k.ensures c.grows.ensures c.if-not-grows.true)

-- the block ends where the rows end, at a head not above a
pub take_head-repeat_block-requires : goal.take_head-repeat_block-requires
take_head-repeat_block-requires t c =
    let q = c.requires in
    let sizes = head_room q.7.3 q.0 q.1 c.args.next.now q.3 in
    let v = q.0.variables in
    (sizes.block, q.7.3.within, omega (arith, v), omega (arith, v), omega (arith, q.2), omega (arith, q.2))

-- no room for the block repeated
pub take_head-returns-in_err-at : goal.take_head-returns-in_err-at
take_head-returns-in_err-at t c =
    let six : length c.args.prefix.exponents ≡ 6 = search rules in
    let k = c.take_tails-more in (
      refl,
      λ T start P S. rw c.from_residual.ensures
          (head_full S c.requires.0 k.new.bytes k.auto.bytes k.ensures c.grows.ensures c.if-not-grows.false six c.in_err-at.ensures.0),
    )

-- no more generators than rows
pub take_head-overflow_add-all : goal.take_head-overflow_add-all
take_head-overflow_add-all t c =
    let q = c.requires in
    omega (arith, head_room q.7.3 q.0 q.1 c.args.next.now q.3, c.take_tails-more.ensures.0, q.0.limited)

-- the lent part of work begins behind the table
pub take_head-slice_bounds-tails-count : goal.take_head-slice_bounds-tails-count
take_head-slice_bounds-tails-count t c =
    let q = c.requires in
    omega (arith, head_room q.7.3 q.0 q.1 c.args.next.now q.3, c.take_tails-more.auto.bytes)

pub take_head-slice_bounds-tails-start : goal.take_head-slice_bounds-tails-start
take_head-slice_bounds-tails-start t c =
    let q = c.requires in
    omega (arith, head_room q.7.3 q.0 q.1 c.args.next.now q.3, c.take_tails-more.auto.bytes)

-- one variable less, no more rows, and what is left of both arrays
pub take_head-append_completed-requires : goal.take_head-append_completed-requires
take_head-append_completed-requires t c =
    let k = c.take_tails-more in
    let a = c.args in
    let q = c.requires in
    let sizes = head_room q.7.3 q.0 q.1 a.next.now q.3 in
    let fewer : a.progress.generators + k.result ≤ a.rows = omega (arith, k.ensures.0) in
    let n = lent_length (a.rows * (a.rest + 1)) k.new.bytes in
    let m = lent_length a.rows a.next.now in
    let w = times_less a.rows a.rest q.1 in
    let h = rows_fewer (a.progress.generators + k.result) a.rows (a.rest - 1) fewer in
    let block = within_fit a.prefix.n _ _ c.in_ok-at.at c.in_ok-at.ensures.0 in (
      omega (arith, c.decreases),
      (
        rw c.with_exponent-longer.ensures.1
            (next_roomy q.0 q.1 fewer (n ∙ omega (arith, k.auto.bytes)) c.repeat_block.auto.out (rw (← block.0) at block.1)),
        omega (arith, q.3),
      ),
    )

-- no room for the block of a
pub take_head-returns-in_err-end : goal.take_head-returns-in_err-end
take_head-returns-in_err-end t c =
    let six : length c.args.prefix.exponents ≡ 6 = search rules in
    let l = c.append_completed in
    let k = c.take_tails-more in
    let a = c.args in
    let q = c.requires in
    let sizes = head_room q.7.3 q.0 q.1 a.next.now q.3 in (
      take_put a.rows (length a.next.now - a.rows) a.next.now l.new.next sizes.chained,
      λ T start P S. rw c.from_residual-in_err-end.ensures
          (head_over S q.0 k.new.bytes k.auto.bytes k.ensures c.grows.ensures c.if-not-grows.false six c.repeat_block.new.out c.in_ok-at.ensures
          c.repeat_block.auto.out q.1 c.with_exponent-longer.ensures c.in_err-end.ensures l.auto.work refl),
    )

-- the generators lie in work, which is back at its length
pub take_head-close_block-requires : goal.take_head-close_block-requires
take_head-close_block-requires t c =
    let l = c.append_completed in
    let k = c.take_tails-more in
    let a = c.args in
    let q = c.requires in
    let sizes = head_room q.7.3 q.0 q.1 a.next.now q.3 in
    let base : ℕ = a.rows * (a.rest + 1) in
    let back = same_len_mid base (length k.new.bytes - base) k.new.bytes l.new.work l.auto.work in
    let held = l.auto.out ∙ c.repeat_block.auto.out in
    let sum = add-mul a.progress.generators k.result a.rest in
    let more = ap (λ (y : ℕ). y * a.rest) k.ensures.0 in
    let ends = appended_above (rw c.with_exponent-longer.ensures.1 at c.in_ok-end.ensures) in
    (omega (arith, q.0.variables), ends.0, omega (arith, ends.1, l.auto.out), omega (arith, k.auto.bytes))

-- the block of a is written behind the repeated one
pub take_head-returns : goal.take_head-returns
take_head-returns t c =
    let six : length c.args.prefix.exponents ≡ 6 = search rules in
    let z = c.close_block in
    let l = c.append_completed in
    let k = c.take_tails-more in
    let a = c.args in
    let q = c.requires in
    let sizes = head_room q.7.3 q.0 q.1 a.next.now q.3 in (
      take_put a.rows (length a.next.now - a.rows) a.next.now l.new.next sizes.chained,
      λ T start P S. head_closes S q.0 k.new.bytes k.auto.bytes k.ensures c.grows.ensures c.if-not-grows.false six c.repeat_block.new.out c.in_ok-at.ensures
          c.repeat_block.auto.out q.1 c.with_exponent-longer.ensures c.in_ok-end.ensures l.auto.work refl z.ensures z.auto.work
          (l.auto.out ∙ c.repeat_block.auto.out),
    )
