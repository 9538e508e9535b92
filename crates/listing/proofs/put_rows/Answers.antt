use native.Mathlib.Omega.{arith}
use borrow.Author.Rules.{rules}
use mathlib.Core.Logic.{inl, inr, ⊎_elim}
use Rattle.listing.proofs.TextLaws.{listed_none, listed_fits, listed_more, listed_all}
use Rattle.listing.proofs.put_rows.Goals as goal

pub loop-row-init : goal.loop-row-init
loop-row-init c = listed_none (search rules) (search rules) (search rules)

pub put_row_line-next-requires : goal.put_row_line-next-requires
put_row_line-next-requires c =
    let s = c.in-Some.ensures.steps in
    listed_fits c.loop-row.invariant (omega arith) _ _ _ _ s.0.1.0 s.0.1.1 s.1 (omega arith) (omega arith)

pub loop-row-preserved : goal.loop-row-preserved
loop-row-preserved c =
    let s = c.in-Some.ensures.steps in
    rw s.0.0 (listed_more c.loop-row.invariant (omega arith) _ _ _ _ s.0.1.0 s.0.1.1 s.1 (omega arith) c.put_row_line-next.ensures)

pub returns : goal.returns
returns c = listed_all c.loop-row.invariant (omega arith) (⊎_elim (λ u. inl u.1.1.0) (λ u. inr u.1.0) c.in-None.ensures.steps) (omega arith)
