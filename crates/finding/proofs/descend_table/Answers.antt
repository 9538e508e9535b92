-- All rows are the first group, before the first variable; without rows rule 6 ends there at once.
use native.Mathlib.Omega.{arith}
use mathlib.Core.Path.{sym, ap, ◌∙◌, subst}
use Prim.Native.Nat.{ℕ}
use Rattle.terms.specs.Rows.{rows_of}
use Rattle.division.specs.Ranges.{with_steps, descend_from}
use Rattle.finding.specs.Stepping.{Reached, descended}
use Rattle.finding.proofs.SteppingLaws.{ready_empty, descent_all, reached_start}
use Rattle.finding.proofs.descend_table.Goals as goal

pub returns-then-count-eq0 : goal.returns-then-count-eq0
returns-then-count-eq0 c =
    let a = c.args in
    ap descended (ready_empty a.table.n (rows_of a.table) a.query.now c.requires.0 (sym c.row_count-count.ensures ∙ c.if-count-eq0.true))

pub descend-requires : goal.descend-requires
descend-requires c =
    let a = c.args in (
      omega arith,
      subst (λ (k : ℕ). Reached a.table.n (rows_of a.table) a.query.now 1 0 k 0) (sym c.row_count-count.ensures)
          (reached_start a.table.n (rows_of a.table) a.query.now c.requires.0 c.requires.1 (omega (arith, c.row_count-count.ensures, c.if-count-eq0.false))),
    )

pub returns : goal.returns
returns c =
    let a = c.args in
    c.descend.ensures ∙ ap (λ (k : ℕ). descended (with_steps 0 (descend_from a.table.n (rows_of a.table) a.query.now 1 0 k))) c.row_count-count.ensures
    ∙ ap descended (descent_all a.table.n (rows_of a.table) a.query.now)
