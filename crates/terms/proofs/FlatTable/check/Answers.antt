-- Each return gives the first check that refuses: its condition holds, and the tests before it have ruled out the earlier ones.
use native.Mathlib.Omega.{arith}
use mathlib.Core.Path.{sym, ◌∙◌}
use mathlib.Core.Logic.{⊎_elim}
use Rattle.terms.proofs.RowsLaws.{length_rows}
use Rattle.terms.proofs.LoopLaws.{refused_1, refused_2, refused_3, refused_4, passed}
use Rattle.terms.proofs.FlatTable.check.Goals as goal

pub returns-then-self-eq0 : goal.returns-then-self-eq0
returns-then-self-eq0 c =
    let t = c.args.self in
    refused_1 t.n t.bytes.now (λ h. ⊎_elim (λ z. omega (arith, z, h.0)) (λ g. omega (arith, g.1, h.1)) c.then-self-eq0.either)

pub returns-then-self-ne0 : goal.returns-then-self-ne0
returns-then-self-ne0 c = let t = c.args.self in refused_2 t.n t.bytes.now (omega arith) (omega arith) (omega arith)

pub returns-then-row_count-gt-MOST_ROWS : goal.returns-then-row_count-gt-MOST_ROWS
returns-then-row_count-gt-MOST_ROWS c =
    let t = c.args.self in
    refused_3 t.n t.bytes.now (omega arith) (omega arith) (omega arith) (omega (arith, length_rows t.n t.bytes.now, c.row_count.ensures))

pub returns-then-has_large_entry : goal.returns-then-has_large_entry
returns-then-has_large_entry c =
    let t = c.args.self in
    refused_4 t.n t.bytes.now (omega arith) (omega arith) (omega arith) (omega (arith, length_rows t.n t.bytes.now, c.row_count.ensures))
    (sym c.if-has_large_entry.true ∙ c.has_large_entry.ensures)

pub returns : goal.returns
returns c =
    let t = c.args.self in
    passed t.n t.bytes.now (omega arith) (omega arith) (omega arith) (omega (arith, length_rows t.n t.bytes.now, c.row_count.ensures))
    (sym c.if-has_large_entry.false ∙ c.has_large_entry.ensures)
