-- The first n of the six bytes, with one of them raised, are the row times the variable; the descent finds a row exactly where that has a Janet divisor.
use native.Mathlib.Omega.{arith}
use mathlib.Core.Path.{◌≡◌, ◌∙◌}
use lib.ListN.{length}
use borrow.Author.Rules.{rules}
use Rattle.covering.proofs.RowTestLaws.{product_covered}
use Rattle.covering.proofs.covered.Goals as goal

pub returns : goal.returns
returns c =
    let a = c.args in
    let six : length a.row.exponents ≡ 6 = search rules in
    c.is_ok.ensures.value
    ∙ product_covered a.table.n a.table.bytes.now a.row (omega (arith, c.requires.0.six)) c.requires.1 a.i.0 c.requires.2 c.requires.3
    _ c.descend_table.ensures
