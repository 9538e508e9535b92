-- The row read is the table's row filled up to six exponents, and that divides the same monomials.
use mathlib.Core.Path.{ap, ◌∙◌}
use Rattle.terms.specs.Monomials.{row_at}
use Rattle.terms.specs.Ideal.{divides_test}
use Rattle.terms.specs.Rows.{rows_of, as_row}
use Rattle.terms.specs.declared.Row.{Row}
use Rattle.inside.proofs.FirstLaws.{padded_divides}
use Rattle.inside.proofs.row_divides.Goals as goal

pub returns : goal.returns
unfolding as_row
returns c =
    let a = c.args in
    c.divides.ensures
    ∙ ap (λ (u : Row). divides_test u.exponents a.query.exponents) c.row_at.ensures
    ∙ padded_divides (row_at (rows_of a.table) a.k.0) a.query.exponents
