-- Each row of an ascending table stands at its own place.
use borrow.Author.Rules.{rules}
use Rattle.terms.specs.Rows.{rows_of}
use Rattle.marking.proofs.InOrderLaws.{ascending_order}
use Rattle.marking.proofs.mark_ascending.Goals as goal

pub mark_rows-requires : goal.mark_rows-requires
mark_rows-requires c = (
  c.requires.0,
  record {
    number = λ k. k;
    order = ascending_order (rows_of c.args.table) c.requires.1;
    asked = λ k l. search rules;
    given = λ k r p. search rules;
  },
)
