-- The completed rows ascend, so their marks stand at the front of the buffer, and the lines with them are the text of the given table.
use borrow.Author.Rules.{rules}
use native.Mathlib.Omega.{arith}
use mathlib.Core.Path.{ap, subst}
use Prim.Native.Nat.{ℕ}
use Rattle.terms.specs.Monomials.{OfSize}
use Rattle.terms.specs.Rows.{rows_of}
use Rattle.terms.proofs.RowsLaws.{rows_size}
use Rattle.writing.proofs.WrittenLaws.{wrote_as}
use lib.ListN.{length}
use Rattle.listing.proofs.TableLaws.{marked_length, completed_ascends, completed_lines}
use Rattle.listing.proofs.put_completed.Goals as goal

pub mark_ascending-requires : goal.mark_ascending-requires
mark_ascending-requires c =
    let t = c.args.table in
    let g = c.args.given in
    let size : OfSize t.n (rows_of g) = subst (λ (k : ℕ). OfSize k (rows_of g)) c.requires.2 (rows_size g.n g.bytes.now) in
    (search rules, completed_ascends t.n (rows_of g) c.requires.3 size)

pub put_whole-requires : goal.put_whole-requires
put_whole-requires c =
    let t = c.args.table in
    let text = completed_lines t.n (rows_of c.args.given) c.requires.3 c.args.j c.requires.4 _ c.mark_ascending.ensures c.row_count.ensures in
    (c.requires.0, c.requires.1, marked_length t.n (rows_of t) _ c.mark_ascending.ensures, omega (arith, ap length text, c.requires.5))

pub returns : goal.returns
returns c =
    wrote_as c.put_whole.ensures
    (completed_lines c.args.table.n (rows_of c.args.given) c.requires.3 c.args.j c.requires.4 _ c.mark_ascending.ensures c.row_count.ensures)
