-- The rows are listed; two neighbours are equal, or the listed rows are in ascending order.
use borrow.Author.Rules.{rules}
use native.Mathlib.Omega.{arith}
use mathlib.Core.Path.{sym, ◌∙◌}
use Prim.Native.Nat.{◌≤◌, ◌<◌}
use lib.ListN.{length, get_or}
use Rattle.checks.specs.declared.Refusal.TheVariants.{EqualRows}
use Rattle.checks.proofs.TestLaws.{true_tests, false_tests}
use Rattle.terms.specs.Rows.{rows_of}
use Rattle.distinct.specs.EqualRows.{tests_equal_rows}
use Rattle.marking.proofs.InOrderLaws.{listing_order}
use Rattle.marking.proofs.OperationLaws.{marks_refuses, refuses_rows}
use Rattle.marking.proofs.marks_unordered.Goals as goal

pub returns-then-has_equal_neighbours : goal.returns-then-has_equal_neighbours
returns-then-has_equal_neighbours c =
    let t = c.args.table in
    let equal = true_tests (tests_equal_rows (rows_of t)) (sym c.has_equal_neighbours.ensures ∙ c.if-has_equal_neighbours.true) in
    marks_refuses t.n t.bytes.now c.args.buffer.now EqualRows (refuses_rows t.n t.bytes.now (length c.args.buffer.now) c.requires equal)

pub marks_in_order-requires : goal.marks_in_order-requires
marks_in_order-requires c =
    let G = rows_of c.args.table in
    let order = c.list_rows.new.order in
    let listed : length G ≤ length order = omega (arith, c.requires.limited, c.list_rows.auto.order) in
    let distinct = false_tests (tests_equal_rows G) (sym c.has_equal_neighbours.ensures ∙ c.if-has_equal_neighbours.false) in (
      c.requires,
      record {
        number = λ k. get_or order k 0;
        order = listing_order G order c.list_rows.ensures distinct;
        asked = λ k l. let inside : k < length order = omega arith in search rules;
        given = λ k r p. search rules;
      },
    )
