-- Each pair of neighbours is looked at, and listed rows are equal only where two neighbours are.
use native.Mathlib.Omega.{arith}
use borrow.Author.Rules.{rules}
use borrow.Author.Tests.{tests}
use Prim.Native.Nat.{◌-◌, ◌<◌}
use mathlib.Core.Path.{◌≡◌, refl, ◌∙◌}
use lib.ListN.{length}
use Rattle.std.proofs.lemmas.Iterator.{YieldsList-from_range, serves_from_Range}
use Rattle.std.proofs.lemmas.Iterator.Search.{any_from_yields_List}
use Rattle.terms.specs.Monomials.{Table}
use Rattle.terms.specs.Rows.{rows_of}
use Rattle.ordering.specs.Passes.{at}
use Rattle.distinct.proofs.EqualLaws.{neighbour_test, neighbours_tested}
use Rattle.distinct.proofs.has_equal_neighbours.Goals as goal

pub any-requires-clause-callable : goal.any-requires-clause-callable
any-requires-clause-callable c =
    let a = c.args in
    let G : Table = rows_of a.table in
    let listing = c.requires.2 in
    serves_from_Range (λ k q x. search (rules, tests)) (λ k low high.
    let within : k < length G = omega arith in
    let second : at a.order.now k < length G = listing.numbers k within in
    let first : at a.order.now (k - 1) < length G = listing.numbers (k - 1) (omega arith) in
    search rules)

pub returns : goal.returns
returns c =
    let a = c.args in
    let G : Table = rows_of a.table in
    let size : c.row_count.result - 1 ≡ length G - 1 = omega arith in
    any_from_yields_List (neighbour_test G a.order.now c.requires.2) _ _ c.any.result c.any.ensures.ran
    (YieldsList-from_range _ _ _ refl size) (λ k b q x. search (rules, tests))
    ∙ neighbours_tested G a.order.now c.requires.2
