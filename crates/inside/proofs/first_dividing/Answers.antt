-- `find` gives the first number whose row divides the query.
use borrow.Author.Rules.{rules}
use borrow.Author.Tests.{tests}
use mathlib.Core.Path.{refl, sym, ◌∙◌}
use Prim.Native.Nat.{ℕ}
use lib.ListN.{length}
use native.Mathlib.Omega.{arith}
use Rattle.std.proofs.lemmas.Iterator.{YieldsList-from_range, YieldsList-from_map}
use Rattle.std.proofs.lemmas.Iterator.Adapters.{option_map_id}
use Rattle.std.proofs.lemmas.Iterator.Consumers.{YieldsList-at}
use Rattle.std.proofs.lemmas.Iterator.Search.{find_from_yields_List}
use Rattle.terms.specs.Monomials.{row_at}
use Rattle.terms.specs.Rows.{rows_of}
use Rattle.terms.specs.Ideal.{divides_test}
use Rattle.terms.specs.declared.RowNumber.{RowNumber}
use Rattle.inside.proofs.FirstLaws.{first_listed}
use Rattle.inside.proofs.first_dividing.Goals as goal

pub returns : goal.returns
returns c =
    let G = rows_of c.args.table in
    let q = c.args.query.exponents in
    sym (option_map_id c.find.result)
    ∙ find_from_yields_List (λ (r : RowNumber). divides_test (row_at G r.0) q) _ _ c.find.result c.find.ensures.ran
    (YieldsList-from_map _ (λ (k : ℕ). record { 0 = k }) (YieldsList-at c.map.ensures.source (YieldsList-from_range 0 _ (length G) refl (omega arith)))
    c.map.ensures.closure (λ x r f k. search rules))
    (λ x b f k. search (rules, tests))
    ∙ first_listed G q
