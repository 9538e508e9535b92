-- The chunks of the table are its rows, and the largest of their degrees is the steady degree.
use Rattle.std.proofs.Common.{ap, ◌∙◌, rules, Option, ℕ, unwrap_or}
use Rattle.std.proofs.lemmas.Iterator.{YieldsList-from_map}
use Rattle.std.proofs.lemmas.Iterator.Consumers.{reduce_from_yields_List, YieldsList-at}
use Rattle.std.proofs.lemmas.List.Folds.{max_of_map}
use Rattle.terms.specs.Monomials.{degree}
use Rattle.terms.specs.Rows.{rows}
use Rattle.summing.proofs.PassLaws.{chunks_rows, steady_fold}
use Rattle.summing.proofs.largest_degree.Goals as goal

pub returns : goal.returns
returns c =
    let n = c.args.table.n in
    let table = c.args.table.bytes.now in
    let chunks = chunks_rows _ n table c.requires.0 c.chunks_exact.ensures.size c.chunks_exact.ensures.rest in
    let largest = reduce_from_yields_List _ c.map-degrees.result c.max.result c.max.ensures.ran
    (YieldsList-from_map _ degree (YieldsList-at c.map-degrees.ensures.source chunks) c.map-degrees.ensures.closure (λ x r q k. search rules)) in
    c.unwrap_or.ensures ∙ ap (λ (o : Option ℕ). unwrap_or o 0) largest ∙ max_of_map degree (rows n table) ∙ steady_fold (rows n table)
