-- `has_large_count` meets its contract: the chain asks of each count what the test asks.
use mathlib.Core.Path.{◌≡◌, ◌∙◌}
use borrow.Author.Rules.{rules}
use Rattle.std.proofs.Common.{tests}
use lib.Dec.{ltb}
use Rattle.std.specs.List.{list_any}
use Rattle.std.proofs.lemmas.Iterator.{YieldsList-from_slice}
use Rattle.std.proofs.lemmas.Iterator.Search.{any_from_yields_List}
use Rattle.packing.proofs.LoopLaws.{any_listed}
use Rattle.packing.proofs.has_large_count.Goals as goal

pub returns : goal.returns
returns c =
    let counts = c.args.counts.now in
    let found : c.any.result ≡ list_any (λ x. ltb 4096 x) counts =
    any_from_yields_List (λ x. ltb 4096 x) _ _ c.any.result c.any.ensures.ran (YieldsList-from_slice counts cc) (λ x b q k. search (rules, tests)) in
    found ∙ any_listed (λ x. ltb 4096 x) counts
