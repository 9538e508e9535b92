-- `divides_at` meets its contract. The exponents are compared pair by pair.
use Rattle.std.proofs.Common.{rules, tests, arith, ◌+◌, ◌∙◌, ℕ, leb, get_or}
use Rattle.std.proofs.lemmas.Iterator.Search.{all_from_yields_List}
use Rattle.blocks.proofs.ByteLaws.{yields_downward, pairs_divide}
use Rattle.blocks.proofs.bytes.divides_at.Goals as goal

pub returns : goal.returns
returns c =
    let a = c.args in
    let bytes = a.bytes.now in
    all_from_yields_List (λ (x : ℕ). leb (get_or bytes (a.i + x) 0) (get_or bytes (a.j + x) 0)) _ _ _ c.all.ensures.ran
    (yields_downward a.m c.rev.ensures.source) (λ x b q k. search (rules, tests)) ∙ pairs_divide bytes a.i a.j a.m (omega arith)
