-- `inside_ideal` meets its contract. The rows are tested one by one, from the first on.
use Rattle.std.proofs.Common.{rules, arith, refl, ℕ, ◌≡◌, ◌*◌, ◌+◌, ◌∙◌, ap, take, drop}
use Rattle.std.proofs.lemmas.Iterator.{YieldsList-from_range}
use Rattle.std.proofs.lemmas.Iterator.Search.{any_from_yields_List}
use Rattle.terms.specs.Ideal.{divides_test, inside_test}
use Rattle.blocks.specs.Bytes.{part}
use Rattle.blocks.proofs.ByteLaws.{any_rows}
use Rattle.blocks.proofs.ideal.inside_ideal.Goals as goal

pub returns : goal.returns
unfolding inside_test
returns c =
    let a = c.args in
    let q = take a.m (drop a.q a.bytes.now) in
    let start : a.from + 0 * a.m ≡ a.from = omega arith in
    any_from_yields_List (λ (row : ℕ). divides_test (take a.m (drop (a.from + row * a.m) a.bytes.now)) q) _ _ _ c.any.ensures.ran
    (YieldsList-from_range 0 a.count a.count refl (omega arith)) (λ x b q k. search rules)
    ∙ any_rows a.m a.count a.from 0 a.bytes.now (λ u. divides_test u q) ∙ ap (λ (y : ℕ). inside_test (part a.m a.count y a.bytes.now) q) start
