-- `grows` meets its contract. The rows behind are asked one by one whether they lie in the ideal.
use Rattle.std.proofs.Common.{rules, arith, refl, ℕ, ◌≡◌, ◌*◌, ◌+◌, ◌∙◌, ap, take, drop, not}
use Rattle.std.proofs.lemmas.Iterator.{YieldsList-from_range}
use Rattle.std.proofs.lemmas.Iterator.Search.{any_from_yields_List}
use Rattle.terms.specs.Ideal.{inside_test}
use Rattle.completion.specs.Slices.{fresh}
use Rattle.blocks.specs.Bytes.{part}
use Rattle.blocks.proofs.ByteLaws.{any_rows}
use Rattle.blocks.proofs.ideal.grows.Goals as goal

pub returns : goal.returns
unfolding fresh
returns c =
    let a = c.args in
    let G = part a.m a.count a.from a.bytes.now in
    let behind = a.from + a.count * a.m in
    let start : behind + 0 * a.m ≡ behind = omega arith in
    any_from_yields_List (λ (row : ℕ). not (inside_test G (take a.m (drop (behind + row * a.m) a.bytes.now)))) _ _ _ c.any.ensures.ran
    (YieldsList-from_range 0 a.more a.more refl (omega arith)) (λ x b q k. search rules)
    ∙ any_rows a.m a.more behind 0 a.bytes.now (λ u. not (inside_test G u)) ∙ ap (λ (y : ℕ). fresh G (part a.m a.more y a.bytes.now)) start
