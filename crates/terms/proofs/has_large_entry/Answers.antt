use mathlib.Core.Path.{sym, ◌∙◌}
use native.Mathlib.Omega.{arith}
use lib.Dec.{ltb}
use Rattle.terms.proofs.LoopLaws.{stretch_large, stretch_small, any_stops, any_goes_on}
use Rattle.terms.proofs.has_large_entry.Goals as goal

pub returns-then-largest_of-gt-LARGEST_ENTRY : goal.returns-then-largest_of-gt-LARGEST_ENTRY
returns-then-largest_of-gt-LARGEST_ENTRY c =
    let large = stretch_large 50 _ _ c.largest_of.ensures (omega arith) in
    any_stops (λ e. ltb 50 e) _ c.in-Some.stretch.now _ c.in-Some.ensures.steps.1.0 large ∙ sym c.loop-stretch.invariant.2

pub loop-stretch-preserved : goal.loop-stretch-preserved
loop-stretch-preserved c =
    let steps = c.in-Some.ensures.steps in
    let small = stretch_small 50 _ _ c.largest_of.ensures (omega arith) in
    (omega (arith, steps.0, c.loop-stretch.invariant.0), tt, c.loop-stretch.invariant.2 ∙ any_goes_on (λ e. ltb 50 e) _ c.in-Some.stretch.now _ steps.1.0 small)
