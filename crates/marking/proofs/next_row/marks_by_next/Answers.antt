-- The first place at which the exponents differ is that of a variable, and the row has less there.
use native.Mathlib.Omega.{arith}
use borrow.Author.Rules.{rules}
use borrow.Author.Tests.{tests}
use mathlib.Core.Path.{◌≡◌}
use Prim.Native.Nat.{ℕ, ◌<◌}
use Rattle.std.proofs.lemmas.Iterator.{YieldsList-from_slice, YieldsList-from_zip, IsFirst-from_position}
use Rattle.marking.proofs.NextRowLaws.{FirstUnlike, first_unlike, all_shifted, power_double, differs_within, first_differing}
use Rattle.marking.proofs.next_row.marks_by_next.Goals as goal

differing : (c : goal.After-marks_last) → FirstUnlike c.args.row.exponents c.args.next.exponents c.unwrap-first.result
differing c =
    let a = c.args in
    let h = IsFirst-from_position c.position.new.self _ c.position.result (λ (x : ℕ × ℕ). x.0 ≡ x.1 → ⊥) (λ x. x.0 ≡ x.1) c.position.ensures.ran
    (YieldsList-from_zip (YieldsList-from_slice a.row.exponents cc) (YieldsList-from_slice a.next.exponents cc))
    (λ x q k. search (rules, tests)) (λ x q k. search (rules, tests)) in
    first_unlike a.row.exponents a.next.exponents c.unwrap-first.result (rw c.unwrap-first.ensures at h)

within : (c : goal.After-marks_last) → c.unwrap-first.result < c.args.row.n
within c =
    let a = c.args in
    differs_within a.row a.next (search rules) (search rules) c.requires.0 c.requires.1 c.requires.2 c.unwrap-first.result (differing c)

pub overflow_sub-result-2 : goal.overflow_sub-result-2
overflow_sub-result-2 c =
    let i = c.unwrap-first.result in
    omega (arith, all_shifted i (omega (arith, within c, c.requires.0)), power_double c.args.row.n i (within c) c.requires.0, c.marks_last.ensures)

pub returns : goal.returns
returns c =
    let a = c.args in
    let i = c.unwrap-first.result in
    first_differing a.row a.next (search rules) (search rules) c.requires.0 c.requires.1 c.requires.2 i (differing c) a.marks c.marks_last.result _
    (all_shifted i (omega (arith, within c, c.requires.0))) c.marks_last.ensures
