-- The rows are equal just where they are so read backwards.
use borrow.Author.Rules.{rules}
use mathlib.Core.Bool.{true, false}
use mathlib.Core.List.{reverse, reverse-reverse}
use mathlib.Core.Path.{◌≡◌, sym, ap, ◌∙◌}
use Rattle.std.proofs.iter.runs.Made.{chains}
use Rattle.terms.specs.Monomials.{Monomial, row_at}
use Rattle.terms.specs.Rows.{rows_of}
use Rattle.distinct.proofs.EqualLaws.{answer_same}
use Rattle.distinct.proofs.same_row.Goals as goal

pub returns : goal.returns
returns c =
    let a = c.args in
    let u : Monomial = row_at (rows_of a.table) a.r.0 in
    let v : Monomial = row_at (rows_of a.table) a.s.0 in
    let same : c.eq.result ≡ true → reverse u ≡ reverse v = λ x. search (rules, chains) in
    let differ : c.eq.result ≡ false → u ≡ v → ⊥ = λ x e. search (rules, chains) in
    answer_same u v c.eq.result (λ x. sym (reverse-reverse u) ∙ ap reverse (same x) ∙ reverse-reverse v) differ
