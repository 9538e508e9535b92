-- `total_rows` meets its contract: the chain adds up the counts, at most 16 numbers below 65,536.
use native.Mathlib.Omega.{arith}
use mathlib.Core.Path.{◌≡◌, ◌∙◌}
use borrow.Author.Rules.{rules}
use Rattle.std.specs.List.{sum}
use Rattle.std.proofs.iter.runs.Made.{chains}
use Rattle.packing.proofs.LoopLaws.{total_sum, total_bound}
use Rattle.packing.proofs.total_rows.Goals as goal

pub returns : goal.returns
returns c =
    let counts = c.args.counts.now in
    let added : c.sum.result ≡ sum counts = search (rules, chains) in
    (added ∙ total_sum counts, omega (arith, total_sum counts, total_bound counts (λ j. omega (arith, c.type_inv.counts j))))
