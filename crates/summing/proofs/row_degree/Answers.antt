-- The degree of a row is the sum of its exponents, which are bytes.
use Rattle.std.proofs.Common.{◌≡◌, sum, sym, ◌∙◌, rules}
use Rattle.summing.proofs.PassLaws.{degree_sum}
use Rattle.summing.proofs.row_degree.Goals as goal

pub returns : goal.returns
returns c =
    let e : c.sum.result ≡ sum c.args.row.now = search rules in
    e ∙ sym (degree_sum c.args.row.now)
