-- By rule 8 the polynomial is C(n + s, n) less the shares; neither exceeds 4,096 times the largest binomial.
use Rattle.std.proofs.Common.{◌≡◌, ◌+◌, arith, rules}
use Rattle.std.proofs.lemmas.Int.{ints}
use Rattle.binomial.proofs.ChooseLaws.{choose_within}
use Rattle.counts.specs.Counts.{signed_share}
use Rattle.summing.proofs.PassLaws.{summable, signed_small, polynomial_sum}
use Rattle.summing.proofs.polynomial_sum.Goals as goal

pub shares-requires-clause-summable : goal.shares-requires-clause-summable
shares-requires-clause-summable c = summable c.args.table.n c.args.table.bytes.now c.args.marks.now c.requires.1 c.requires.0

pub shares-requires-clause-small : goal.shares-requires-clause-small
shares-requires-clause-small c = λ d m low six r k.
    let e : r ≡ signed_share c.args.s.0 d.0 m = search rules in
    rw e (signed_small c.args.s.0 d.0 m c.requires.2 low six)

pub returns : goal.returns
returns c =
    let small = choose_within (c.args.table.n + c.args.s.0) c.args.table.n c.requires.0.accepted.six (omega (arith, c.requires.2)) in
    let sum = c.shares.ensures.sum (signed_share c.args.s.0) (λ d m low six r k. search rules) in
    let all = polynomial_sum c.args.table.n c.args.table.bytes.now c.args.marks.now c.requires.0 c.requires.1 c.args.s.0 c.shares.result sum in
    let bounded = c.shares.ensures.bounded in
    omega (arith, ints, c.choose.ensures, bounded.low, bounded.high, all)
