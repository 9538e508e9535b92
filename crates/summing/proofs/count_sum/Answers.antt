-- By rule 7 the count and the shares make C(n + s, n).
use Rattle.std.proofs.Common.{◌≡◌, pos, FitsSigned, w64, arith, rules}
use Rattle.std.proofs.lemmas.Int.{ints, to_z-of_z}
use Rattle.counts.specs.Counts.{share}
use Rattle.summing.proofs.PassLaws.{summable, share_small, count_sum}
use Rattle.summing.proofs.count_sum.Goals as goal

pub shares-requires-clause-summable : goal.shares-requires-clause-summable
shares-requires-clause-summable c = summable c.args.table.n c.args.table.bytes.now c.args.marks.now c.requires.1 c.requires.0

pub shares-requires-clause-small : goal.shares-requires-clause-small
shares-requires-clause-small c = λ d m low six r k.
    let e : r ≡ pos (share c.args.s.0 d.0 m) = search rules in
    rw e (share_small c.args.s.0 d.0 m c.requires.2 low six)

pub overflow_cast-result : goal.overflow_cast-result
overflow_cast-result c =
    let sum = c.shares.ensures.sum (λ d m. pos (share c.args.s.0 d m)) (λ d m low six r k. search rules) in
    let made = count_sum c.args.table.n c.args.table.bytes.now c.args.marks.now c.requires.0 c.requires.1 c.args.s.0 c.shares.result sum in
    let fits : FitsSigned w64 c.shares.result = search rules in
    rw (to_z-of_z w64 c.shares.result fits, made.1) (tt, omega (arith, ints, made.1, c.shares.ensures.bounded.high))

pub overflow_sub-result : goal.overflow_sub-result
overflow_sub-result c =
    let sum = c.shares.ensures.sum (λ d m. pos (share c.args.s.0 d m)) (λ d m low six r k. search rules) in
    let made = count_sum c.args.table.n c.args.table.bytes.now c.args.marks.now c.requires.0 c.requires.1 c.args.s.0 c.shares.result sum in
    let fits : FitsSigned w64 c.shares.result = search rules in
    rw (to_z-of_z w64 c.shares.result fits, made.1) (omega (arith, made.2, c.choose.ensures))

pub returns : goal.returns
returns c =
    let sum = c.shares.ensures.sum (λ d m. pos (share c.args.s.0 d m)) (λ d m low six r k. search rules) in
    let made = count_sum c.args.table.n c.args.table.bytes.now c.args.marks.now c.requires.0 c.requires.1 c.args.s.0 c.shares.result sum in
    let fits : FitsSigned w64 c.shares.result = search rules in
    rw (to_z-of_z w64 c.shares.result fits, made.1) (omega (arith, made.2, c.choose.ensures))
