use Rattle.std.proofs.Common.{◌≡◌, ℕ, length, FitsSigned, w64, to_z, of_z, ap, ◌∙◌, arith, rules}
use lib.Count.{ones}
use Rattle.std.proofs.lemmas.Int.{ints, to_z-of_z}
use Rattle.std.proofs.lemmas.List.{length_push}
use Rattle.std.specs.List.{zip}
use Rattle.terms.specs.Monomials.{degree}
use Rattle.terms.specs.Rows.{rows_of}
use Rattle.summing.specs.Sums.{largest_share}
use Rattle.summing.proofs.PassLaws.{passed_row, passed_all, sum_more, sum_all, within_more, within_all}
use Rattle.summing.proofs.shares.Goals as goal

pub row_degree-requires : goal.row_degree-requires
row_degree-requires g c =
    let row = passed_row c.requires.summable c.into_iter-row-iterator.result c.loop-row.row-iterator c.next.new.self c.loop-row.yielded
    (cc) (cc) (cc) c.loop-row.yielded_by c.next.result (c.in-Some.row, c.in-Some.mark) c.in-Some.is c.next.ensures.steps in
    row.short

pub share-sum-requires : goal.share-sum-requires
share-sum-requires g c =
    let row = passed_row c.requires.summable c.into_iter-row-iterator.result c.loop-row.row-iterator c.next.new.self c.loop-row.yielded
    (cc) (cc) (cc) c.loop-row.yielded_by c.next.result (c.in-Some.row, c.in-Some.mark) c.in-Some.is c.next.ensures.steps in
    let may = c.requires.callable c.row_degree.result (ones c.in-Some.mark.now) (omega (arith, row.small)) row.six_marks in
    search rules

pub overflow_add-sum : goal.overflow_add-sum
overflow_add-sum g c =
    let row = passed_row c.requires.summable c.into_iter-row-iterator.result c.loop-row.row-iterator c.next.new.self c.loop-row.yielded
    (cc) (cc) (cc) c.loop-row.yielded_by c.next.result (c.in-Some.row, c.in-Some.mark) c.in-Some.is c.next.ensures.steps in
    let m = ones c.in-Some.mark.now in
    let small = c.requires.small c.row_degree.result m (omega (arith, row.small)) row.six_marks c.share-sum.result c.share-sum.ensures in
    omega (arith, ints, small.low, small.high, c.loop-row.invariant.3.low, c.loop-row.invariant.3.high)

pub loop-row-preserved : goal.loop-row-preserved
loop-row-preserved g c =
    let row = passed_row c.requires.summable c.into_iter-row-iterator.result c.loop-row.row-iterator c.next.new.self c.loop-row.yielded
    (cc) (cc) (cc) c.loop-row.yielded_by c.next.result (c.in-Some.row, c.in-Some.mark) c.in-Some.is c.next.ensures.steps in
    let d = c.row_degree.result in
    let m = ones c.in-Some.mark.now in
    let one = c.share-sum.result in
    let small = c.requires.small d m (omega (arith, row.small)) row.six_marks one c.share-sum.ensures in
    let fits : FitsSigned w64 one = search rules in
    let same : to_z w64 (of_z w64 one) ≡ one = to_z-of_z w64 one fits in
    let next = to_z-of_z w64 _ (overflow_add-sum g c) in
    let k = length c.loop-row.yielded in
    let longer = length_push c.loop-row.yielded (c.in-Some.row, c.in-Some.mark) in (
      search rules,
      search rules,
      λ f h.
          let e : one ≡ f (degree c.in-Some.row.now) m =
          h d m (omega (arith, row.small)) row.six_marks one c.share-sum.ensures ∙ ap (λ (x : ℕ). f x m) c.row_degree.ensures in
          rw (next, same, longer) (sum_more f _ k c.in-Some.row.now c.in-Some.mark.now _ one row.within row.pair e (c.loop-row.invariant.2 f h)),
      rw (next, same, longer) (within_more largest_share k _ one c.loop-row.invariant.3 small),
    )

pub returns : goal.returns
returns g c =
    let done = passed_all c.requires.summable c.into_iter-row-iterator.result c.loop-row.row-iterator c.next.new.self c.loop-row.yielded
    (cc) (cc) (cc) c.loop-row.yielded_by c.next.result c.in-None.is c.next.ensures.steps in
    let k = length c.loop-row.yielded in
    let before = c.loop-row.invariant in
    let pairs = zip (rows_of c.args.table) c.args.marks.now in
    record { bounded = within_all largest_share k _ done.1 before.3; sum = λ f h. sum_all f pairs k _ done.0 (before.2 f h) }
