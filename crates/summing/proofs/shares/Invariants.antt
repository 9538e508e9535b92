-- Whatever the shares are, the sum so far and the shares of the rows that are left make the whole; and the sum is at most so many times the
-- largest binomial.
use Rattle.std.proofs.Common.{◌≡◌, ℕ, ℤ, ◌*◌, length, drop, ◌+ℤ◌}
use Rattle.std.specs.List.{zip}
use Rattle.terms.specs.Rows.{rows_of}
use Rattle.summing.specs.Sums.{AtRows, largest_share, Within}
use Rattle.summing.proofs.PassLaws.{pairs_sum}
use Rattle.summing.proofs.shares.Given as goal

abbrev pub invariant-loop-row : goal.invariant-loop-row
invariant-loop-row g l =
    let pairs = zip (rows_of l.table) l.marks in
    (goal.iterator-loop-row g).can_next l.row-iterator
    × (goal.iterator-loop-row g).is_finite l.row-iterator
    × ((f : ℕ → ℕ → ℤ) → AtRows (λ d m. (r : ℤ) → goal.F-post g l.share d m r → r ≡ f d.0 m)
    → l.sum +ℤ pairs_sum f (drop (length l.yielded) pairs) ≡ pairs_sum f pairs)
    × Within (length l.yielded * largest_share) l.sum
