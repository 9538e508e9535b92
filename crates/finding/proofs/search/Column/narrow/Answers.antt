use native.Mathlib.Omega.{arith}
use mathlib.Core.Path.{◌≡◌}
use Prim.Native.Nat.{◌-◌}
use Rattle.finding.proofs.search.Column.narrow.Goals as goal

pub returns : goal.returns
returns c =
    let l = c.loop-high in
    let e : l.high - 1 ≡ l.low = omega (arith, l.invariant.apart) in
    rw e l.invariant
