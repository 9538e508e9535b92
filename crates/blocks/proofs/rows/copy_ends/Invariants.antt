-- `copy_ends` meets its contract. The last exponents of the rows before the present one are written.
use mathlib.Core.List.{map, ◌++◌}
use lib.ListN.{take, drop}
use Rattle.terms.specs.Rows.{flat}
use Rattle.blocks.specs.Bytes.{part}
use mathlib.Core.Path.{◌≡◌}
use Prim.Native.Nat.{◌+◌, ◌*◌, ◌-◌}
use Rattle.blocks.proofs.rows.copy_ends.Given as goal

abbrev pub invariant-loop-row : goal.invariant-loop-row
invariant-loop-row l = take (l.to + l.row * l.rest) l.bytes
    ≡ take l.to l.initial.bytes ++ flat (map (λ u. drop (l.n - l.rest) u) (part l.n l.row (l.first.0 * l.n) l.out))
