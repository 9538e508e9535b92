-- `set_column` meets its contract. The rows before the present one have the new exponent.
use Rattle.blocks.proofs.RowLaws.{columned}
use mathlib.Core.Path.{◌≡◌}
use Prim.Native.Nat.{◌-◌}
use Rattle.blocks.proofs.rows.set_column.Given as goal

abbrev pub invariant-loop-row : goal.invariant-loop-row
invariant-loop-row l = l.out ≡ columned l.initial.out l.n (l.i.0 - 1) l.fn.first.0 l.e (l.row - l.fn.first.0)
