-- There are at most 4,096 rows, and 256 steps a variable.
use native.Mathlib.Omega.{arith}
use Rattle.interface.proofs.Bounds.{row_small, steps_small}
use Rattle.interface.proofs.rocaplanh_find.Goals as goal

pub row_out-requires : goal.row_out-requires
row_out-requires c = row_small c.find-answer.ensures c.in-Ok.is

pub overflow_cast-row : goal.overflow_cast-row
overflow_cast-row c = record { fits = omega (arith, steps_small (λ i. omega (arith, c.type_inv.query i)) c.find-answer.ensures c.in-Ok.is) }
