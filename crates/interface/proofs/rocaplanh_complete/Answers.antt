-- There are at most 4,096 rows.
use native.Mathlib.Omega.{arith}
use Rattle.interface.proofs.Bounds.{count_small}
use Rattle.interface.proofs.rocaplanh_complete.Goals as goal

pub overflow_cast-count : goal.overflow_cast-count
overflow_cast-count c = record { fits = omega (arith, c.unwrap_or.ensures, count_small _ c.complete-answer.ensures) }
