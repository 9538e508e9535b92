-- What locate gives of a table fits.
use native.Mathlib.Omega.{arith}
use Rattle.interface.proofs.Bounds.{located_small}
use Rattle.interface.proofs.rocaplanh_open.Goals as goal

pub overflow_cast-n : goal.overflow_cast-n
overflow_cast-n c = record { fits = let small = located_small c.locate-answer.ensures c.in-Ok.is in omega (arith, small) }

pub overflow_cast-n-in-Ok : goal.overflow_cast-n-in-Ok
overflow_cast-n-in-Ok c = record { fits = let small = located_small c.locate-answer.ensures c.in-Ok.is in omega (arith, small) }

pub overflow_cast-n-in-Ok-2 : goal.overflow_cast-n-in-Ok-2
overflow_cast-n-in-Ok-2 c = record { fits = let small = located_small c.locate-answer.ensures c.in-Ok.is in omega (arith, small) }
