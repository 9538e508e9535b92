-- A bundle has at most 65,535 bytes.
use native.Mathlib.Omega.{arith}
use Rattle.interface.proofs.Bounds.{length_small}
use Rattle.interface.proofs.rocaplanh_write.Goals as goal

pub overflow_cast-length : goal.overflow_cast-length
overflow_cast-length c = record { fits = omega (arith, c.unwrap_or.ensures, length_small _ c.write_bundle-answer.ensures) }
