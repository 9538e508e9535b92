-- A degree is at most 300.
use native.Mathlib.Omega.{arith}
use mathlib.Core.Path.{ap}
use Rattle.terms.specs.declared.Degree.{Degree}
use Rattle.interface.proofs.Bounds.{steady_small}
use Rattle.interface.proofs.rocaplanh_steady.Goals as goal

pub overflow_cast-degree : goal.overflow_cast-degree
overflow_cast-degree c = record { fits = omega (arith, ap (λ (d : Degree). d.0) c.unwrap_or.ensures, steady_small _ c.steady-answer.ensures) }
