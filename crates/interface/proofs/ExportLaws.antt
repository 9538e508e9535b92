-- What an exported function hands out is what the answer of its operation says.
--
--   inside_out_lem   the promise of rocaplanh_inside, from that of `inside` and from what its answer is
use mathlib.Core.Path.{◌≡◌, sym, ap}
use mathlib.Core.List.{List}
use Prim.Native.Nat.{ℕ}
use Rattle.std.specs.Prelude.{Option, Result}
use Rattle.checks.specs.declared.Refusal.{Refusal}
use Rattle.checks.specs.Outcomes.{number_of}
use Rattle.terms.specs.declared.RowNumber.{RowNumber}
use Rattle.inside.specs.Operation.{InsidePromise}
use Rattle.interface.specs.Exports.{InsideExport, inside_out}

pub inside_out_lem : {n : ℕ} {table query : List ℕ} {answer a : Result (Option RowNumber) Refusal} → InsidePromise n table query answer → answer ≡ a
    → InsideExport n table query (number_of a) (inside_out a)
inside_out_lem {answer = answer} p e = record { answer = answer; promise = p; returned = sym (ap number_of e); found = sym (ap inside_out e) }
