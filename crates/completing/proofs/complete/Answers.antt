-- What the checks 1 to 4 and 12 refuse is refused; what they let pass is completed.
use borrow.Author.Rules.{rules}
use mathlib.Core.Path.{◌≡◌, sym}
use Rattle.std.specs.Prelude.{Err}
use Rattle.completing.proofs.CollectLaws.{complete_early}
use Rattle.completing.proofs.complete.Goals as goal

pub returns-in_err-check_distinct : goal.returns-in_err-check_distinct
returns-in_err-check_distinct c =
    let a = c.args in
    let is : c.from_residual.result ≡ Err c.in_err-check_distinct.field-0.0 = search rules in
    rw is (complete_early a.table.n a.table.bytes.now a.buffer.now _ c.in_err-check_distinct.ensures)

pub complete_checked-requires : goal.complete_checked-requires
complete_checked-requires c = sym c.in_ok-check_distinct.ensures
