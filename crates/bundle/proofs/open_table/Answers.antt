-- A refusal is passed on; otherwise `locate` gives the numbers and `part` the bytes.
use borrow.Author.Rules.{rules}
use mathlib.Core.Path.{◌≡◌}
use Rattle.std.specs.Prelude.{Err}
use Rattle.bundle.proofs.ReadLaws.{found_within, opens, open_refuses}
use Rattle.bundle.proofs.open_table.Goals as goal

pub returns-in_err-found : goal.returns-in_err-found
returns-in_err-found c =
    let is : c.from_residual.result ≡ Err c.in_err-found.field-0.0 = search rules in
    rw is (open_refuses c.args.bundle c.args.j _ c.in_err-found.ensures)

pub part-requires : goal.part-requires
part-requires c = found_within c.args.bundle.now c.args.j _ c.in_ok-found.ensures

pub returns : goal.returns
returns c = opens c.args.bundle c.args.j _ _ c.in_ok-found.ensures c.part.ensures.0 c.part.ensures.1
