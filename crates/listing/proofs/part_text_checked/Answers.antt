-- Of a bundle that has a table j, it is located, its part shows its body, and its text has room. Otherwise part 0 is the line of the refusal, and
-- the others are empty.
use borrow.Author.Rules.{rules}
use native.Mathlib.Omega.{arith}
use mathlib.Core.Path.{◌≡◌}
use lib.ListN.{length}
use Rattle.bundle.proofs.ReadLaws.{found_within}
use Rattle.writing.proofs.WrittenLaws.{wrote_nothing}
use Rattle.listing.specs.Text.{text_size}
use Rattle.listing.proofs.PartLaws.{part_none, part_first, part_found, part_written, refusal_line_bound}
use Rattle.listing.proofs.part_text_checked.Goals as goal

pub part-requires : goal.part-requires
part-requires c = found_within c.args.bundle.now _ _ c.in-Ok.ensures

pub returns-in-Ok : goal.returns-in-Ok
returns-in-Ok c =
    let f = part_found c.args.bundle.now c.args.j {t = c.part.result} c.in-Ok.ensures c.part.ensures.0 c.part.ensures.1.bytes in
    part_written c.args.bundle.now c.args.j c.put_table.ensures f.text

pub put_table-requires : goal.put_table-requires
put_table-requires c =
    let f = part_found c.args.bundle.now c.args.j {t = c.part.result} c.in-Ok.ensures c.part.ensures.0 c.part.ensures.1.bytes in
    let size : length c.args.out.now ≡ text_size = search rules in
    (f.checks, omega (arith, f.bound))

pub put_refusal_line-requires : goal.put_refusal_line-requires
put_refusal_line-requires c = let size : length c.args.out.now ≡ text_size = search rules in omega (arith, refusal_line_bound c.in-Err.refusal)

pub returns-in-Err : goal.returns-in-Err
returns-in-Err c =
    part_written c.args.bundle.now c.args.j c.put_refusal_line.ensures (part_first c.args.bundle.now c.args.j c.in-Err.ensures (omega arith))

pub returns-in-Err-2 : goal.returns-in-Err-2
returns-in-Err-2 c =
    part_written c.args.bundle.now c.args.j (wrote_nothing c.args.out.now 0)
    (part_none c.args.bundle.now c.args.j c.in-Err-2.ensures (λ z. omega arith))
