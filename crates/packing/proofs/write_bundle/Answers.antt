-- A refusal writes nothing; else n, the number of tables, the entries and the bodies, one behind the other, are the bundle.
use borrow.Author.Rules.{rules}
use native.Mathlib.Omega.{arith}
use mathlib.Core.Path.{◌≡◌, sym}
use Prim.Native.Nat.{◌+◌, ◌*◌}
use lib.ListN.{length}
use Rattle.std.specs.Prelude.{Err}
use Rattle.writing.proofs.CopyLaws.{pasted_wrote}
use Rattle.packing.proofs.GivenLaws.{length_entries}
use Rattle.packing.proofs.CheckLaws.{writable, accepted_fits, accepted_short}
use Rattle.packing.proofs.OperationLaws.{write_accepts, write_refuses}
use Rattle.packing.proofs.LoopLaws.{bundle_written}
use Rattle.packing.proofs.write_bundle.Goals as goal

pub returns-in_err-check_write : goal.returns-in_err-check_write
returns-in_err-check_write c =
    let a = c.args in
    let is : c.from_residual.result ≡ Err c.in_err-check_write.field-0.0 = search rules in
    rw is (write_refuses a.n a.counts.now a.tables.now a.buffer.now _ c.in_err-check_write.ensures)

pub put_entries-header-requires : goal.put_entries-header-requires
put_entries-header-requires c =
    let w = writable c.args.n c.args.counts.now c.args.tables.now _ (sym c.in_ok-check_write.ensures) in
    let fits = accepted_fits c.args.n c.args.counts.now c.args.tables.now _ (sym c.in_ok-check_write.ensures) in
    let short = accepted_short c.args.n c.args.counts.now c.args.tables.now _ (sym c.in_ok-check_write.ensures) in
    record { six = w.shape.six; room = omega arith; short = omega (arith, w.shape.whole) }

pub copy_from-requires : goal.copy_from-requires
copy_from-requires c =
    let a = c.args in
    let fits = accepted_fits a.n a.counts.now a.tables.now _ (sym c.in_ok-check_write.ensures) in
    (omega (arith, c.put_entries-header.ensures.ends, length_entries a.n (2 + 4 * length a.counts.now) a.counts.now), omega arith)

pub returns : goal.returns
returns c =
    let a = c.args in
    let passed = sym c.in_ok-check_write.ensures in
    let whole = (writable a.n a.counts.now a.tables.now _ passed).shape.whole in
    let w = bundle_written a.n a.counts.now a.tables.now a.buffer.now whole c.put_byte-first.ensures c.put_byte.ensures
    c.put_entries-header.ensures (pasted_wrote c.copy_from.ensures) in
    write_accepts a.n a.counts.now a.tables.now a.buffer.now _ _ passed w.0 w.1
