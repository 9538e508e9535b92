-- Each return gives the first of the checks 1, 9, 2 and 3 that refuses; the tests before it ruled out the earlier ones.
use native.Mathlib.Omega.{arith}
use mathlib.Core.Path.{◌≡◌, sym, ◌∙◌}
use mathlib.Core.Logic.{⊎_elim}
use Prim.Native.Nat.{◌*◌}
use lib.ListN.{length}
use Rattle.packing.specs.GivenTables.{total_rows}
use Rattle.packing.proofs.CheckLaws.{shape_one, shape_nine, shape_two, shape_three, shape_passes}
use Rattle.packing.proofs.check_shape.Goals as goal

pub returns-then-n-eq0 : goal.returns-then-n-eq0
returns-then-n-eq0 c =
    let a = c.args in
    shape_one a.n a.counts.now a.tables.now (λ h. ⊎_elim (λ l. omega (arith, l, h.0)) (λ l. omega (arith, l, h.1)) c.then-n-eq0.either)

pub returns-then-counts-eq0 : goal.returns-then-counts-eq0
returns-then-counts-eq0 c =
    let a = c.args in
    shape_nine a.n a.counts.now a.tables.now (omega arith) (omega arith)
    (λ h. ⊎_elim (λ l. omega (arith, l, h.0)) (λ l. omega (arith, l, h.1)) c.then-counts-eq0.either)

pub returns-then-tables-total_rows : goal.returns-then-tables-total_rows
returns-then-tables-total_rows c =
    let a = c.args in
    shape_two a.n a.counts.now a.tables.now (omega arith) (omega arith) (omega arith) (omega arith)
    (rw (← c.total_rows.ensures.0) c.if-tables-total_rows.true)

pub returns-then-has_large_count : goal.returns-then-has_large_count
returns-then-has_large_count c =
    let whole : length c.args.tables.now ≡ total_rows c.args.counts.now * c.args.n = cc in
    let a = c.args in
    shape_three a.n a.counts.now a.tables.now (omega arith) (omega arith) (omega arith) (omega arith) whole
    (sym c.has_large_count.ensures ∙ c.if-has_large_count.true)

pub returns : goal.returns
returns c =
    let whole : length c.args.tables.now ≡ total_rows c.args.counts.now * c.args.n = cc in
    let a = c.args in
    shape_passes a.n a.counts.now a.tables.now (omega arith) (omega arith) (omega arith) (omega arith) whole
    (sym c.has_large_count.ensures ∙ c.if-has_large_count.false)
