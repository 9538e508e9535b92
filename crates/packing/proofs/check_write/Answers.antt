-- The checks 1, 9, 2 and 3 refuse, or they pass and 4, then 12, then 8 decide.
use borrow.Author.Rules.{rules}
use native.Mathlib.Omega.{arith}
use mathlib.Core.Logic.{inl, inr, ⊎_elim}
use mathlib.Core.Path.{◌≡◌, sym, ◌∙◌}
use mathlib.Core.Bool.{false}
use lib.Dec.{ltb}
use Rattle.checks.specs.Tests.{any}
use Rattle.distinct.specs.EqualRows.{equal_rows_test}
use Rattle.packing.specs.GivenTables.{given_tables}
use Rattle.checks.proofs.OutcomeLaws.{passed_on}
use Rattle.packing.specs.Operation.{shape_checks}
use Rattle.packing.proofs.CheckLaws.{shaped, shaped_size, write_four, write_twelve, write_eight, write_passes}
use Rattle.packing.proofs.check_write.Goals as goal

pub returns-in_err-check_shape : goal.returns-in_err-check_shape
returns-in_err-check_shape c =
    let a = c.args in
    passed_on (shape_checks a.n a.counts.now a.tables.now) _ _ _ (search rules) c.in_err-check_shape.ensures

pub overflow_add-size-2 : goal.overflow_add-size-2
overflow_add-size-2 c =
    let a = c.args in
    let shape = shaped a.n a.counts.now a.tables.now (sym c.in_ok-check_shape.ensures) in
    omega (arith, shape.sixteen, shaped_size shape)

pub returns-then-has_large_entry : goal.returns-then-has_large_entry
returns-then-has_large_entry c =
    let a = c.args in
    write_four a.n a.counts.now a.tables.now a.room (sym c.in_ok-check_shape.ensures) (sym c.has_large_entry.ensures ∙ c.if-has_large_entry.true)

pub returns-then-some_equal_rows : goal.returns-then-some_equal_rows
returns-then-some_equal_rows c =
    let a = c.args in
    let small : any (λ e. ltb 50 e) a.tables.now ≡ false = cc in
    write_twelve a.n a.counts.now a.tables.now a.room (sym c.in_ok-check_shape.ensures) small (sym c.some_equal_rows.ensures ∙ c.if-some_equal_rows.true)

pub returns-then-room-size : goal.returns-then-room-size
returns-then-room-size c =
    let a = c.args in
    let small : any (λ e. ltb 50 e) a.tables.now ≡ false = cc in
    let distinct : any equal_rows_test (given_tables a.n a.counts.now a.tables.now) ≡ false = cc in
    write_eight a.n a.counts.now a.tables.now a.room (sym c.in_ok-check_shape.ensures) small distinct
    (⊎_elim (λ l. inl l) (λ l. inr l.1) c.then-room-size.either)

pub returns : goal.returns
returns c =
    let a = c.args in
    let small : any (λ e. ltb 50 e) a.tables.now ≡ false = cc in
    let distinct : any equal_rows_test (given_tables a.n a.counts.now a.tables.now) ≡ false = cc in
    write_passes a.n a.counts.now a.tables.now a.room (sym c.in_ok-check_shape.ensures) small distinct (omega arith) (omega arith)
