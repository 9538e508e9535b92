-- A refusal is passed on; otherwise what is found for the query as a row is the answer.
use borrow.Author.Rules.{rules}
use native.Mathlib.Omega.{arith}
use mathlib.Core.Path.{◌≡◌, sym, ap, ◌∙◌}
use Rattle.std.specs.Prelude.{Err}
use Rattle.terms.specs.Rows.{rows_of}
use Rattle.terms.specs.declared.Row.{Row}
use Rattle.division.specs.Scan.{found_row}
use Rattle.inside.specs.FirstDividing.{first_dividing}
use Rattle.inside.proofs.OperationLaws.{inside_refuses, inside_accepts, inside_passed, inside_length, found_query}
use Rattle.inside.proofs.inside.Goals as goal

pub returns-in_err-check_inside : goal.returns-in_err-check_inside
returns-in_err-check_inside c =
    let t = c.args.table in
    let is : c.from_residual.result ≡ Err c.in_err-check_inside.field-0.0 = search rules in
    rw is (inside_refuses t.n t.bytes.now c.args.query.now _ c.in_err-check_inside.ensures)

pub of_bytes-requires : goal.of_bytes-requires
of_bytes-requires c =
    let t = c.args.table in
    let passed = sym c.in_ok-check_inside.ensures in
    omega (arith, inside_length t.n t.bytes.now c.args.query.now passed, (inside_passed t.n t.bytes.now c.args.query.now passed).six)

pub first_dividing-requires : goal.first_dividing-requires
first_dividing-requires c =
    let t = c.args.table in
    let p = inside_passed t.n t.bytes.now c.args.query.now (sym c.in_ok-check_inside.ensures) in
    (p.some, p.six)

pub returns : goal.returns
returns c =
    let t = c.args.table in
    inside_accepts t.n t.bytes.now c.args.query.now (sym c.in_ok-check_inside.ensures) _
    (c.first_dividing.ensures ∙ ap (λ (r : Row). found_row (first_dividing (rows_of t) r.exponents)) c.of_bytes.ensures
    ∙ found_query (rows_of t) _ c.args.query.now)
