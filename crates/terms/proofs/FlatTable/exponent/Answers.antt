-- Exponent i of row k is a byte within the table.
use native.Mathlib.Omega.{arith}
use mathlib.Core.Path.{◌≡◌, sym, ap, ◌∙◌}
use Prim.Native.Nat.{ℕ, suc, ◌-◌}
use Rattle.terms.specs.Monomials.{◌!◌, row_at}
use Rattle.terms.specs.Rows.{rows}
use Rattle.terms.proofs.RowsLaws.{entry_at}
use Rattle.terms.proofs.FlatTable.exponent.Goals as goal

pub returns : goal.returns
returns c =
    let a = c.args in
    let e : suc (a.i.0 - 1) ≡ a.i.0 = omega arith in
    sym (entry_at a.self.n a.self.bytes.now a.k.0 (a.i.0 - 1) c.requires.0 (omega arith))
    ∙ ap (λ (v : ℕ). row_at (rows a.self.n a.self.bytes.now) a.k.0 ! v) e
