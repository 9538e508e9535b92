use native.Mathlib.Omega.{arith}
use mathlib.Core.Path.{◌≡◌, refl}
use Prim.Native.Nat.{suc}
use Rattle.checks.proofs.TestLaws.{tests_true, tests_false}
use Rattle.terms.specs.Monomials.{◌!◌, row_at}
use Rattle.terms.specs.Rows.{rows}
use Rattle.terms.proofs.MonomialLaws.{upto_next, upto_zero}
use Rattle.terms.proofs.OrderLaws.{tests_precedes}
use Rattle.terms.proofs.RowsLaws.{entry_at, next_entry_at, row_size}
use Rattle.terms.proofs.LoopLaws.{differs_at, never_differs, not_before, not_before_equal}
use Rattle.terms.proofs.FlatTable.precedes_next.Goals as goal

pub loop-i-init : goal.loop-i-init
loop-i-init c =
    let G = rows c.args.self.n c.args.self.bytes.now in
    upto_zero (λ j. row_at G c.args.k.0 ! j ≡ row_at G (suc c.args.k.0) ! j) refl

pub returns-then-a-b : goal.returns-then-a-b
returns-then-a-b c =
    let a = c.args in
    let l = c.loop-i in
    let u = row_at (rows a.self.n a.self.bytes.now) a.k.0 in
    let v = row_at (rows a.self.n a.self.bytes.now) (suc a.k.0) in
    let x = entry_at a.self.n a.self.bytes.now a.k.0 l.i (omega arith) (omega arith) in
    let y = next_entry_at a.self.n a.self.bytes.now a.k.0 l.i c.requires (omega arith) in
    tests_true (tests_precedes u v) (differs_at u v l.i l.invariant (omega arith))

pub returns-then-b-a : goal.returns-then-b-a
returns-then-b-a c =
    let a = c.args in
    let l = c.loop-i in
    let u = row_at (rows a.self.n a.self.bytes.now) a.k.0 in
    let v = row_at (rows a.self.n a.self.bytes.now) (suc a.k.0) in
    let x = entry_at a.self.n a.self.bytes.now a.k.0 l.i (omega arith) (omega arith) in
    let y = next_entry_at a.self.n a.self.bytes.now a.k.0 l.i c.requires (omega arith) in
    tests_false (tests_precedes u v) (not_before u v l.i l.invariant (omega arith))

pub loop-i-preserved : goal.loop-i-preserved
loop-i-preserved c =
    let a = c.args in
    let l = c.loop-i in
    let u = row_at (rows a.self.n a.self.bytes.now) a.k.0 in
    let v = row_at (rows a.self.n a.self.bytes.now) (suc a.k.0) in
    let x = entry_at a.self.n a.self.bytes.now a.k.0 l.i (omega arith) (omega arith) in
    let y = next_entry_at a.self.n a.self.bytes.now a.k.0 l.i c.requires (omega arith) in
    let e : u ! suc l.i ≡ v ! suc l.i = omega arith in
    upto_next (λ j. u ! j ≡ v ! j) l.i l.invariant e

pub returns : goal.returns
returns c =
    let a = c.args in
    let l = c.loop-i in
    let u = row_at (rows a.self.n a.self.bytes.now) a.k.0 in
    let v = row_at (rows a.self.n a.self.bytes.now) (suc a.k.0) in
    let size-u = row_size a.self.n a.self.bytes.now a.k.0 (omega arith) in
    let size-v = row_size a.self.n a.self.bytes.now (suc a.k.0) c.requires in
    let same = never_differs u v a.self.n size-u size-v (λ j h. l.invariant j (omega arith)) in
    tests_false (tests_precedes u v) (not_before_equal u v same)
