-- Invariant: `next` is row k, the marks are its marks, and the test holds of row k and all behind it. The last row has every mark, so it holds there.
use mathlib.Core.Path.{◌≡◌}
use mathlib.Core.Bool.{true}
use Prim.Native.Nat.{◌<◌}
use lib.ListN.{length, drop}
use Rattle.checks.specs.Tests.{all}
use Rattle.terms.specs.Monomials.{row_at}
use Rattle.terms.specs.Rows.{rows_of, as_row}
use Rattle.division.specs.Janet.{marks_of}
use Rattle.covering.specs.RowTest.{row_test}
use Rattle.covering.proofs.table_complete.Given as goal

abbrev pub invariant-loop-k : goal.invariant-loop-k
invariant-loop-k l = record {
  within : l.k < length (rows_of l.table);
  next : l.next ≡ as_row l.table.n (row_at (rows_of l.table) l.k);
  marks : l.marks ≡ marks_of l.table.n (rows_of l.table) (row_at (rows_of l.table) l.k);
  behind : all (row_test l.table.n (rows_of l.table)) (drop l.k (rows_of l.table)) ≡ true;
}
