-- Laws of the checks 1 to 4 and 12.
--
--   refuses_equal, refuses_distinct   the number of the first check that refuses, where the checks 1 to 4 pass
--   distinct_table, distinct_rows     what is known of a table that passed them all
--   distinct-passed, distinct_listed  the same where their refusal is 0, alone or in front of other checks
use mathlib.Core.Path.{◌≡◌, sym, ◌∙◌}
use mathlib.Core.List.{List, [], ◌∷◌, ◌++◌}
use Prim.Native.Nat.{ℕ}
use Rattle.checks.specs.Refusals.{Check, refusal}
use Rattle.checks.proofs.RefusalLaws.{accepted, accepts_head, accepts_right, refusal_none, refusal_holds, refusal_passes, passes_first, first_passes}
use Rattle.terms.specs.Monomials.{EqualRows, Distinct}
use Rattle.terms.specs.Rows.{rows}
use Rattle.terms.specs.TableChecks.{table_checks, TableAccepted}
use Rattle.terms.proofs.TableLaws.{table_listed}
use Rattle.distinct.specs.EqualRows.{equal_rows_check, distinct_checks}

module _ (n : ℕ) (table : List ℕ) where
  module _ (a : refusal (table_checks n table) ≡ 0) where
    pub refuses_equal : EqualRows (rows n table) → 12 ≡ refusal (distinct_checks n table)
    refuses_equal h = passes_first (table_checks n table) (equal_rows_check n table ∷ []) 12 a (sym (refusal_holds (equal_rows_check n table) [] h))

    pub refuses_distinct : Distinct (rows n table) → 0 ≡ refusal (distinct_checks n table)
    refuses_distinct d = passes_first (table_checks n table) (equal_rows_check n table ∷ []) 0 a
        (sym (refusal_passes (equal_rows_check n table) [] d ∙ refusal_none))

  module _ (e : refusal (distinct_checks n table) ≡ 0) where
    pub distinct_table : TableAccepted n table
    distinct_table = table_listed n table (equal_rows_check n table ∷ []) e

    pub distinct_rows : Distinct (rows n table)
    distinct_rows = accepts_head (equal_rows_check n table) []
        (accepts_right (table_checks n table) (equal_rows_check n table ∷ []) (accepted (distinct_checks n table) e))

  -- where other checks follow
  pub distinct_listed : (more : List Check) → refusal (distinct_checks n table ++ more) ≡ 0 → TableAccepted n table
  distinct_listed more e = distinct_table (first_passes (distinct_checks n table) more e)
