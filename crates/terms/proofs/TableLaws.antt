-- Laws of a table that passed the checks 1 to 4.
--
--   table_accepted             what is known of a table that passed them
--   accepts_table              and that this is enough to pass them
--   table_passed, table_listed   where their refusal is 0, alone or in front of other checks
--   entries_small, rows_small  no exponent of a row of it is above 50, by number and by membership
--   degree_small               and no degree is above 300
use mathlib.Core.Path.{◌≡◌, refl, sym, ◌∙◌, subst}
use mathlib.Core.List.{List, [], ◌++◌}
use mathlib.Core.Logic.{by_cases}
use Prim.Native.Nat.{ℕ, zero, suc, ◌+◌, ◌*◌, ◌%◌, ◌≤◌, ◌<◌}
use native.Mathlib.Decide.{dec_lt}
use native.Mathlib.Omega.{arith}
use lib.Dec.{lit<}
use lib.ListN.{length, get_or}
use Rattle.checks.specs.Refusals.{Check, refusal, Accepts, check}
use Rattle.checks.proofs.TestLaws.{stable, tests_le, tests_lt, tests_eq, tests_and}
use Rattle.checks.proofs.RefusalLaws.{accepted, accepts_nil, accepts_cons, accepts_head, accepts_tail, first_passes}
use Rattle.terms.specs.Monomials.{Monomial, ◌∈◌, row_at, AtMost, degree}
use Rattle.terms.specs.Rows.{rows}
use Rattle.terms.specs.TableChecks.{NoMultiple, no_multiple, quotient, table_checks, TableAccepted, tests_not_one_to_six, tests_no_multiple}
use Rattle.terms.specs.TableChecks.{tests_too_many_rows, tests_entry_above50}
use Rattle.terms.proofs.MonomialLaws.{beyond, degree_most}
use Rattle.terms.proofs.RowsLaws.{length_rows, row_size, row_within, entry_at, member_at, member_index}

multiple : (n : ℕ) (bytes : List ℕ) → (NoMultiple n bytes → ⊥) → length bytes ≡ length (rows n bytes) * n
multiple n bytes f = rw (length_rows n bytes) (quotient n bytes (stable (tests_eq (length bytes % n) 0) (λ g. f (no_multiple n bytes g))))

pub table_accepted : (n : ℕ) (bytes : List ℕ) → Accepts (table_checks n bytes) → TableAccepted n bytes
table_accepted n bytes a =
    let one = stable (tests_and (tests_lt 0 n) (λ p. tests_le n 6)) (accepts_head _ _ a) in
    let from2 = accepts_tail _ _ a in
    let from3 = accepts_tail _ _ from2 in
    let from4 = accepts_tail _ _ from3 in
    record {
      some = one.0;
      six = one.1;
      whole = multiple n bytes (accepts_head _ _ from2);
      limited = stable (tests_le (length (rows n bytes)) 4096) (λ g. accepts_head _ _ from3 (omega (arith, g)));
      small = λ e m. stable (tests_le e 50) (λ g. accepts_head _ _ from4 (e, m, omega (arith, g)));
    }

pub accepts_table : (n : ℕ) (bytes : List ℕ) → TableAccepted n bytes → Accepts (table_checks n bytes)
accepts_table n bytes t =
    accepts_cons (check 1 (lit< tt) (tests_not_one_to_six n)) _ (λ h. h (t.some, t.six))
    (accepts_cons (check 2 (lit< tt) (tests_no_multiple n bytes)) _ (λ h. h (length (rows n bytes)) t.whole)
    (accepts_cons (check 3 (lit< tt) (tests_too_many_rows n bytes)) _ (λ h. omega (arith, h, t.limited))
    (accepts_cons (check 4 (lit< tt) (tests_entry_above50 bytes)) _ (λ h. omega (arith, h.2, t.small h.0 h.1)) accepts_nil)))

-- from the refusal that was computed
pub table_passed : (n : ℕ) (bytes : List ℕ) (m : ℕ) → m ≡ refusal (table_checks n bytes) → m ≡ 0 → TableAccepted n bytes
table_passed n bytes m e z = table_accepted n bytes (accepted (table_checks n bytes) (sym e ∙ z))

-- where other checks follow
pub table_listed : (n : ℕ) (bytes : List ℕ) (more : List Check) → refusal (table_checks n bytes ++ more) ≡ 0 → TableAccepted n bytes
table_listed n bytes more e = table_passed n bytes 0 (sym (first_passes (table_checks n bytes) more e)) refl

module _ (n : ℕ) (bytes : List ℕ) (a : TableAccepted n bytes) where
  module _ (r : ℕ) (l : r < length (rows n bytes)) where
    -- an exponent of one of the n variables is a byte of the table, and any other is 0
    pub entries_small : AtMost 50 (row_at (rows n bytes) r)
    entries_small zero = omega arith
    entries_small (suc i) = by_cases (dec_lt i n)
        (λ h.
        let m = member_at bytes 0 (r * n + i) (omega (arith, row_within n bytes r l)) in
        omega (arith, entry_at n bytes r i l h, a.small (get_or bytes (r * n + i) 0) m))
        (λ g. omega (arith, beyond (row_at (rows n bytes) r) (suc i) (omega (arith, row_size n bytes r l))))

    pub degree_small : degree (row_at (rows n bytes) r) ≤ 300
    degree_small = omega (arith, degree_most 50 (row_at (rows n bytes) r) entries_small, row_size n bytes r l, a.six)

  pub rows_small : (u : Monomial) → u ∈ rows n bytes → AtMost 50 u
  rows_small u m = let r = member_index (rows n bytes) [] u m in subst (AtMost 50) r.2 (entries_small r.0 r.1)
