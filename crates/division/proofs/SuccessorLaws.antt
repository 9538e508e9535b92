-- The marks of a row from those of the next row in the order of rows (rule 2).
--
--   highest_marks          in a table in any order: a row that none comes after has all marks
--   next_behind, -at, -before   of a row with a next row in the order of rows: with k the first variable where they differ, it has all marks
--                          behind k, none at k, and before k those of the next row
--   marks_highest, marks_next   the same of the bytes
--   last_marks, marks_last, marks_successor   the same of an ascending table, whose next row stands next
use mathlib.Core.Path.{◌≡◌, sym, ◌∙◌, subst}
use mathlib.Core.Bool.{Bool, true, false}
use mathlib.Core.List.{[]}
use mathlib.Core.Logic.{⊎_elim, by_cases}
use Prim.Native.Nat.{ℕ, suc, ◌+◌, ◌%◌, ◌^◌, ◌≤◌, ◌<◌}
use native.Mathlib.Nat.{eq-or-lt_of_le}
use native.Mathlib.Decide.{dec_le}
use native.Mathlib.Omega.{arith}
use lib.ListN.{length}
use Rattle.checks.proofs.TestLaws.{tests_as, tests_same, tests_true, tests_false}
use Rattle.terms.specs.Monomials.{Monomial, Table, ◌!◌, ◌∈◌, row_at, SameBefore}
use Rattle.terms.specs.Order.{Precedes, Ascending}
use Rattle.terms.proofs.OrderLaws.{precedes_irreflexive, precedes_trans, ascending_between}
use Rattle.terms.proofs.RowsLaws.{member_at, member_index}
use Rattle.division.specs.Janet.{InGroup, multiplicative_test, marks_byte, marks_of}
use Rattle.division.proofs.JanetLaws.{tests_multiplicative, multiplicative_same}
use Rattle.division.proofs.MarkByteLaws.{marks_mod, marks_same, marks_behind, marks_all}

-- ---- the marks of a row by the next row in the order of rows, in a table in any order

-- A row v of u's group at i that is above u there comes after u. So where no row comes after u, it has all marks. Where w is the next row in the
-- order of rows and they differ first at k: behind k the row v equals u at k, so it comes before w, but no row stands between u and w. At k the row
-- w is in u's group and above it. Before k the groups of u and w are the same, and so are their exponents.

above_after : {G : Table} {u v : Monomial} {i : ℕ} → InGroup G u i v → u ! i < v ! i → Precedes u v
above_after {i = i} g h = record { at = i; same = λ j t. sym (g.same j t); less = h }

module _ (G : Table) (u : Monomial) where
  pub highest_marks : ((v : Monomial) → v ∈ G → Precedes u v → ⊥) → (i : ℕ) → multiplicative_test G u i ≡ true
  highest_marks none i = sym (tests_true (tests_multiplicative G u i)
      (λ v g. by_cases (dec_le (v ! i) (u ! i)) (λ l. l) (λ o. absurd (none v g.member (above_after g (omega arith))))))

  module _ (w : Monomial) (member : w ∈ G) (none : (v : Monomial) → v ∈ G → Precedes u v → Precedes v w → ⊥)
      (k : ℕ) (same : SameBefore k u w) (less : u ! k < w ! k) where
    pub next_behind : (i : ℕ) → k < i → multiplicative_test G u i ≡ true
    next_behind i h = sym (tests_true (tests_multiplicative G u i)
        (λ v g. by_cases (dec_le (v ! i) (u ! i)) (λ l. l) (λ o. absurd (none v g.member (above_after g (omega arith)) (before_w v g)))))
      where
        before_w : (v : Monomial) → InGroup G u i v → Precedes v w
        before_w v g = record { at = k; same = λ j t. g.same j (omega arith) ∙ same j t; less = omega (arith, g.same k h) }

    pub next_at : multiplicative_test G u k ≡ false
    next_at = sym (tests_false (tests_multiplicative G u k) (λ m. omega (arith, m w (record { member = member; same = λ j t. sym (same j t) }))))

    pub next_before : (i : ℕ) → i < k → multiplicative_test G u i ≡ multiplicative_test G w i
    next_before i h = tests_same (multiplicative_test G u i) (multiplicative_test G w i)
        (tests_multiplicative G u i)
        (tests_as (tests_multiplicative G w i)
        (multiplicative_same G w u i (λ j t. sym (same j (omega arith))) (sym (same i h)))
        (multiplicative_same G u w i (λ j t. same j (omega arith)) (same i h)))

module _ (n : ℕ) (G : Table) (u : Monomial) where
  -- the byte of the last row
  pub marks_highest : ((v : Monomial) → v ∈ G → Precedes u v → ⊥) → marks_of n G u + 1 ≡ 2 ^ n
  unfolding marks_of
  marks_highest none = marks_all n (multiplicative_test G u) (λ i p l. highest_marks G u none i)

  -- the byte of a row by that of the next: its bits before the variable suc j where they first differ, and all bits behind it
  pub marks_next : (w : Monomial) → w ∈ G → ((v : Monomial) → v ∈ G → Precedes u v → Precedes v w → ⊥) → (j : ℕ) → j < n
      → SameBefore (suc j) u w → u ! suc j < w ! suc j → marks_of n G u + 2 ^ suc j ≡ marks_of n G w % 2 ^ j + 2 ^ n
  unfolding marks_of
  marks_next w m none j h s p =
      let f : ℕ → Bool = multiplicative_test G u in
      let g : ℕ → Bool = multiplicative_test G w in
      let e : marks_byte n g % 2 ^ j ≡ marks_byte j f =
      marks_mod g n j (omega arith) ∙ sym (marks_same j f g (λ i o t. next_before G u w m none (suc j) s p i (omega arith))) in
      omega (arith, marks_behind n j f h (next_at G u w m none (suc j) s p) (λ i o t. next_behind G u w m none (suc j) s p i o))

-- ---- an ascending table: no row comes after the last, and none stands between a row and the next

module _ (G : Table) (a : Ascending G) where
  not_back : (s r : ℕ) → s ≤ r → r < length G → Precedes (row_at G r) (row_at G s) → ⊥
  not_back s r l h p = ⊎_elim
      (λ e. precedes_irreflexive (row_at G r) (subst (λ (x : ℕ). Precedes (row_at G r) (row_at G x)) e p))
      (λ o. precedes_irreflexive (row_at G r) (precedes_trans p (ascending_between G a s r o h)))
      (eq-or-lt_of_le l)

  module _ (r : ℕ) where
    none_after : suc r ≡ length G → (v : Monomial) → v ∈ G → Precedes (row_at G r) v → ⊥
    none_after e v m p =
        let i = member_index G [] v m in
        not_back i.0 r (omega (arith, i.1)) (omega arith) (subst (λ (x : Monomial). Precedes (row_at G r) x) (sym i.2) p)

    none_between : suc r < length G → (v : Monomial) → v ∈ G → Precedes (row_at G r) v → Precedes v (row_at G (suc r)) → ⊥
    none_between l v m p q =
        let i = member_index G [] v m in
        by_cases (dec_le i.0 r)
        (λ h. not_back i.0 r h (omega arith) (subst (λ (x : Monomial). Precedes (row_at G r) x) (sym i.2) p))
        (λ g. not_back (suc r) i.0 (omega arith) i.1 (subst (λ (x : Monomial). Precedes x (row_at G (suc r))) (sym i.2) q))

    pub last_marks : suc r ≡ length G → (i : ℕ) → multiplicative_test G (row_at G r) i ≡ true
    last_marks e i = highest_marks G (row_at G r) (none_after e) i

pub marks_last : (n : ℕ) (G : Table) → Ascending G → (r : ℕ) → suc r ≡ length G → marks_of n G (row_at G r) + 1 ≡ 2 ^ n
marks_last n G a r e = marks_highest n G (row_at G r) (none_after G a r e)

pub marks_successor : (n : ℕ) (G : Table) → Ascending G → (r : ℕ) → suc r < length G → (j : ℕ) → j < n
    → SameBefore (suc j) (row_at G r) (row_at G (suc r)) → row_at G r ! suc j < row_at G (suc r) ! suc j
    → marks_of n G (row_at G r) + 2 ^ suc j ≡ marks_of n G (row_at G (suc r)) % 2 ^ j + 2 ^ n
marks_successor n G a r l = marks_next n G (row_at G r) (row_at G (suc r)) (member_at G [] (suc r) l) (none_between G a r l)
