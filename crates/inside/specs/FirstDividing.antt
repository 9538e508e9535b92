-- The first row that divides a query (rule 1).
--
--   first_dividing G q  the number of the first row of G that divides q, or none
--   FirstDividing G q r   row number r divides q, and no earlier one does
--   DividesFirst G q o    o is the first row number whose row divides q, or none where q is outside the ideal
use Rattle.std.specs.Prelude.{[], ◌∷◌, ℕ, suc, ◌<◌, length}
use Rattle.std.proofs.Math.Option.{Option, none, some}
use Rattle.checks.specs.Tests.{pick}
use Rattle.terms.specs.Monomials.{Monomial, Table, row_at}
use Rattle.terms.specs.Ideal.{Divides, Inside, divides_test}

-- among the rows G, which are numbered from r on
unfoldable pub first_from : ℕ → Table → Monomial → Option ℕ
unfolding divides_test
first_from r [] q = none
first_from r (u ∷ G) q = pick (divides_test u q) (some r) (first_from (suc r) G q)

unfoldable pub first_dividing : Table → Monomial → Option ℕ
unfolding first_from
first_dividing G q = first_from 0 G q

pub record FirstDividing (G : Table) (q : Monomial) (r : ℕ) : Type 0 where
  pub within : r < length G
  pub divides : Divides (row_at G r) q
  pub first : (s : ℕ) → s < r → Divides (row_at G s) q → ⊥

abbrev pub DividesFirst : Table → Monomial → Option ℕ → Type 0
DividesFirst G q none = Inside G q → ⊥
DividesFirst G q (some r) = FirstDividing G q r
