-- Rule 1: divisibility, and the ideal of a table.
--
--   Divides u q      no exponent of u exceeds that of q
--   Inside G q       q is in the ideal of G: some row of G divides it
--   SameIdeal n G H  G and H have the same ideal among the monomials of n variables
--   FailsFirstAt u q i   u exceeds q at i and at no variable before it
--   FirstFailure u q i   i is none where u divides q, and otherwise the first variable at which u exceeds q
--
-- With the tests `divides_test`, `inside_test`.
use Rattle.std.specs.Prelude.{◌≡◌, Bool, ℕ, ◌≤◌, ◌<◌, leb, length}
use Rattle.std.specs.Prelude.{Option, Some, None}
use Rattle.checks.specs.Tests.{each, any}
use Rattle.terms.specs.declared.Variable.{Variable}
use Rattle.terms.specs.Monomials.{Monomial, Table, ◌!◌, ◌∈◌}

abbrev pub Divides : Monomial → Monomial → Type 0
Divides u q = (i : ℕ) → u ! i ≤ q ! i

pub record Inside (G : Table) (q : Monomial) : Type 0 where
  pub row : Monomial
  pub member : row ∈ G
  pub divides : Divides row q

pub record SameIdeal (n : ℕ) (G H : Table) : Type 0 where
  pub into : (q : Monomial) → length q ≡ n → Inside G q → Inside H q
  pub back : (q : Monomial) → length q ≡ n → Inside H q → Inside G q

-- u exceeds q at variable i, and at no variable before it
pub record FailsFirstAt (u q : Monomial) (i : ℕ) : Type 0 where
  pub exceeds : q ! i < u ! i
  pub first : (j : ℕ) → j < i → u ! j ≤ q ! j

abbrev pub FirstFailure : Monomial → Monomial → Option Variable → Type 0
FirstFailure u q None = Divides u q
FirstFailure u q (Some i) = FailsFirstAt u q i.0

unfoldable pub divides_test : Monomial → Monomial → Bool
divides_test u q = each (length u) (λ i. leb (u ! i) (q ! i))

unfoldable pub inside_test : Table → Monomial → Bool
unfolding divides_test
inside_test G q = any (λ u. divides_test u q) G
