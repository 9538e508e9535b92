-- Janet's marks (rule 2), and with them rules 3 and 4.
--
--   InGroup G u i v  v is in the group of u at variable i: a row that equals u in variables 1 to i − 1
--   group G u i      that group as a list
--   Multiplicative   rule 2: Janet's marks
--   marks_byte n f   the byte in which variable i, of 1 to n, has the value 2 ^ (i − 1) where f holds of it
--   marks_count n f  how many of the variables 1 to n have a mark, f holding of those
--   marks_of n G u   rule 2: the marks of row u as a byte
--   marks_in n G u   how many marks row u has
--   table_marks n G  the marks of each row, in the order of the rows
--   JanetDivisor     rule 3: u is a Janet divisor of q in G
--   Complete         rule 4
--
-- With the tests `same_before_test`, `multiplicative_test`, `janet_test`, `covered_test`, `complete_test`.
use Rattle.std.specs.Prelude.{Bool, true, not, ◌&&◌, List, map, ℕ, zero, suc, ◌+◌, ◌^◌, ◌≤◌, leb, ltb, eqb, length}
use Rattle.checks.specs.Tests.{pick, ◌implies◌, each, all, any, keep}
use Rattle.terms.specs.Monomials.{Monomial, Table, ◌!◌, ◌∈◌, SameBefore, times}
use Rattle.terms.specs.Ideal.{divides_test}
use Rattle.division.specs.Cones.{Division, Divisor, CompleteBy}

-- ---- rule 2

pub record InGroup (G : Table) (u : Monomial) (i : ℕ) (v : Monomial) : Type 0 where
  pub member : v ∈ G
  pub same : SameBefore i v u

-- Variable i is multiplicative for u if u's exponent there is the largest in its group.
abbrev pub Multiplicative : Division
Multiplicative G u i = (v : Monomial) → InGroup G u i v → v ! i ≤ u ! i

unfoldable pub same_before_test : ℕ → Monomial → Monomial → Bool
same_before_test zero u v = true
same_before_test (suc i) u v = each i (λ j. eqb (u ! j) (v ! j))

unfoldable pub group : Table → Monomial → ℕ → Table
unfolding same_before_test
group G u i = keep (λ v. same_before_test i v u) G

unfoldable pub multiplicative_test : Table → Monomial → ℕ → Bool
unfolding group
multiplicative_test G u i = all (λ v. leb (v ! i) (u ! i)) (group G u i)

unfoldable pub marks_byte : ℕ → (ℕ → Bool) → ℕ
marks_byte zero f = 0
marks_byte (suc n) f = marks_byte n f + pick (f (suc n)) (2 ^ n) 0

unfoldable pub marks_count : ℕ → (ℕ → Bool) → ℕ
marks_count zero f = 0
marks_count (suc n) f = marks_count n f + pick (f (suc n)) 1 0

unfoldable pub marks_of : ℕ → Table → Monomial → ℕ
unfolding marks_byte multiplicative_test
marks_of n G u = marks_byte n (multiplicative_test G u)

unfoldable pub marks_in : ℕ → Table → Monomial → ℕ
unfolding marks_count multiplicative_test
marks_in n G u = marks_count n (multiplicative_test G u)

unfoldable pub table_marks : ℕ → Table → List ℕ
unfolding marks_of
table_marks n G = map (marks_of n G) G

-- ---- rules 3 and 4

abbrev pub JanetDivisor : Table → Monomial → Monomial → Type 0
JanetDivisor G u q = Divisor Multiplicative G u q

abbrev pub Complete : ℕ → Table → Type 0
Complete n G = CompleteBy Multiplicative n G

-- of a row u of G: u is a Janet divisor of q
unfoldable pub janet_test : Table → Monomial → Monomial → Bool
unfolding divides_test multiplicative_test
janet_test G u q = divides_test u q && each (length q) (λ i. ltb (u ! i) (q ! i) implies multiplicative_test G u i)

-- q has a Janet divisor in G
unfoldable pub covered_test : Table → Monomial → Bool
unfolding janet_test
covered_test G q = any (λ u. janet_test G u q) G

unfoldable pub complete_test : ℕ → Table → Bool
unfolding multiplicative_test covered_test
complete_test n G = all (λ u. each n (λ i. not (multiplicative_test G u i) implies covered_test G (times u i 1))) G
