-- Laws of the first row that divides a query.
--
--   first_listed           a search through the row numbers finds the first row that divides
--   divides_first          first_dividing is the first row number whose row divides the query, none exactly where the query is outside the ideal
--   first_inside           where there is one the query is in the ideal
--   padded_divides, first_padded   a row, and a query, that is filled up to six exponents
use mathlib.Core.Path.{◌≡◌, refl, sym, ap, ◌∙◌, subst}
use mathlib.Core.Bool.{Bool, true, false, cond}
use mathlib.Core.List.{List, [], ◌∷◌, map}
use mathlib.Core.Option.{Option, none, some}
use Prim.Native.Nat.{ℕ, zero, suc, ◌+◌, ◌<◌}
use native.Mathlib.Nat.{not-suc-le-zero, le_of_suc-le-suc}
use native.Mathlib.Numerals.{add-one}
use native.Mathlib.Omega.{arith}
use lib.ListN.{length}
use Rattle.std.specs.Prelude as code
use Rattle.std.specs.List.{find, range_with_len}
use Rattle.checks.specs.Tests.{Tests, pick}
use Rattle.checks.proofs.TestLaws.{tests_as, tests_same}
use Rattle.terms.specs.Monomials.{Monomial, Table, row_at}
use Rattle.terms.specs.Ideal.{Divides, Inside, divides_test}
use Rattle.terms.specs.Rows.{padded}
use Rattle.terms.proofs.IdealLaws.{tests_divides}
use Rattle.terms.proofs.RowsLaws.{padded_at, member_at, member_index}
use Rattle.terms.specs.declared.RowNumber.{RowNumber}
use Rattle.division.specs.Scan.{found_row}
use Rattle.inside.specs.FirstDividing.{first_from, first_dividing, FirstDividing, DividesFirst}

-- ---- the first row that divides

-- the row numbers of G from a on
abbrev numbers : ℕ → Table → List RowNumber
numbers a G = map (λ (k : ℕ). record { 0 = k }) (range_with_len a (length G))

-- the rows G stand in the table H from row a on
listed_from : (G H : Table) (q : Monomial) (a : ℕ) → ((i : ℕ) → row_at H (a + i) ≡ row_at G i)
    → find (λ (r : RowNumber). divides_test (row_at H r.0) q) (numbers a G) ≡ found_row (first_from a G q)
unfolding first_from
listed_from [] H q a h = refl
listed_from (u ∷ G) H q a h =
    let z : a + 0 ≡ a = omega arith in
    let first : row_at H a ≡ u = rw z at (h 0) in
    let rest = listed_from G H q (a + 1) (λ i. let y : a + 1 + i ≡ a + suc i = omega arith in rw y (h (suc i))) in
    rw (first, rest) (go (divides_test u q) (a + 1) (add-one a))
  where
    go : (b : Bool) (k : ℕ) → k ≡ suc a
        → cond b (code.Some (record { 0 = a })) (found_row (first_from k G q)) ≡ found_row (pick b (some a) (first_from (suc a) G q))
    go true k e = refl
    go false k e = rw e

-- what a search through the row numbers finds
pub first_listed : (G : Table) (q : Monomial)
    → find (λ (r : RowNumber). divides_test (row_at G r.0) q) (numbers 0 G) ≡ found_row (first_dividing G q)
unfolding first_dividing
first_listed G q = listed_from G G q 0 (λ i. ap (row_at G) (omega arith))

-- what `first_from` gives of rows that are numbered from r on
abbrev FirstOf : Table → Monomial → ℕ → Option ℕ → Type 0
FirstOf G q r none = (i : ℕ) → i < length G → Divides (row_at G i) q → ⊥
FirstOf G q r (some s) = (i : ℕ) × (s ≡ r + i) × FirstDividing G q i

first_of : (G : Table) (q : Monomial) (r : ℕ) → FirstOf G q r (first_from r G q)
unfolding first_from
first_of [] q r = λ i l d. not-suc-le-zero l
first_of (u ∷ G) q r = go (divides_test u q) (tests_divides u q) (first_from (suc r) G q) (first_of G q (suc r))
  where
    earlier : (Divides u q → ⊥) → (i : ℕ) → ((j : ℕ) → j < i → Divides (row_at G j) q → ⊥) → (j : ℕ) → j < suc i → Divides (row_at (u ∷ G) j) q → ⊥
    earlier f i h zero l = f
    earlier f i h (suc j) l = h j (le_of_suc-le-suc l)

    none_of : (Divides u q → ⊥) → ((i : ℕ) → i < length G → Divides (row_at G i) q → ⊥) → (i : ℕ) → i < suc (length G) → Divides (row_at (u ∷ G) i) q → ⊥
    none_of f h zero l = f
    none_of f h (suc i) l = h i (le_of_suc-le-suc l)

    later : (Divides u q → ⊥) → (o : Option ℕ) → FirstOf G q (suc r) o → FirstOf (u ∷ G) q r o
    later f none h = none_of f h
    later f (some s) h = (
      suc h.0,
      h.1 ∙ omega arith,
      record { within = omega (arith, h.2.within); divides = h.2.divides; first = earlier f h.0 h.2.first },
    )

    go : (b : Bool) → Tests b (Divides u q) → (o : Option ℕ) → FirstOf G q (suc r) o → FirstOf (u ∷ G) q r (pick b (some r) o)
    go true t o h = (0, omega arith, record { within = omega arith; divides = t.sound tt; first = λ s l d. not-suc-le-zero l })
    go false t o h = later t.complete o h

-- the first row number whose row divides q, none exactly where q is outside the ideal
pub divides_first : (G : Table) (q : Monomial) → DividesFirst G q (first_dividing G q)
unfolding first_dividing
divides_first G q = go (first_from 0 G q) (first_of G q 0)
  where
    go : (o : Option ℕ) → FirstOf G q 0 o → DividesFirst G q o
    go none h = λ i. let p = member_index G [] i.row i.member in h p.0 p.1 (subst (λ (u : Monomial). Divides u q) (sym p.2) i.divides)
    go (some s) h = let e : h.0 ≡ s = omega (arith, h.1) in subst (λ (i : ℕ). FirstDividing G q i) e h.2

-- where there is one, q is in the ideal
pub first_inside : {G : Table} {q : Monomial} {r : ℕ} → FirstDividing G q r → Inside G q
first_inside {G} {q} {r} d = record { row = row_at G r; member = member_at G [] r d.within; divides = d.divides }

-- ---- the query as a row

-- and so is one that is divided by a row that is filled up
pub padded_divides : (u q : Monomial) → divides_test (padded u) q ≡ divides_test u q
padded_divides u q = tests_same (divides_test (padded u) q) (divides_test u q)
    (tests_as (tests_divides (padded u) q) (λ d i. omega (arith, d i, padded_at u i)) (λ d i. omega (arith, d i, padded_at u i)))
    (tests_divides u q)

divides_padded : (u q : Monomial) → divides_test u (padded q) ≡ divides_test u q
divides_padded u q = tests_same (divides_test u (padded q)) (divides_test u q)
    (tests_as (tests_divides u (padded q)) (λ d i. omega (arith, d i, padded_at q i)) (λ d i. omega (arith, d i, padded_at q i)))
    (tests_divides u q)

pub first_padded : (r : ℕ) (G : Table) (q : Monomial) → first_from r G (padded q) ≡ first_from r G q
unfolding first_from
first_padded r [] q = refl
first_padded r (u ∷ G) q = rw (divides_padded u q, first_padded (suc r) G q)
