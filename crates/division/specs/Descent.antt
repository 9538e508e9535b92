-- Rule 6: the descent.
--
--   Descent          what a descent gives: the row number found, if there is one, the number of exponents stepped on,
--                    and the variable at which it ended with nothing, 0 where a row was found
--   insert a l, first l, last l, numbers_from r k  a number put in its place; the first and the last of a list, if there is one; the k row numbers from r on
--   distinct l       the distinct numbers of l, ascending
--   exponents G i g  the distinct exponents of the group g at variable i, ascending
--   stepped_on G q i g  those that do not exceed q's: the exponents stepped on
--   goes_on G q i g e  the last exponent stepped on, e, is q's, or the largest of the group
--   onward           the rest of the descent where it goes on, and its end with nothing where it does not
--   descend          the descent from a variable on, in a group
--   descent n G q    rule 6: variable by variable, from all rows
--   EndedAt o i j e  beside what was found, o: the variable e at which it ended is 0 where o is a row, and else one from i on and below j
--
-- A group is the list of its row numbers.
use Rattle.std.specs.Prelude.{◌≡◌, Bool, ◌||◌, List, [], ◌∷◌, map, ℕ, zero, suc, ◌+◌, ◌≤◌, ◌<◌, leb, ltb, eqb, length}
use Rattle.std.proofs.Math.Option.{Option, none, some}
use Rattle.checks.specs.Tests.{pick, all, keep}
use Rattle.terms.specs.Monomials.{Monomial, Table, ◌!◌, row_at}

pub record Descent : Type 0 where
  pub found : Option ℕ
  pub steps : ℕ
  pub ended : ℕ

-- the number a in its place among ascending numbers, unless it is there
unfoldable pub insert : ℕ → List ℕ → List ℕ
insert a [] = a ∷ []
insert a (b ∷ l) = pick (ltb a b) (a ∷ (b ∷ l)) (pick (eqb a b) (b ∷ l) (b ∷ insert a l))

unfoldable pub distinct : List ℕ → List ℕ
unfolding insert
distinct [] = []
distinct (a ∷ l) = insert a (distinct l)

unfoldable pub first : List ℕ → Option ℕ
first [] = none
first (a ∷ l) = some a

unfoldable pub last : List ℕ → Option ℕ
last [] = none
last (a ∷ []) = some a
last (a ∷ (b ∷ l)) = last (b ∷ l)

-- the numbers of k rows, from row r on
unfoldable pub numbers_from : ℕ → ℕ → List ℕ
numbers_from r zero = []
numbers_from r (suc k) = r ∷ numbers_from (suc r) k

unfoldable pub exponents : Table → ℕ → List ℕ → List ℕ
unfolding distinct
exponents G i g = distinct (map (λ r. row_at G r ! i) g)

unfoldable pub stepped_on : Table → Monomial → ℕ → List ℕ → List ℕ
unfolding exponents
stepped_on G q i g = keep (λ e. leb e (q ! i)) (exponents G i g)

-- a is q's exponent, or the group's largest
unfoldable pub goes_on : Table → Monomial → ℕ → List ℕ → ℕ → Bool
goes_on G q i g a = eqb a (q ! i) || all (λ r. leb (row_at G r ! i) a) g

-- at variable i, with a the last exponent stepped on, if there is one: `next` is the descent from the next variable on in a smaller group
unfoldable pub onward : Table → Monomial → ℕ → List ℕ → Option ℕ → (List ℕ → Descent) → Descent
unfolding stepped_on goes_on
onward G q i g none next = record { found = none; steps = 0; ended = i }
onward G q i g (some a) next =
    let k = length (stepped_on G q i g) in
    let d = next (keep (λ r. eqb (row_at G r ! i) a) g) in
    pick (goes_on G q i g a)
    (record { found = d.found; steps = k + d.steps; ended = d.ended })
    (record { found = none; steps = k; ended = i })

-- with k variables left, the next one i
unfoldable pub descend : Table → Monomial → ℕ → ℕ → List ℕ → Descent
unfolding onward first last stepped_on
descend G q zero i g = record { found = first g; steps = 0; ended = 0 }
descend G q (suc k) i g = onward G q i g (last (stepped_on G q i g)) (λ h. descend G q k (suc i) h)

unfoldable pub descent : ℕ → Table → Monomial → Descent
unfolding descend numbers_from
descent n G q = descend G q n 1 (numbers_from 0 (length G))

-- what `ended` is beside what was found, where the descent went through the variables from i on and below j
abbrev pub EndedAt : Option ℕ → ℕ → ℕ → ℕ → Type 0
EndedAt none i j e = (i ≤ e) × (e < j)
EndedAt (some r) i j e = e ≡ 0
