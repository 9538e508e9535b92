-- Laws of marks as a byte (rule 2).
--
--   marks_below            a byte of n variables is below 2 ^ n
--   marks_same             it depends on the marks of the variables 1 to n alone
--   marks_mod              its first bits are the marks of the first variables
--   marks_bit              bit i is the mark of variable i + 1
--   marks_behind           a byte with every mark behind a variable, and none there
--   marks_all              with every mark it is 2 ^ n − 1
--   marks_ones             the number of its bits is the number of marks
--   count_none, count_first   the number of marks, counted from the first variable
--   length_table_marks, table_marks_at, tests_marks   the marks of a table's rows
--   front_marks            those at the front of a buffer
--   marks_of_below, marks_of_small   a row's byte is below 2 ^ n, and below 64
--   marks_of_ones, marks_in_count   how many marks a row has: the bits of its byte, the variables that are multiplicative
use mathlib.Core.Path.{◌≡◌, refl, sym, ap, ◌∙◌, subst}
use mathlib.Core.Bool.{Bool, true, false}
use mathlib.Core.List.{List, [], ◌∷◌, ◌++◌, map}
use mathlib.Core.Logic.{⊎_elim}
use Prim.Native.Nat.{ℕ, zero, suc, ◌+◌, ◌*◌, ◌-◌, ◌/◌, ◌%◌, ◌^◌, ◌≤◌, ◌<◌}
use native.Mathlib.Nat.{not-suc-le-zero, eq-or-lt_of_le, le_of_suc-le-suc, two-pow-succ, mod-eq_of_lt, mul-add-mod_self_right, mul_assoc}
use native.Mathlib.Omega.{arith}
use lib.Dec.{T, eqb}
use lib.ListN.{length, get_or, length-map, get_or-append}
use lib.Pow.{pow-add, pow_mono, field, high}
use lib.Count.{ones, ones_cat}
use Rattle.checks.specs.Tests.{Tests, pick}
use Rattle.checks.proofs.TestLaws.{tests_as}
use Rattle.terms.specs.Monomials.{Monomial, Table, row_at}
use Rattle.division.specs.Janet.{Multiplicative, multiplicative_test, marks_byte, marks_count, marks_of, marks_in, table_marks}
use Rattle.division.proofs.JanetLaws.{tests_multiplicative}

-- ---- the byte

no_ones : (f : ℕ → Bool) → ones (marks_byte zero f) ≡ 0
unfolding marks_byte ones
no_ones f = refl

ones_bit : (b : Bool) → ones (pick b 1 0) ≡ pick b 1 0
unfolding ones
ones_bit true = refl
ones_bit false = refl

module _ (f : ℕ → Bool) where
  -- the mark of the last variable is the highest bit
  pub marks_cat : (n : ℕ) → marks_byte (suc n) f ≡ pick (f (suc n)) 1 0 * 2 ^ n + marks_byte n f
  unfolding marks_byte
  marks_cat n = go (f (suc n))
    where
      go : (b : Bool) → marks_byte n f + pick b (2 ^ n) 0 ≡ pick b 1 0 * 2 ^ n + marks_byte n f
      go true = omega arith
      go false = omega arith

  pub marks_below : (n : ℕ) → marks_byte n f < 2 ^ n
  unfolding marks_byte
  marks_below zero = omega arith
  marks_below (suc n) = go (f (suc n)) (marks_below n)
    where
      go : (b : Bool) → marks_byte n f < 2 ^ n → marks_byte n f + pick b (2 ^ n) 0 < 2 ^ suc n
      go true h = omega (arith, two-pow-succ n)
      go false h = omega (arith, two-pow-succ n)

  pub marks_mod : (n j : ℕ) → j ≤ n → marks_byte n f % 2 ^ j ≡ marks_byte j f
  marks_mod zero zero h = mod-eq_of_lt (marks_below zero)
  marks_mod zero (suc j) h = absurd (not-suc-le-zero h)
  marks_mod (suc n) j h = ⊎_elim
      (λ e. rw e (mod-eq_of_lt (marks_below (suc n))))
      (λ l.
      let k : n ≡ n - j + j = omega arith in
      let e : pick (f (suc n)) 1 0 * 2 ^ n ≡ pick (f (suc n)) 1 0 * 2 ^ (n - j) * 2 ^ j =
      ap (λ (x : ℕ). pick (f (suc n)) 1 0 * 2 ^ x) k
      ∙ ap (λ (x : ℕ). pick (f (suc n)) 1 0 * x) (pow-add 2 (n - j) j)
      ∙ sym (mul_assoc (pick (f (suc n)) 1 0) (2 ^ (n - j)) (2 ^ j)) in
      ap (λ (x : ℕ). x % 2 ^ j) (marks_cat n ∙ ap (λ (x : ℕ). x + marks_byte n f) e)
      ∙ mul-add-mod_self_right (pick (f (suc n)) 1 0 * 2 ^ (n - j)) (2 ^ j) (marks_byte n f)
      ∙ marks_mod n j (le_of_suc-le-suc l))
      (eq-or-lt_of_le h)

  pub marks_bit : (n i : ℕ) → i < n → marks_byte n f / 2 ^ i % 2 ≡ pick (f (suc i)) 1 0
  marks_bit n i l =
      let k : 1 + i ≡ suc i = omega arith in
      sym (field (marks_byte n f) 1 i)
      ∙ ap (λ (x : ℕ). marks_byte n f % 2 ^ x / 2 ^ i) k
      ∙ ap (λ (x : ℕ). x / 2 ^ i) (marks_mod n (suc i) l ∙ marks_cat i)
      ∙ high (pick (f (suc i)) 1 0) i (marks_below i)

  pub marks_ones : (n : ℕ) → ones (marks_byte n f) ≡ marks_count n f
  unfolding marks_count
  marks_ones zero = no_ones f
  marks_ones (suc n) =
      ap ones (marks_cat n) ∙ ones_cat n (pick (f (suc n)) 1 0) (marks_byte n f) (marks_below n)
      ∙ omega (arith, ones_bit (f (suc n)), marks_ones n)

  -- the number of marks, counted from the first variable
  pub count_none : marks_count 0 f ≡ 0
  unfolding marks_count
  count_none = refl

pub count_first : (n : ℕ) (f : ℕ → Bool) → marks_count (suc n) f ≡ pick (f 1) 1 0 + marks_count n (λ i. f (suc i))
unfolding marks_count
count_first zero f = omega arith
count_first (suc n) f = omega (arith, count_first n f)

pub marks_same : (n : ℕ) (f g : ℕ → Bool) → ((i : ℕ) → 0 < i → i ≤ n → f i ≡ g i) → marks_byte n f ≡ marks_byte n g
unfolding marks_byte
marks_same zero f g h = refl
marks_same (suc n) f g h = rw (h (suc n) (omega arith) (omega arith), marks_same n f g (λ i p l. h i p (omega arith)))

-- every mark behind variable suc j, and none there
pub marks_behind : (n j : ℕ) (f : ℕ → Bool) → j < n → f (suc j) ≡ false → ((i : ℕ) → suc j < i → i ≤ n → f i ≡ true)
    → marks_byte n f + 2 ^ suc j ≡ marks_byte j f + 2 ^ n
unfolding marks_byte
marks_behind zero j f l e h = absurd (not-suc-le-zero l)
marks_behind (suc n) j f l e h = ⊎_elim
    (λ k.
    let m : marks_byte j f ≡ marks_byte n f = ap (λ (x : ℕ). marks_byte x f) k in
    let p : 2 ^ suc j ≡ 2 ^ suc n = ap (λ (x : ℕ). 2 ^ suc x) k in
    rw (subst (λ (x : ℕ). f (suc x) ≡ false) k e) (omega arith))
    (λ k.
    let ih : marks_byte n f + 2 ^ suc j ≡ marks_byte j f + 2 ^ n = marks_behind n j f k e (λ i p q. h i p (omega arith)) in
    rw (h (suc n) (omega arith) (omega arith)) (omega (arith, two-pow-succ n)))
    (eq-or-lt_of_le (le_of_suc-le-suc l))

pub marks_all : (n : ℕ) (f : ℕ → Bool) → ((i : ℕ) → 0 < i → i ≤ n → f i ≡ true) → marks_byte n f + 1 ≡ 2 ^ n
unfolding marks_byte
marks_all zero f h = refl
marks_all (suc n) f h =
    rw (h (suc n) (omega arith) (omega arith)) (omega (arith, two-pow-succ n, marks_all n f (λ i p l. h i p (omega arith))))

-- ---- the marks of a table's rows

pub length_table_marks : (n : ℕ) (G : Table) → length (table_marks n G) ≡ length G
unfolding table_marks
length_table_marks n G = length-map G (marks_of n G)

map_at : (f : Monomial → ℕ) (G : Table) (r : ℕ) → r < length G → get_or (map f G) r 0 ≡ f (row_at G r)
map_at f [] r l = absurd (not-suc-le-zero l)
map_at f (u ∷ G) zero l = refl
map_at f (u ∷ G) (suc r) l = map_at f G r (le_of_suc-le-suc l)

pub table_marks_at : (n : ℕ) (G : Table) (r : ℕ) → r < length G → get_or (table_marks n G) r 0 ≡ marks_of n G (row_at G r)
unfolding table_marks
table_marks_at n G r l = map_at (marks_of n G) G r l

pub front_marks : (n : ℕ) (G : Table) (rest : List ℕ) (r : ℕ) → r < length G → get_or (table_marks n G ++ rest) r 0 ≡ marks_of n G (row_at G r)
front_marks n G rest r l = get_or-append (table_marks n G) rest 0 r (omega (arith, length_table_marks n G)) ∙ table_marks_at n G r l

pub marks_of_below : (n : ℕ) (G : Table) (u : Monomial) → marks_of n G u < 2 ^ n
unfolding marks_of
marks_of_below n G u = marks_below (multiplicative_test G u) n

pub marks_of_small : (n : ℕ) (G : Table) (u : Monomial) → n ≤ 6 → marks_of n G u < 64
marks_of_small n G u h = omega (arith, marks_of_below n G u, pow_mono {i = n} {j = 6} h)

pub marks_in_count : (n : ℕ) (G : Table) (u : Monomial) → marks_in n G u ≡ marks_count n (multiplicative_test G u)
unfolding marks_in
marks_in_count n G u = refl

pub marks_of_ones : (n : ℕ) (G : Table) (u : Monomial) → ones (marks_of n G u) ≡ marks_in n G u
unfolding marks_of marks_in
marks_of_ones n G u = marks_ones (multiplicative_test G u) n

tests_bit : (b : Bool) → Tests (eqb (pick b 1 0) 1) (T b)
tests_bit true = record { sound = λ t. tt; complete = λ t. tt }
tests_bit false = record { sound = λ t. t; complete = λ t. t }

-- bit i is set exactly where variable i + 1 is multiplicative
pub tests_marks : (n : ℕ) (G : Table) (u : Monomial) (i : ℕ) → i < n → Tests (eqb (marks_of n G u / 2 ^ i % 2) 1) (Multiplicative G u (suc i))
unfolding marks_of
tests_marks n G u i l =
    rw (marks_bit (multiplicative_test G u) n i l)
    (tests_as (tests_bit (multiplicative_test G u (suc i))) (tests_multiplicative G u (suc i)).sound (tests_multiplicative G u (suc i)).complete)
