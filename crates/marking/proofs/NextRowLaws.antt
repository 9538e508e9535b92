-- Laws of the marks of a row from those of the next.
--
--   power_double, all_shifted   the powers that the code meets are small
--   FirstUnlike, SearchUnlike, first_unlike   the first place at which the exponents of two rows differ, and the search for it
--   differs_within, first_differing   it is that of a variable, and what the code gives there are the next marks
--   next_asks, next_gives  two rows that were read: what the code asks of them, and what it gives
--   next_marks             what it gives are the marks, where no row stands between the two
use mathlib.Core.Path.{◌≡◌, refl, sym, ap, ◌∙◌, subst}
use mathlib.Core.List.{List}
use mathlib.Core.Logic.{by_cases}
use Prim.Native.Nat.{ℕ, zero, suc, ◌+◌, ◌*◌, ◌-◌, ◌%◌, ◌^◌, ◌≤◌, ◌<◌}
use native.Mathlib.Nat.{le_of_suc-le-suc, two-pow-succ, mod-eq_of_lt}
use native.Mathlib.Decide.{dec_lt}
use native.Mathlib.Omega.{arith}
use lib.Bits.{bit_and, and_mask}
use lib.Pow.{pow_mono}
use lib.ListN.{length, get_or}
use lib.Seq.{get_or-take, length-take-le}
use Rattle.std.specs.List.{zip, HoldsAt, AllWithin}
use Rattle.std.specs.Option.{MatchOption}
use Rattle.std.proofs.Common.{Option, Some}
use Rattle.std.proofs.lemmas.Slice.Zip.{length-zip, get_or-zip}
use Rattle.terms.specs.Monomials.{Monomial, Table, ◌!◌, ◌∈◌}
use Rattle.terms.specs.Rows.{as_row, monomial_of}
use Rattle.terms.specs.declared.Row.{Row}
use Rattle.terms.proofs.RowsLaws.{row_read, row_variables}
use Rattle.terms.specs.Order.{Precedes}
use Rattle.terms.proofs.MonomialLaws.{beyond}
use Rattle.terms.proofs.LoopLaws.{not_before}
use Rattle.division.specs.Janet.{marks_of}
use Rattle.marking.specs.NextRow.{NextMarks}
use Rattle.division.proofs.SuccessorLaws.{marks_next}

-- ---- marks_last, marks_by_next

power_small : (n : ℕ) → n ≤ 6 → 2 ^ n ≤ 64
power_small n h = pow_mono {i = n} {j = 6} h

pub all_shifted : (n : ℕ) → n ≤ 6 → 1 * 2 ^ n % 256 ≡ 2 ^ n
all_shifted n h =
    let e : 1 * 2 ^ n ≡ 2 ^ n = omega arith in
    ap (λ (x : ℕ). x % 256) e ∙ mod-eq_of_lt (omega (arith, power_small n h))

-- the power of a variable before the last, doubled, is at most that of n
pub power_double : (n i : ℕ) → i < n → n ≤ 6 → (2 * 2 ^ i ≤ 2 ^ n) × (2 ^ n ≤ 64)
power_double n i l h = (omega (arith, two-pow-succ i, pow_mono {i = suc i} {j = n} l), power_small n h)

-- what the code computes of the next row's marks m at the variable suc i
kept_marks : (n i m all p : ℕ) → i < n → p ≡ 2 ^ i → all + 1 ≡ 2 ^ n → bit_and m (p - 1) + (all + 1 - 2 * p) + 2 ^ suc i ≡ m % 2 ^ i + 2 ^ n
kept_marks n i m all p l e f =
    let b : bit_and m (p - 1) ≡ m % 2 ^ i = ap (λ (x : ℕ). bit_and m (x - 1)) e ∙ and_mask m i in
    omega (arith, two-pow-succ i, pow_mono {i = suc i} {j = n} l)

-- a row as the code holds it has n exponents
row_length : (r : Row) → length r.exponents ≡ 6 → r.n ≤ 6 → length (monomial_of r) ≡ r.n
row_length r e h = length-take-le r.n r.exponents (omega arith)

-- ---- they are the marks

pub next_marks : (n : ℕ) (G : Table) (u w : Monomial) → w ∈ G → ((v : Monomial) → v ∈ G → Precedes u v → Precedes v w → ⊥)
    → (r : ℕ) → NextMarks n u w (marks_of n G w) r → r ≡ marks_of n G u
next_marks n G u w m none r d = omega (arith, d.1.marks, marks_next n G u w m none d.0 d.1.variable d.1.same d.1.less)

-- ---- the rows as the code holds them

-- the first n exponents of the six decide
own_exponent : (r : Row) (i : ℕ) → i < r.n → monomial_of r ! suc i ≡ get_or r.exponents i 0
own_exponent r i h = get_or-take r.n r.exponents i 0 h

next_exponent : (r s : Row) → s.n ≡ r.n → (i : ℕ) → i < r.n → monomial_of s ! suc i ≡ get_or s.exponents i 0
next_exponent r s e i h = own_exponent s i (omega arith)

-- two lists differ first at place i
pub record FirstUnlike (xs ys : List ℕ) (i : ℕ) : Type 0 where
  pub unlike : get_or xs i 0 ≡ get_or ys i 0 → ⊥
  pub alike : (j : ℕ) → j < i → get_or xs j 0 ≡ get_or ys j 0

-- what the search for the first pair that differs says of what it found
abbrev pub SearchUnlike : List ℕ → List ℕ → Option ℕ → Type 0
SearchUnlike xs ys found = MatchOption found (AllWithin (λ (x : ℕ × ℕ). x.0 ≡ x.1) (zip xs ys) 0 (length (zip xs ys)))
    (λ i. (i < length (zip xs ys)) × HoldsAt (λ (x : ℕ × ℕ). x.0 ≡ x.1 → ⊥) (zip xs ys) i × AllWithin (λ (x : ℕ × ℕ). x.0 ≡ x.1) (zip xs ys) 0 i)

module _ (xs ys : List ℕ) where
  at_zip : (j : ℕ) → j < length (zip xs ys) → get_or (zip xs ys) j (0, 0) ≡ (get_or xs j 0, get_or ys j 0)
  at_zip j l = get_or-zip xs ys j (0, 0) (omega (arith, length-zip xs ys)) (omega (arith, length-zip xs ys))

  alike_below : (i : ℕ) → i ≤ length (zip xs ys) → AllWithin (λ (x : ℕ × ℕ). x.0 ≡ x.1) (zip xs ys) 0 i → (j : ℕ) → j < i → get_or xs j 0 ≡ get_or ys j 0
  alike_below i h a j l = subst (λ (x : ℕ × ℕ). x.0 ≡ x.1) (at_zip j (omega arith)) (a j (0, 0) (omega arith) l)

  pub first_unlike : (i : ℕ) → SearchUnlike xs ys (Some i) → FirstUnlike xs ys i
  first_unlike i h = record {
    unlike = subst (λ (x : ℕ × ℕ). x.0 ≡ x.1 → ⊥) (at_zip i h.0) (h.1 (0, 0));
    alike = alike_below i (omega (arith, h.0)) h.2;
  }

-- two rows of which the first precedes the second
module _ (row next : Row) (long : length row.exponents ≡ 6) (next-long : length next.exponents ≡ 6) (six : row.n ≤ 6) (width : next.n ≡ row.n)
    (p : Precedes (monomial_of row) (monomial_of next)) where
  -- up to exponents that are alike they are the same
  same : (i : ℕ) → ((j : ℕ) → j < i → get_or row.exponents j 0 ≡ get_or next.exponents j 0) → (j : ℕ) → j < suc i → monomial_of row ! j ≡ monomial_of next ! j
  same i alike zero l = refl
  same i alike (suc j) l = by_cases (dec_lt j row.n)
      (λ h. own_exponent row j h ∙ alike j (le_of_suc-le-suc l) ∙ sym (next_exponent row next width j h))
      (λ g. beyond (monomial_of row) (suc j) (omega (arith, row_length row long six))
      ∙ sym (beyond (monomial_of next) (suc j) (omega (arith, row_length next next-long (omega arith)))))

  -- so they are alike no further than the variables go
  alike_within : (i : ℕ) → ((j : ℕ) → j < i → get_or row.exponents j 0 ≡ get_or next.exponents j 0) → i < row.n
  alike_within i alike = by_cases (dec_lt i row.n) (λ l. l) (λ g. by_cases (dec_lt i p.at)
      (λ l. absurd (omega (
        arith,
        p.less,
        beyond (monomial_of row) p.at (omega (arith, row_length row long six)),
        beyond (monomial_of next) p.at (omega (arith, row_length next next-long (omega arith))),
      )))
      (λ o. absurd (omega (arith, p.less, same i alike p.at (omega arith)))))

  -- the place is that of a variable, and the row has less there
  module _ (i : ℕ) (f : FirstUnlike row.exponents next.exponents i) where
    pub differs_within : i < row.n
    differs_within = alike_within i f.alike

    less : monomial_of row ! suc i < monomial_of next ! suc i
    less = by_cases (dec_lt (monomial_of row ! suc i) (monomial_of next ! suc i)) (λ l. l)
        (λ o. absurd (not_before (monomial_of row) (monomial_of next) i (λ j l. same i f.alike j (omega arith)) (omega (arith, differs)) p))
      where
        differs : monomial_of row ! suc i ≡ monomial_of next ! suc i → ⊥
        differs e = f.unlike (sym (own_exponent row i differs_within) ∙ e ∙ next_exponent row next width i differs_within)

    pub first_differing : (m all power : ℕ) → power ≡ 2 ^ i → all + 1 ≡ 2 ^ row.n
        → NextMarks row.n (monomial_of row) (monomial_of next) m (bit_and m (power - 1) + (all + 1 - 2 * power))
    first_differing m all power e g =
        (i, record { variable = differs_within; same = same i f.alike; less = less; marks = kept_marks row.n i m all power differs_within e g })

-- two rows that were read, of which the first precedes the second: what the code asks of them, and what it gives
module _ (n : ℕ) (u w : Monomial) (row next : Row) (six : n ≤ 6) (size : length u ≡ n) (next-size : length w ≡ n)
    (is : row ≡ as_row n u) (next-is : next ≡ as_row n w) where
  pub next_asks : Precedes u w → (row.n ≤ 6) × (next.n ≡ row.n) × Precedes (monomial_of row) (monomial_of next)
  next_asks a = (
    omega (arith, row_variables n u is),
    row_variables n w next-is ∙ sym (row_variables n u is),
    rw (row_read n u is size, row_read n w next-is next-size) a,
  )

  pub next_gives : {m r : ℕ} → NextMarks row.n (monomial_of row) (monomial_of next) m r → NextMarks n u w m r
  next_gives d = rw (row_read n u is size, row_read n w next-is next-size, row_variables n u is) at d
