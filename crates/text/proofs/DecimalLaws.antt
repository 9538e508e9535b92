-- Laws of numbers as text.
--
--   decimal_one, decimal_more   a number below 10 is one digit; another is the number of its tens and then one digit
--   decimal_value, decimal_injective   read as digits it is the number, so the digits tell numbers apart
--   decimal_length              a number below 10 ^ (k + 1) has at most k + 1 digits
--   number_one                  so such a number is written by one byte
--   library_decimal             the library's digits of a number that a machine word holds are the same
--   number_length, number_wrote   so its text, copied to a place, is the number written there
use mathlib.Core.Path.{◌≡◌, refl, sym, ap, ◌∙◌}
use mathlib.Core.List.{List, [], ◌∷◌, ◌++◌}
use mathlib.Core.Logic.{by_cases}
use Prim.Native.Nat.{ℕ, zero, suc, ◌+◌, ◌-◌, ◌*◌, ◌/◌, ◌%◌, ◌^◌, ◌≤◌, ◌<◌}
use native.Mathlib.Decide.{dec_lt}
use native.Mathlib.Nat.{div-eq_of_lt, mod-eq_of_lt, not-suc-le-zero, pow-suc}
use native.Mathlib.Omega.{arith}
use lib.ListN.{length, length-append}
use lib.Seq.{paste}
use Rattle.text.specs.Decimal.{digit, digits_of, decimal, value_from}
use Rattle.std.specs.Fmt
use Rattle.std.proofs.lemmas.Fmt.{decimal_by_steps}
use Rattle.writing.specs.Written.{Wrote}
use Rattle.writing.proofs.WrittenLaws.{wrote_as}
use Rattle.writing.proofs.CopyLaws.{pasted_wrote}

-- tens are fewer than the number
tens_less : (x : ℕ) → suc x / 10 ≤ x
tens_less x = omega arith

-- any f that is at least x gives the same digits
digits_same : (f g x : ℕ) → x ≤ f → x ≤ g → digits_of f x ≡ digits_of g x
unfolding digits_of
digits_same zero zero x h k = refl
digits_same zero (suc g) zero h k = refl
digits_same zero (suc g) (suc x) h k = absurd (not-suc-le-zero h)
digits_same (suc f) zero zero h k = refl
digits_same (suc f) zero (suc x) h k = absurd (not-suc-le-zero k)
digits_same (suc f) (suc g) zero h k = refl
digits_same (suc f) (suc g) (suc x) h k =
    ap (λ (l : List ℕ). l ++ (digit (suc x % 10) ∷ [])) (digits_same f g (suc x / 10) (omega (arith, tens_less x)) (omega (arith, tens_less x)))

digits_zero : (f : ℕ) → digits_of f 0 ≡ []
unfolding digits_of
digits_zero zero = refl
digits_zero (suc f) = refl

pub decimal_one : (x : ℕ) → x < 10 → decimal x ≡ digit x ∷ []
unfolding decimal digits_of
decimal_one x h = rw (div-eq_of_lt {n = x} {m = 10} h, mod-eq_of_lt h, digits_zero)

-- the digits of a number that is not 0 are its decimal
digits_decimal : (f x : ℕ) → 0 < x → x ≤ f → digits_of f x ≡ decimal x
unfolding decimal digits_of
digits_decimal zero x p h = absurd (omega arith)
digits_decimal (suc f) zero p h = absurd (omega arith)
digits_decimal (suc f) (suc x) p h =
    ap (λ (l : List ℕ). l ++ (digit (suc x % 10) ∷ [])) (digits_same f (suc x) (suc x / 10) (omega (arith, tens_less x)) (omega (arith, tens_less x)))

pub decimal_more : (x : ℕ) → 10 ≤ x → decimal x ≡ decimal (x / 10) ++ (digit (x % 10) ∷ [])
unfolding decimal
decimal_more x h = ap (λ (l : List ℕ). l ++ (digit (x % 10) ∷ [])) (digits_decimal x (x / 10) (omega arith) (omega arith))

-- ---- a decimal is the number

value_snoc : (v : ℕ) (l : List ℕ) (d : ℕ) → value_from v (l ++ (d ∷ [])) ≡ 10 * value_from v l + (d - 48)
unfolding value_from
value_snoc v [] d = refl
value_snoc v (e ∷ l) d = value_snoc (10 * v + (e - 48)) l d

digits_value : (f x : ℕ) → x ≤ f → value_from 0 (digits_of f x) ≡ x
unfolding digits_of value_from
digits_value zero x h = omega arith
digits_value (suc f) zero h = refl
digits_value (suc f) (suc x) h =
    omega (arith, value_snoc 0 (digits_of f (suc x / 10)) (digit (suc x % 10)), digits_value f (suc x / 10) (omega (arith, tens_less x)))

pub decimal_value : (x : ℕ) → value_from 0 (decimal x) ≡ x
unfolding decimal
decimal_value x = omega (arith, value_snoc 0 (digits_of x (x / 10)) (digit (x % 10)), digits_value x (x / 10) (omega arith))

-- so two numbers with the same digits are the same
pub decimal_injective : (x y : ℕ) → decimal x ≡ decimal y → x ≡ y
decimal_injective x y e = sym (decimal_value x) ∙ ap (value_from 0) e ∙ decimal_value y

-- ---- how many digits

pub decimal_one_length : (x : ℕ) → x < 10 → length (decimal x) ≡ 1
decimal_one_length x h = rw (decimal_one x h)

pub decimal_more_length : (x : ℕ) → 10 ≤ x → length (decimal x) ≡ length (decimal (x / 10)) + 1
decimal_more_length x h = rw (decimal_more x h) (length-append (decimal (x / 10)) (digit (x % 10) ∷ []))

-- a number below 10 is one digit; any other has one digit more than its tens
pub decimal_length : (k x : ℕ) → x < 10 ^ suc k → length (decimal x) ≤ suc k
decimal_length zero x h = omega (arith, decimal_one_length x h)
decimal_length (suc k) x h = by_cases (dec_lt x 10) (λ l. omega (arith, decimal_one_length x l))
    (λ g. omega (arith, decimal_more_length x (omega arith), decimal_length k (x / 10) (omega (arith, pow-suc 10 (suc k)))))

pub number_one : {o : List ℕ} {at x r : ℕ} {a : List ℕ} → x < 10 → Wrote o at (digit x ∷ []) r a → Wrote o at (decimal x) r a
number_one {x = x} h w = wrote_as w (sym (decimal_one x h))

-- ---- the library's decimals

-- the library's digits of a number that a machine word holds are ours
pub library_decimal : (x : ℕ) → x < 2 ^ 64 → Fmt.decimal x ≡ decimal x
library_decimal = decimal_by_steps (λ (x : ℕ) (l : List ℕ). l ≡ decimal x) (λ x h. sym (decimal_one x h))
    (λ x l h e. rw e (sym (decimal_more x h)))

pub number_length : (x : ℕ) {text : List ℕ} → x < 2 ^ 64 → text ≡ Fmt.decimal x → length text ≡ length (decimal x)
number_length x h t = ap length (t ∙ library_decimal x h)

pub number_wrote : {o a text : List ℕ} {at x : ℕ} → x < 2 ^ 64 → text ≡ Fmt.decimal x → a ≡ paste o at text (length text)
    → Wrote o at (decimal x) (at + length text) a
number_wrote {x = x} h t e = wrote_as (pasted_wrote e) (t ∙ library_decimal x h)
