-- Numbers and lines as text, in bytes.
--
--   decimal x        the decimal digits of x in ASCII, without zeros in front; 0 is one digit
--   value_from v l   the number that the digits l give behind the number v
--   field x          one space and a number
--   fields l         the fields of l, parted by one space
--   line l           those fields and a line feed
use Rattle.std.specs.Prelude.{List, [], ◌∷◌, ◌++◌, ℕ, zero, suc, ◌+◌, ◌*◌, ◌-◌, ◌/◌, ◌%◌}

-- the ASCII code of a digit below 10
abbrev pub digit : ℕ → ℕ
digit d = 48 + d

-- the digits of x, none where x is 0; f is at least x, so that none is left out
unfoldable pub digits_of : ℕ → ℕ → List ℕ
digits_of zero x = []
digits_of (suc f) zero = []
digits_of (suc f) (suc x) = digits_of f (suc x / 10) ++ (digit (suc x % 10) ∷ [])

unfoldable pub decimal : ℕ → List ℕ
decimal x = digits_of x (x / 10) ++ (digit (x % 10) ∷ [])

-- the number that digits give, read behind the number v
unfoldable pub value_from : ℕ → List ℕ → ℕ
value_from v [] = v
value_from v (d ∷ l) = value_from (10 * v + (d - 48)) l

abbrev pub space : ℕ
space = 32

abbrev pub line_feed : ℕ
line_feed = 10

abbrev pub field : ℕ → List ℕ
field x = space ∷ decimal x

unfoldable pub fields : List (List ℕ) → List ℕ
fields [] = []
fields (f ∷ []) = f
fields (f ∷ (g ∷ l)) = f ++ (space ∷ fields (g ∷ l))

abbrev pub line : List (List ℕ) → List ℕ
line l = fields l ++ (line_feed ∷ [])
