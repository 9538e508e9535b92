-- What `collect` does: the completed table of a table, in an array for it.
--
--   Collected        the completed table stands at the front of the array, or does not fit
use Rattle.std.specs.Prelude.{◌≡◌, List, ℕ, ◌*◌, Option, IfSome, length, take}
use Rattle.terms.specs.Rows.{flat}
use Rattle.blocks.specs.Bytes.{fit}
use Rattle.completing.specs.Operation.{completed_of}

-- r is the number of its rows, none where out has no room for them
pub record Collected (n : ℕ) (table out : List ℕ) (r : Option ℕ) (out' : List ℕ) : Type 0 where
  pub end : r ≡ fit n (length out) (length (completed_of n table))
  pub written : IfSome r (λ count. take (count * n) out' ≡ flat (completed_of n table))
