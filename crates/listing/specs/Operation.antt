-- What `part_text` promises, and `part_text_checked`, which is told how the bundle was checked.
--
--   PartPromise b j before size after   part j of the output for the bundle b stands at the front of the buffer, so many bytes; the bytes
--                    behind it are as they were
use Rattle.std.specs.Prelude.{◌≡◌, List, ℕ, ◌≤◌, length}
use Rattle.listing.specs.Text.{part_text}
use Rattle.writing.specs.Written.{written}

pub record PartPromise (b : List ℕ) (j : ℕ) (before : List ℕ) (size : ℕ) (after : List ℕ) : Type 0 where
  pub counts : size ≡ length (part_text b j)
  pub fits : size ≤ length after
  pub writes : after ≡ written before 0 (part_text b j)
