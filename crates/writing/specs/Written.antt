-- Bytes put into a lent buffer.
--
--   written bytes at text   the bytes with the text from place `at` on; those before it and behind it are as they were
--   Wrote before at text end after   the text was written from `at` to `end`, and nothing else was changed
--
-- A text is any bytes: letters and digits, or the bytes of a bundle.
use Rattle.std.specs.Prelude.{◌≡◌, List, ◌++◌, ℕ, ◌+◌, length, take, drop}

unfoldable pub written : List ℕ → ℕ → List ℕ → List ℕ
written bytes at text = take at bytes ++ (text ++ drop (at + length text) bytes)

pub record Wrote (before : List ℕ) (at : ℕ) (text : List ℕ) (end : ℕ) (after : List ℕ) : Type 0 where
  pub ends : end ≡ at + length text
  pub bytes : after ≡ written before at text
