-- The marks of a row from those of the next in the order of rows (rule 2).
--
--   Differing n u w m r j   u and w differ first at variable suc j, u has less there, and r is made of m: all marks behind it, none at it, those of m before it
--   NextMarks n u w m r     r is made of the marks m of w, the next row
use Rattle.std.specs.Prelude.{◌≡◌, ℕ, suc, ◌+◌, ◌%◌, ◌^◌, ◌<◌}
use Rattle.terms.specs.Monomials.{Monomial, ◌!◌, SameBefore}

pub record Differing (n : ℕ) (u w : Monomial) (m r j : ℕ) : Type 0 where
  pub variable : j < n
  pub same : SameBefore (suc j) u w
  pub less : u ! suc j < w ! suc j
  pub marks : r + 2 ^ suc j ≡ m % 2 ^ j + 2 ^ n

abbrev pub NextMarks : ℕ → Monomial → Monomial → ℕ → ℕ → Type 0
NextMarks n u w m r = (j : ℕ) × Differing n u w m r j
