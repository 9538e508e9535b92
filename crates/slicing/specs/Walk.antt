-- What the functions of the walk promise, over plain lists of bytes.
--
-- The head of a row is its first exponent, its tail the exponents behind that. A table is completed head by head: the rows of one head stand together, their
-- tails are the block of that head. The tails of all heads so far generate an ideal, and the rows that are kept of them are its generators; where the tails
-- of a head lie in that ideal, its block is the one before. A prefix is the heads that were chosen at the variables before: it stands in front of each row
-- that is written. In example D, rows 0 2 and 2 1, head 0 has the tail 2 and the block 2; head 1 has none, so its block is 2 again; head 2 has the tail 1 and
-- the block 1. So the completed table is 0 2, 1 2, 2 1.
--
--   space m          the bytes that a row of m exponents and its tails take
--   Appended         what `append_completed` does: the completed table behind a prefix, at the end of what is written
--   Standing         the code's walk after the heads below a is that of `walk` (Slices)
--   BlockClosed      what `close_block` does: the walk's state once the block of a head is written
--   HeadTaken        what `take_head` does: the walk goes on by one head
--   Roomy            sizes that fit, and room in both arrays
use Rattle.std.specs.Prelude.{◌≡◌, List, ◌++◌, map, ℕ, zero, suc, ◌+◌, ◌*◌, ◌-◌, ◌≤◌, Option, option_map, IfSome, length, take, drop}
use Rattle.terms.specs.Monomials.{Table}
use Rattle.terms.specs.Rows.{first_rows, flat}
use Rattle.completion.specs.Slices.{shorter, walk, slices}
use Rattle.blocks.specs.Bytes.{part, after, fit}
use Rattle.slicing.specs.declared.Progress.{Progress}

unfoldable pub space : ℕ → ℕ
space zero = 0
space (suc m) = suc m + space m

-- Behind a prefix, the completed table of the table at the front of work; the table stays. r is the new end, none where out has no room; what stands there
-- then is left open.
pub record Appended (n rest rows : ℕ) (prefix work out : List ℕ) (at : ℕ) (r : Option ℕ) (work' out' : List ℕ) : Type 0 where
  pub end : r ≡ fit n (length out) (at + length (slices (suc rest) (first_rows (suc rest) rows work)))
  pub written : IfSome r (λ e.
      take (e * n) out' ≡ take (at * n) out ++ flat (after (take (n - suc rest) prefix) (slices (suc rest) (first_rows (suc rest) rows work))))
  pub kept : take (rows * suc rest) work' ≡ take (rows * suc rest) work

-- T is the table; `start` rows were written before its first row, and P are their bytes.
pub record Standing (n : ℕ) (T : Table) (start : ℕ) (P : List ℕ) (rest rows : ℕ) (prefix : List ℕ) (a : ℕ) (work out : List ℕ)
    (progress : Progress) : Type 0 where
  pub table : first_rows (suc rest) rows work ≡ T
  pub last : progress.last ≡ (walk (λ H. slices rest H) T a).last
  pub generators : part rest progress.generators (rows * suc rest) work ≡ (walk (λ H. slices rest H) T a).generators
  pub block : progress.from.0 + length (walk (λ H. slices rest H) T a).block ≡ progress.end
  pub before : length P ≡ start * n
  pub end : progress.end ≡ start + length (walk (λ H. slices rest H) T a).written
  pub within : progress.end * n ≤ length out
  pub written : take (progress.end * n) out ≡ P ++ flat (after (take (n - suc rest) prefix) (walk (λ H. slices rest H) T a).written)

-- The rows of head a go from `start` to `stop`. They are the block, and the generators are the shorter of their last exponents and the `all` rows that
-- stood at byte `base`.
pub record BlockClosed (n rest all base start stop a : ℕ) (work out : List ℕ) (r : Progress) (work' : List ℕ) : Type 0 where
  pub end : r.end ≡ stop
  pub kept : take base work' ≡ take base work
  pub from : r.from.0 ≡ start
  pub last : r.last ≡ a
  pub generators :
      part rest r.generators base work' ≡ shorter (map (λ u. drop (n - rest) u) (part n (stop - start) (start * n) out)) (part rest all base work)

-- r is the walk after head a, none where out has no room
pub record HeadTaken (n : ℕ) (T : Table) (start : ℕ) (P : List ℕ) (rest rows : ℕ) (prefix : List ℕ) (a : ℕ)
    (work out : List ℕ) (r : Option Progress) (work' out' : List ℕ) : Type 0 where
  pub kept : take (rows * suc rest) work' ≡ take (rows * suc rest) work
  pub end : option_map (λ progress. progress.end) r ≡ fit n (length out) (start + length (walk (λ H. slices rest H) T (suc a)).written)
  pub on : IfSome r (λ progress. Standing n T start P rest rows prefix (suc a) work' out' progress)

-- what `append_completed` and `take_head` may count on
pub record Roomy (n rest rows : ℕ) (work out : List ℕ) (at : ℕ) : Type 0 where
  pub variables : suc rest ≤ n
  pub six : n ≤ 6
  pub wide : rows * space (suc rest) ≤ length work
  pub limited : rows ≤ 4096
  pub starts : at * n ≤ length out
