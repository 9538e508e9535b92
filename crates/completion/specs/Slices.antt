-- The completed table by slices of the first variable, on lists: what the code of `complete` computes, step by step.
-- A row is written a ∷ q: its head a, the exponent of its first variable, and its tail q. Heads and tails are total (no exponent: head 0, no tail).
--
--   head u               the first exponent of u; `tail u`, of the toolchain's lists, is u without it
--   slice f G            the tails of the rows of G whose head passes f
--   at a G, below a G, under a G   the slices of the heads equal to a, below a, at most a
--   front a G            the rows of G with head below a
--   heads G              one more than the largest head of G, 0 for no rows
--   fresh G tails        one of the tails is outside the ideal of G
--   Walk                 the state of the walk over the heads
--   shorter B G          the one of two tables that has fewer rows, G where they have as many
--   started, lengthened  the walk before the first head; what is written after a growing head
--   grown f a w G        the walk after a head a that adds to the ideal: G generates the slice of the heads up to a
--   step f G a w         the walk after head a
--   walk f G a           the walk after the heads below a
--   slices n G           the recursion: the walk over all heads of G, with itself on the tails
--
-- In each, f is the recursion on the tails. The walk writes, for each head a at which the ideal grows, first the last block again under each head
-- since, and then the block of a. That `slices n G` is rule 5's table is proved in WalkLaws.
use Rattle.std.specs.Prelude.{Bool, not, ℕ, zero, suc, ◌-◌, ltb, eqb, length}
use mathlib.Core.List.{[], ◌∷◌, ◌++◌, map, tail}
use Rattle.checks.specs.Tests.{pick, any, keep}
use Rattle.terms.specs.Monomials.{Monomial, Table, ◌!◌}
use Rattle.terms.specs.Ideal.{inside_test}
use Rattle.completion.specs.Blocks.{behind, repeated}

-- ---- slices of a table

abbrev pub head : Monomial → ℕ
head u = u ! 1

unfoldable pub slice : (ℕ → Bool) → Table → Table
slice f G = map tail (keep (λ u. f (head u)) G)

abbrev pub at : ℕ → Table → Table
at a G = slice (λ b. eqb b a) G

abbrev pub below : ℕ → Table → Table
below a G = slice (λ b. ltb b a) G

abbrev pub under : ℕ → Table → Table
under a G = below (suc a) G

unfoldable pub front : ℕ → Table → Table
front a G = keep (λ u. ltb (head u) a) G

unfoldable pub heads : Table → ℕ
heads [] = 0
heads (u ∷ G) = let h = heads G in pick (ltb (head u) h) h (suc (head u))

unfoldable pub fresh : Table → Table → Bool
unfolding inside_test
fresh G tails = any (λ t. not (inside_test G t)) tails

-- ---- the walk over the heads

-- what is written, the last block without its head, generators of that block's ideal, and its head (0 before the first block)
pub record Walk : Type 0 where
  pub written : Table
  pub block : Table
  pub generators : Table
  pub last : ℕ

-- nothing written
abbrev pub started : Walk
started = record { written = []; block = []; generators = []; last = 0 }

unfoldable pub shorter : Table → Table → Table
shorter B G = pick (ltb (length B) (length G)) B G

-- what is written after a growing head a with the block C: the block B of the last one under each head between, and then C
abbrev pub lengthened : Table → ℕ → Table → ℕ → Table → Table
lengthened L last B a C = L ++ repeated (suc last) (a - suc last) B ++ behind a C

unfoldable pub grown : (Table → Table) → ℕ → Walk → Table → Walk
unfolding repeated behind shorter
grown f a w G =
    let block : Table = f G in
    record { written = lengthened w.written w.last w.block a block; block = block; generators = shorter block G; last = a }

unfoldable pub step : (Table → Table) → Table → ℕ → Walk → Walk
unfolding slice fresh grown
step f G a w =
    let tails : Table = at a G in
    let on : Walk = grown f a w (w.generators ++ tails) in
    pick (fresh w.generators tails) on w

unfoldable pub walk : (Table → Table) → Table → ℕ → Walk
unfolding step
walk f G zero = started
walk f G (suc a) = step f G a (walk f G a)

-- ---- the recursion

unfoldable pub slices : ℕ → Table → Table
unfolding walk heads
slices zero [] = []
slices zero (u ∷ G) = [] ∷ []
slices (suc n) G = (walk (λ H. slices n H) G (heads G)).written
