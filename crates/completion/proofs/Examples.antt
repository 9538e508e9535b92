-- Examples A, B, D, H and I of the paper, of rule 5.
--
--   example_a ..           the completed table computes to the paper's
--   example_a_table ..     that table is rule 5's, in the paper's words
use mathlib.Core.Path.{◌≡◌, refl, subst}
use mathlib.Core.List.{[]}
use Prim.Native.Nat.{ℕ}
use lib.Dec.{T, eqb}
use lib.ListN.{length}
use Rattle.checks.specs.Tests.{all}
use Rattle.checks.proofs.TestLaws.{tests_all, tests_eq}
use Rattle.terms.specs.Monomials.{Monomial, Table, OfSize}
use Rattle.terms.specs.ExampleTables.{table_b, table_d, completed_d, table_f, completed_f, table_i, completed_i}
use Rattle.completion.specs.Completed.{CompletedTable, completed}
use Rattle.completion.proofs.RuleFive.{completed_table}

sized : (n : ℕ) (G : Table) → T (all (λ u. eqb (length u) n) G) → OfSize n G
sized n G t = (tests_all G (λ (u : Monomial) m. tests_eq (length u) n)).sound t

-- what `completed` computes to is rule 5's table
table_of : (n : ℕ) (G H : Table) → T (all (λ u. eqb (length u) n) G) → completed n G ≡ H → CompletedTable n G H
table_of n G H t e = subst (λ (K : Table). CompletedTable n G K) e (completed_table n G (sized n G t))

-- ---- A: no rows

pub example_a : completed 2 [] ≡ []
unfolding completed
example_a = refl

pub example_a_table : CompletedTable 2 [] []
example_a_table = table_of 2 [] [] tt example_a

-- ---- B: a row of zeros

pub example_b : completed 2 table_b ≡ table_b
unfolding completed
example_b = refl

pub example_b_table : CompletedTable 2 table_b table_b
example_b_table = table_of 2 table_b table_b tt example_b

-- ---- D: the listing of the paper

pub example_d : completed 2 table_d ≡ completed_d
unfolding completed
example_d = refl

pub example_d_table : CompletedTable 2 table_d completed_d
example_d_table = table_of 2 table_d completed_d tt example_d

-- ---- H: document 002, example 5.2

pub example_h : completed 3 table_f ≡ completed_f
unfolding completed
example_h = refl

pub example_h_table : CompletedTable 3 table_f completed_f
example_h_table = table_of 3 table_f completed_f tt example_h

-- ---- I: document 004, example 5.10, columns reversed

pub example_i : completed 3 table_i ≡ completed_i
unfolding completed
example_i = refl

pub example_i_table : CompletedTable 3 table_i completed_i
example_i_table = table_of 3 table_i completed_i tt example_i
