-- Examples A, B, D, F and G of the paper, of the rules themselves.
--
--   example_a_find   no rows: find gives none in 0 steps
--   example_b_marks  row 0 0 has the marks 3
--   example_c_marks_in   row 3, n = 1, has one mark
--   example_d_marks_in   the completed rows of D have 1, 1 and 2 marks
--   example_d_marks, -complete   the completed rows 02, 12, 21 have the marks 2, 2, 3, and are complete
--   example_f_marks, -open       the rows of document 002's example have the marks 4, 4, 6, 6, 7, and are not complete
--   example_g_found, -none       find of 1 2 5 gives row 3 in 4 steps; of 2 0 1, none in 2 steps
use mathlib.Core.Path.{◌≡◌, refl}
use mathlib.Core.Bool.{true, false}
use mathlib.Core.List.{[], ◌∷◌}
use mathlib.Core.Option.{none, some}
use Rattle.checks.proofs.TestLaws.{true_tests, false_tests}
use Rattle.terms.specs.Monomials.{Monomial}
use Rattle.terms.specs.ExampleTables.{table_b, table_c, completed_d, table_f}
use Rattle.division.specs.Janet.{Complete, marks_in, table_marks, complete_test}
use Rattle.division.specs.Descent.{descent}
use Rattle.division.proofs.JanetLaws.{tests_complete}

-- whatever the monomial, it ends with nothing at variable 1
pub example_a_find : (q : Monomial) → descent 2 [] q ≡ record { found = none; steps = 0; ended = 1 }
unfolding descent
example_a_find q = refl

pub example_b_marks : table_marks 2 table_b ≡ 3 ∷ []
unfolding table_marks
example_b_marks = refl

pub example_d_marks : table_marks 2 completed_d ≡ 2 ∷ 2 ∷ 3 ∷ []
unfolding table_marks
example_d_marks = refl

pub example_c_marks_in : marks_in 1 table_c (3 ∷ []) ≡ 1
unfolding marks_in
example_c_marks_in = refl

pub example_d_marks_in : (marks_in 2 completed_d (0 ∷ 2 ∷ []) ≡ 1) × (marks_in 2 completed_d (1 ∷ 2 ∷ []) ≡ 1) × (marks_in 2 completed_d (2 ∷ 1 ∷ []) ≡ 2)
unfolding marks_in
example_d_marks_in = (refl, refl, refl)

test_d : complete_test 2 completed_d ≡ true
unfolding complete_test
test_d = refl

pub example_d_complete : Complete 2 completed_d
example_d_complete = true_tests (tests_complete 2 completed_d) test_d

pub example_f_marks : table_marks 3 table_f ≡ 4 ∷ 4 ∷ 6 ∷ 6 ∷ 7 ∷ []
unfolding table_marks
example_f_marks = refl

test_f : complete_test 3 table_f ≡ false
unfolding complete_test
test_f = refl

pub example_f_open : Complete 3 table_f → ⊥
example_f_open = false_tests (tests_complete 3 table_f) test_f

pub example_g_found : descent 3 table_f (1 ∷ 2 ∷ 5 ∷ []) ≡ record { found = some 3; steps = 4; ended = 0 }
unfolding descent
example_g_found = refl

-- it ends at variable 1
pub example_g_none : descent 3 table_f (2 ∷ 0 ∷ 1 ∷ []) ≡ record { found = none; steps = 2; ended = 1 }
unfolding descent
example_g_none = refl
