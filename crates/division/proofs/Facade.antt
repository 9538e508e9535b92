-- What a crate that counts sees of division: names and laws of its rules, and nothing that unfolds.
--
--   rules 3 and 4, over any division:  Division, Cone, Disjoint, Covers
--   rule 2:  Multiplicative, multiplicative_test; how many marks: marks_count, marks_in; as a byte: marks_of, table_marks
--   rule 4 with Janet's marks:  Complete, complete_test
--   the check 6:  NotAscending, order_check
--   laws of the tests:     tests_multiplicative, tests_complete
--   laws of the marks:     count_none, count_first, marks_in_count, marks_of_ones, marks_of_small, length_table_marks, front_marks
--   laws of the division:  janet_disjoint (the cones are disjoint); cover (they cover the ideal)
--   examples:  example_c_marks_in, example_d_marks_in
pub use Rattle.division.specs.Cones.{Division, Cone, Disjoint, Covers}
pub use Rattle.division.specs.Janet.{Multiplicative, Complete, multiplicative_test, marks_count, marks_in, marks_of, table_marks, complete_test}
pub use Rattle.division.specs.Checks.{NotAscending, order_check}
pub use Rattle.division.proofs.JanetLaws.{tests_multiplicative, tests_complete, janet_disjoint}
pub use Rattle.division.proofs.MarkByteLaws.{count_none, count_first, marks_in_count, marks_of_ones, marks_of_small, length_table_marks, front_marks}
pub use Rattle.division.proofs.Cover.{cover}
pub use Rattle.division.proofs.Examples.{example_c_marks_in, example_d_marks_in}
