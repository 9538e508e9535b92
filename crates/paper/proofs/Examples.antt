-- The paper's starred examples hold: each is computed in the crate of its rule, and gathered here.
--
--   starred_examples
use mathlib.Core.Path.{◌≡◌, refl}
use mathlib.Core.List.{[], ◌∷◌}
use Prim.Native.Nat.{ℕ}
use Rattle.terms.specs.Order.{Ascending, precedes_test, ascending_test}
use Rattle.terms.specs.ExampleTables.{bytes_e, table_f}
use Rattle.terms.specs.Rows.{rows}
use Rattle.checks.specs.Refusals.{refusal}
use Rattle.terms.proofs.OrderLaws.{tests_ascending}
use Rattle.division.specs.Descent.{descent}
use Rattle.finding.specs.Operation.{find_checks}
use Rattle.counting.specs.Operations.{count_checks}
use Rattle.distinct.proofs.Examples as distinct
use Rattle.marking.proofs.Examples as marking
use Rattle.inside.proofs.Examples as inside
use Rattle.bundle.proofs.Examples as bundle
use Rattle.division.proofs.Examples as division
use Rattle.completion.proofs.Examples as completion
use Rattle.completing.proofs.Examples as completing
use Rattle.counts.proofs.Examples as counting
use Rattle.listing.proofs.Examples as listing
use Rattle.packing.proofs.Examples as packing
use Rattle.paper.specs.Examples.{StarredExamples}

ascending_f : Ascending table_f
unfolding ascending_test precedes_test
ascending_f = (tests_ascending table_f).sound tt

-- find and count ask for ascending rows, and refuse equal ones by 6
find_e : (a b : ℕ) → refusal (find_checks 2 bytes_e (a ∷ b ∷ [])) ≡ 6
unfolding refusal rows ascending_test precedes_test
find_e a b = refl

count_e : refusal (count_checks 2 bytes_e 0) ≡ 6
unfolding refusal rows ascending_test precedes_test
count_e = refl

pub starred_examples : StarredExamples
unfolding descent
starred_examples = record {
  A = (completion.example_a_table, λ q. record { found = refl; steps = refl }, counting.example_a);
  B = (completion.example_b_table, division.example_b_marks, counting.example_b);
  C = (counting.example_c_count, counting.example_c_polynomial);
  D = (
    listing.listing,
    completion.example_d_table,
    division.example_d_marks,
    (counting.example_d).3,
    (counting.example_d).0,
    (counting.example_d).2,
    (counting.example_d).1,
  );
  E = (
    distinct.example_e,
    marking.example_e,
    inside.example_e,
    completing.example_e,
    packing.example_e,
    bundle.example_e,
    listing.listing_equal_rows,
    find_e,
    count_e,
  );
  F = (ascending_f, division.example_f_marks, division.example_f_open);
  G = (record { found = refl; steps = refl }, record { found = refl; steps = refl });
  H = (completion.example_h_table, refl);
  I = completion.example_i_table;
  d_written = (λ buffer answer after e p. packing.example_d_written buffer e p, λ buffer answer after e p. packing.example_d_short buffer e p);
  J = (λ buffer answer after e p. completing.example_j_accepted buffer e p, λ buffer answer after e p. completing.example_j_refused buffer e p);
}
