-- Each promise allows one result, and so does each exported function's: its numbers are those of the one answer.
--
--   one_result, one_export
use Rattle.checks.specs.Outcomes.{number_of, value_or}
use lib.IntN.{pos}
use mathlib.Core.Path.{◌≡◌, sym, ap, ◌∙◌}
use Rattle.finding.specs.Operation.{find_steps}
use Rattle.marking.proofs.OperationLaws.{marks_unique}
use Rattle.inside.proofs.OperationLaws.{inside_unique}
use Rattle.finding.proofs.OperationLaws.{find_unique}
use Rattle.completing.proofs.OperationLaws.{complete_unique}
use Rattle.counting.specs.Operations.{steady_value}
use Rattle.counting.proofs.OperationLaws.{count_unique, polynomial_unique, steady_unique}
use Rattle.bundle.specs.Operation.{located_n, located_rows, located_place}
use Rattle.bundle.proofs.ReadLaws.{locate_unique, open_unique}
use Rattle.listing.proofs.PartLaws.{part_unique}
use Rattle.packing.proofs.OperationLaws.{write_unique}
use Rattle.interface.specs.Exports.{inside_out, row_out}
use Rattle.paper.specs.OneResult.{OneResult, OneExport}

pub one_result : OneResult
one_result = record {
  marks = λ n table buffer a b x y p q. marks_unique p q;
  inside = λ n table query a b p q. inside_unique p q;
  find = λ n table query a b p q. find_unique p q;
  complete = λ n table buffer a b x y p q. complete_unique p q;
  count = count_unique;
  polynomial = polynomial_unique;
  steady = steady_unique;
  locate = locate_unique;
  opened = open_unique;
  part = λ bundle j before r s x y p q. part_unique p q;
  write = λ n counts tables buffer a b x y p q. write_unique p q;
}

-- two numbers out of one answer
same : {A B : Type 0} (f : A → B) {a b : A} {m k : B} → m ≡ f a → k ≡ f b → a ≡ b → m ≡ k
same f e g h = e ∙ ap f h ∙ sym g

pub one_export : OneExport
one_export = record {
  marks = λ n table buffer m k x y p q. let e = marks_unique p.promise q.promise in (same number_of p.returned q.returned e.0, e.1);
  inside = λ n table query m k r s p q.
      let e = inside_unique p.promise q.promise in (same number_of p.returned q.returned e, same inside_out p.found q.found e);
  complete = λ n table buffer m k c d x y p q.
      let e = complete_unique p.promise q.promise in
      (same number_of p.returned q.returned e.0, same (value_or 0) p.counted q.counted e.0, e.1);
  find = λ n table query m k r s t u p q.
      let e = find_unique p.promise q.promise in
      (same number_of p.returned q.returned e, same row_out p.found q.found e, same find_steps p.taken q.taken e);
  count = λ n table s m k v w p q.
      let e = count_unique n table s _ _ p.promise q.promise in
      (same number_of p.returned q.returned e, same (value_or 0) p.counted q.counted e);
  polynomial = λ n table s m k v w p q.
      let e = polynomial_unique n table s _ _ p.promise q.promise in
      (same number_of p.returned q.returned e, same (value_or (pos 0)) p.value_is q.value_is e);
  steady = λ n table m k v w p q.
      let e = steady_unique n table _ _ p.promise q.promise in
      (same number_of p.returned q.returned e, same steady_value p.degree_is q.degree_is e);
  opened = λ bundle j m k n o r s x y p q.
      let e = locate_unique bundle j _ _ p.promise q.promise in (
        same number_of p.returned q.returned e,
        same located_n p.variables q.variables e,
        same located_rows p.count q.count e,
        same located_place p.begins q.begins e,
      );
  write = λ n counts tables buffer m k c d x y p q.
      let e = write_unique p.promise q.promise in
      (same number_of p.returned q.returned e.0, same (value_or 0) p.size_is q.size_is e.0, e.1);
}
