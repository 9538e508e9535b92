-- What goes out is what the rules say: values, exported numbers, the listing.
--
--   value_demand, export_demand, row_demand, listing_demand
use Rattle.std.specs.Prelude.{Result, Ok, Err}
use Rattle.std.specs.Prelude as code
use Rattle.checks.proofs.OutcomeLaws.{number_positive}
use Rattle.checks.specs.Outcomes.{number_of, value_or}
use Rattle.checks.specs.declared.Refusal.{Refusal}
use Rattle.terms.specs.declared.RowNumber.{RowNumber}
use Rattle.terms.specs.declared.Degree.{Degree}
use Rattle.finding.specs.declared.Finding.{Finding}
use mathlib.Core.Path.{◌≡◌, refl, sym, ap, ◌∙◌, subst}
use mathlib.Core.List.Memᴰ
use mathlib.Core.List.{List}
use Prim.Native.Nat.{ℕ, ◌<◌}
use native.Mathlib.Omega.{arith}
use lib.IntN.{pos}
use lib.ListN.{length}
use Rattle.checks.proofs.TestLaws.{tests_eq, tests_false}
use Rattle.terms.specs.Monomials.{Table}
use Rattle.checks.specs.Refusals.{Check, Accepts, Refuses, refusal}
use Rattle.terms.proofs.RowsLaws.{rows_size}
use Rattle.checks.proofs.RefusalLaws.{accepts_refusal, refuses_refusal, answered_accepted}
use Rattle.inside.specs.Operation.{InsidePromise}
use Rattle.inside.specs.FirstDividing.{FirstDividing}
use Rattle.finding.specs.Operation.{FindPromise, find_steps}
use Rattle.inside.proofs.FirstLaws.{first_inside}
use Rattle.inside.proofs.OperationLaws.{inside_finds}
use Rattle.finding.proofs.OperationLaws.{find_finds}
use Rattle.interface.proofs.Bounds.{inside_small, row_small}
use Rattle.division.specs.Cones.{DivisorAt}
use Rattle.division.specs.Janet.{Multiplicative}
use Rattle.terms.specs.Ideal.{Inside}
use Rattle.terms.specs.Rows.{rows}
use mathlib.Core.Logic.{◌↔◌}
use Rattle.completion.specs.Completed.{CompletedTable, completed}
use Rattle.completion.proofs.RuleFive.{completed_table, completed_unique}
use Rattle.bundle.specs.Format.{variables_of, body_of, table_of}
use Rattle.bundle.specs.Checks.{bundle_checks, open_checks}
use Rattle.bundle.proofs.ReadLaws.{open_accepted}
use Rattle.listing.specs.Text.{completed_text, table_text, refusal_line, part_text, bundle_text}
use Rattle.listing.proofs.BoundLaws.{table_text_room, table_text_full}
use Rattle.listing.proofs.PartLaws.{part_front, table_part, bundle_parts}
use Rattle.interface.specs.Exports.{inside_out, row_out, row_number}
use Rattle.division.specs.Scan.{Answers, number_found}
use Rattle.paper.specs.Demands.{Settled}
use Rattle.paper.specs.Outputs.{ValueDemand, ExportDemand, RowDemand, TableText, ListingDemand}
use Rattle.paper.proofs.Demands.{demand_one}

-- ---- values

pub value_demand : ValueDemand
value_demand = record {
  inside = λ n table query answer p e. inside_finds n table query (sym p.number ∙ e) answer p;
  polynomial = λ n table s answer p e. p.value ∙ answered_accepted _ _ (pos 0) (sym p.number ∙ e);
  steady = λ n table answer p e. p.value ∙ answered_accepted _ _ 0 (sym p.number ∙ e);
}

-- ---- exported numbers

-- the operation's number is returned
returned : {checks : List Check} {number k : ℕ} → number ≡ k → Settled checks k → Settled checks number
returned {checks} e s = subst (λ (m : ℕ). Settled checks m) (sym e) s

-- beside a refusal an answer's values are 0
value_beside : {A : Type 0} (z : A) (a : Result A Refusal) → 0 < number_of a → value_or z a ≡ z
value_beside z (Ok x) h = absurd (omega arith)
value_beside z (Err e) h = refl

inside_zero : (a : Result (code.Option RowNumber) Refusal) → 0 < number_of a → inside_out a ≡ 0
inside_zero (Ok f) h = absurd (omega arith)
inside_zero (Err e) h = refl

find_zero : (a : Result Finding Refusal) → 0 < number_of a → (row_out a ≡ 0) × (find_steps a ≡ 0)
find_zero (Ok f) h = absurd (omega arith)
find_zero (Err e) h = (refl, refl)

pub export_demand : ExportDemand
export_demand = record {
  marks = λ n table buffer number after x.
      let d = demand_one.marks n table buffer x.answer after x.promise in
      (returned x.returned d.0, λ l. d.1 (omega (arith, x.returned)));
  inside = λ n table query number row x. (
    returned x.returned (demand_one.inside n table query x.answer x.promise),
    λ l. x.found ∙ inside_zero x.answer (omega (arith, x.returned)),
  );
  complete = λ n table buffer number count after x.
      let d = demand_one.complete n table buffer x.answer after x.promise in
      (returned x.returned d.0, λ l. (x.counted ∙ value_beside 0 x.answer (omega (arith, x.returned)), d.1 (omega (arith, x.returned))));
  find = λ n table query number row steps x. (
    returned x.returned (demand_one.find n table query x.answer x.promise),
    λ l.
        let z = find_zero x.answer (omega (arith, x.returned)) in (x.found ∙ z.0, x.taken ∙ z.1),
  );
  count = λ n table s number value x.
      (returned x.returned (demand_one.count n table s x.answer x.promise), λ l. x.counted ∙ value_beside 0 x.answer (omega (arith, x.returned)));
  polynomial = λ n table s number value x. (
    returned x.returned (demand_one.polynomial n table s x.answer x.promise),
    λ l. x.value_is ∙ value_beside (pos 0) x.answer (omega (arith, x.returned)),
  );
  steady = λ n table number degree x.
      (returned x.returned (demand_one.steady n table x.answer x.promise), λ l. x.degree_is ∙ ap (λ (d : Degree). d.0) (value_beside (record { 0 = 0 }) x.answer (omega (arith, x.returned))));
  opened = λ bundle j number n count offset x.
      let d = demand_one.locate bundle j x.answer x.promise in (
        returned x.returned d.0,
        λ l.
            let z = d.1 (omega (arith, x.returned)) in (x.variables ∙ z.0, x.count ∙ z.1, x.begins ∙ z.2),
      );
  write = λ n counts tables buffer number size after x.
      let d = demand_one.write n counts tables buffer x.answer after x.promise in
      (returned x.returned d.0, λ l. (x.size_is ∙ value_beside 0 x.answer (omega (arith, x.returned)), d.1 (omega (arith, x.returned))));
}

-- ---- row numbers

module _ (n : ℕ) (table query : List ℕ) (row : ℕ) where
  abbrev G : Table
  G = rows n table

  -- the row that is given divides, so the ideal has the query; none is given where the query is outside
  inside_row_lem : (a : Result (code.Option RowNumber) Refusal) → InsidePromise n table query a → number_of a ≡ 0 → row ≡ inside_out a
      → ((row ≡ 65535) ↔ (Inside G query → ⊥)) × ((row ≡ 65535 → ⊥) → (row < 4096) × FirstDividing G query row)
  inside_row_lem (Ok (code.Some r)) p e f =
      let d : FirstDividing G query r.0 = inside_finds n table query (sym p.number) (Ok (code.Some r)) p in
      let small : r.0 < 4096 = inside_small p refl in (
        (λ h. absurd (omega arith), λ outside. absurd (outside (first_inside d))),
        λ h. (omega arith, rw f d),
      )
  inside_row_lem (Ok code.None) p e f = ((λ h. inside_finds n table query (sym p.number) (Ok code.None) p, λ o. f), λ h. absurd (h f))
  inside_row_lem (Err x) p e f = absurd (omega (arith, number_positive x, e))

  found_out : (o : code.Option RowNumber) → Answers Multiplicative G query (number_found o) → code.IfSome o (λ r. r.0 < 4096) → row ≡ row_number o
      → ((row ≡ 65535) ↔ ((r : ℕ) → DivisorAt Multiplicative G r query → ⊥)) × ((row ≡ 65535 → ⊥) → (row < 4096) × DivisorAt Multiplicative G row query)
  found_out (code.Some r) d small f = (
    (λ h. absurd (omega arith), λ none. absurd (none r.0 d)),
    λ h. (omega arith, rw f d),
  )
  found_out code.None none small f = ((λ h. none, λ o. f), λ h. absurd (h f))

  find_row_lem : (a : Result Finding Refusal) → FindPromise n table query a → number_of a ≡ 0 → row ≡ row_out a
      → ((row ≡ 65535) ↔ ((r : ℕ) → DivisorAt Multiplicative G r query → ⊥)) × ((row ≡ 65535 → ⊥) → (row < 4096) × DivisorAt Multiplicative G row query)
  find_row_lem (Ok f) p e g = found_out f.row (find_finds n table query (Ok f) p (sym p.number)) (row_small p refl) g
  find_row_lem (Err x) p e f = absurd (omega (arith, number_positive x, e))

pub row_demand : RowDemand
row_demand = record {
  inside = λ n table query number row x e. inside_row_lem n table query row x.answer x.promise (sym x.returned ∙ e) x.found;
  find = λ n table query number row steps x e. find_row_lem n table query row x.answer x.promise (sym x.returned ∙ e) x.found;
}

-- ---- the listing

-- Rule 5's table is the one that the text is made of.
table_text_lem : (b : List ℕ) (j : ℕ) → Accepts (open_checks b j) → (H : Table) → CompletedTable (variables_of b) (table_of b j) H → TableText b j H
table_text_lem b j a H is = record {
  room = λ l. sym part ∙ table_text_room n j G (omega (arith, size)) ∙ ap (completed_text n j (length G)) same;
  none = λ l. sym part ∙ table_text_full n j G (omega (arith, size));
}
  where
    n : ℕ
    n = variables_of b

    G : Table
    G = table_of b j

    same : completed n G ≡ H
    same = completed_unique (completed_table n G (rows_size n (body_of b j))) is

    size : length (completed n G) ≡ length H
    size = ap length same

    part : table_text n j G ≡ part_text b j
    part = table_part b j (accepts_refusal (bundle_checks b) (λ c m. a c (Memᴰ.append_left _ m))) (open_accepted b j (accepts_refusal (open_checks b j) a)).1

-- the number of a refusal is above 0
refused_text : (b : List ℕ) (m : ℕ) → Refuses (bundle_checks b) m → bundle_text b ≡ refusal_line m
unfolding bundle_text
refused_text b m r =
    let e : refusal (bundle_checks b) ≡ m = refuses_refusal (bundle_checks b) m r in
    rw (e, sym (tests_false (tests_eq m 0) (λ z. omega (arith, r.check.positive, r.number))))

pub listing_demand : ListingDemand
listing_demand = record {
  part = λ bundle j before size after p. part_front p;
  table = table_text_lem;
  refused = refused_text;
  whole = bundle_parts;
}
