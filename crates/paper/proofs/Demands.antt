-- The three demands hold.
--
--   settled       a number that is the refusal of a list of checks settles the list
--   demand_one, demand_two, demand_three
use Rattle.std.specs.Prelude.{Result, Ok, Err, ⊤}
use Rattle.checks.proofs.OutcomeLaws.{number_positive}
use Rattle.checks.specs.Outcomes.{number_of}
use Rattle.checks.specs.declared.Refusal.{Refusal}
use Rattle.finding.specs.declared.Finding.{Finding}
use mathlib.Core.Path.{◌≡◌, sym, ap, ◌∙◌, subst}
use mathlib.Core.List.{List, [], ◌∷◌, ◌++◌}
use mathlib.Core.Logic.{by_cases, ◌↔◌}
use mathlib.Core.Option.{Option, some}
use Prim.Native.Nat.{ℕ, ◌+◌, ◌*◌, ◌/◌, ◌%◌, ◌^◌, ◌≤◌, ◌<◌}
use native.Mathlib.Nat.{le_trans}
use native.Mathlib.Decide.{dec_lt}
use native.Mathlib.Omega.{arith}
use lib.ListN.{length, take, drop, get_or}
use Rattle.terms.specs.Monomials.{Monomial, Table, ◌!◌, degree, row_at}
use Rattle.terms.specs.Order.{Ascending}
use Rattle.terms.specs.Rows.{rows, first_rows, flat}
use Rattle.checks.specs.Refusals.{Check, Accepts, Refuses, refusal, answered}
use Rattle.terms.specs.TableChecks.{table_checks, TableAccepted}
use Rattle.distinct.specs.EqualRows.{distinct_checks}
use Rattle.distinct.proofs.CheckLaws.{distinct_listed}
use Rattle.terms.proofs.RowsLaws.{rows_size, rows_flat}
use Rattle.checks.proofs.RefusalLaws.{accepted, accepts_nil, accepts_cons, accepts_append, accepts_refusal, refusal_refuses, refuses_refusal}
use Rattle.checks.proofs.RefusalLaws.{answered_accepted, answered_refused}
use Rattle.terms.proofs.TableLaws.{accepts_table, rows_small}
use Rattle.division.specs.Janet.{Multiplicative, Complete, marks_of, table_marks}
use Rattle.finding.specs.Operation.{FindPromise, find_checks, find_row, find_steps}
use Rattle.division.specs.Checks.{length_check, order_check}
use Rattle.finding.proofs.OperationLaws.{find_finds, find_steps_lem, find_ready}
use Rattle.completion.specs.Completed.{CompletedTable}
use Rattle.completing.specs.Operation.{CompletePromise, complete_checks, complete_rows, completed_of, room_for}
use Rattle.completion.proofs.RuleFive.{completed_table, completed_unique, completed_most}
use Rattle.completion.proofs.SmallestTable.{completion_ideal, completion_complete, completion_one, completion_none, completion_size, completed_contained}
use Rattle.completing.proofs.OperationLaws.{complete_rows_lem, complete_front, complete_behind, room_enough, no_room, accepted_room}
use Rattle.completing.proofs.OperationLaws.{room_limited}
use Rattle.counts.specs.Counts.{CountsOutside, count_at}
use Rattle.counts.proofs.CountLaws.{count_outside}
use Rattle.division.proofs.Cover.{inside_divisor}
use Rattle.counting.specs.Operations.{CountPromise, degree_check, complete_check, countable_checks, count_checks, count_value}
use Rattle.terms.specs.Ideal.{Inside}
use Rattle.division.specs.Cones.{DivisorAt}
use Rattle.division.specs.Scan.{scan, Answers}
use Rattle.terms.proofs.OrderLaws.{ascending_distinct}
use Rattle.division.proofs.JanetLaws.{janet_disjoint}
use Rattle.division.proofs.DescentLaws.{scan_finds, answers_first, answers_unique}
use Rattle.checks.proofs.TestLaws.{tests_eq}
use Rattle.marking.specs.Operation.{MarksPromise}
use Rattle.division.proofs.MarkByteLaws.{tests_marks, front_marks, length_table_marks, marks_of_below}
use lib.Seq.{drop_at}
use Rattle.bundle.specs.Checks.{open_checks}
use Rattle.paper.specs.Demands.{Settled, DemandOne, DemandTwo, DemandThree, Completion, MarksWritten, OneDivisor}
use Rattle.paper.proofs.EndToEnd.{outside_ideal, flat_accepted}

-- ---- the first demand

pub settled : (checks : List Check) (number : ℕ) → number ≡ refusal checks → Settled checks number
settled checks number e = record {
  answers = λ a. e ∙ accepts_refusal checks a;
  answered = λ z. accepted checks (sym e ∙ z);
  refuses = λ m r. e ∙ refuses_refusal checks m r;
  refused = λ p. subst (λ (m : ℕ). Refuses checks m) (sym e) (refusal_refuses checks (omega arith));
}

-- what stands beside a refusal
beside : {A : Type 0} (checks : List Check) (m : ℕ) → m ≡ refusal checks → 0 < m → (x z : A) → answered checks x z ≡ z
beside checks m e l x z = answered_refused checks x z (λ n. omega arith)

pub demand_one : DemandOne
demand_one = record {
  marks = λ n table buffer answer after p. (settled _ _ p.number, λ l. p.writes ∙ beside _ _ p.number l _ buffer);
  inside = λ n table query answer p. settled _ _ p.number;
  complete = λ n table buffer answer after p.
      (settled (complete_checks n table (length buffer)) (number_of answer) p.number, λ l. p.writes ∙ beside _ _ p.number l _ buffer);
  find = λ n table query answer p. settled (find_checks n table query) (number_of answer) p.number;
  count = λ n table s answer p. settled _ _ p.number;
  polynomial = λ n table s answer p. settled _ _ p.number;
  steady = λ n table answer p. settled _ _ p.number;
  locate = λ bundle j answer p. (
    settled _ _ p.number,
    λ l.
        let none = beside (open_checks bundle j) (number_of answer) p.number l in
        (p.variables ∙ none _ 0, p.count ∙ none _ 0, p.begins ∙ none _ 0),
  );
  opened = λ bundle j answer p. (
    settled _ _ p.number,
    λ l.
        let none = beside (open_checks bundle.now j) (number_of answer) p.number l in
        (p.variables ∙ none _ 0, p.count ∙ none _ 0, p.shown ∙ beside (open_checks bundle.now j) (number_of answer) p.number l _ []),
  );
  write = λ n counts tables buffer answer after p. (settled _ _ p.number, λ l. p.writes ∙ beside _ _ p.number l _ buffer);
}

-- ---- the second demand

-- an accepted answer is a row count
accepted_promise : (n : ℕ) (table buffer : List ℕ) (answer : Result ℕ Refusal) (after : List ℕ) → CompletePromise n table buffer answer after
    → number_of answer ≡ 0 → CompletePromise n table buffer (Ok (complete_rows answer)) after
accepted_promise n table buffer (Ok k) after p e = p
accepted_promise n table buffer (Err x) after p e = absurd (omega (arith, e, number_positive x))

completion_of : (n : ℕ) (table buffer : List ℕ) (k : ℕ) (after : List ℕ) → CompletePromise n table buffer (Ok k) after → Completion n table buffer k after
completion_of n table buffer k after p = record {
  rule = complete_rows_lem p;
  complete = completion_complete n (rows n table) (rows_size n table) (complete_rows_lem p);
  ideal = completion_ideal n (rows n table) (rows_size n table) (complete_rows_lem p);
  smallest = λ K z c same u m. completed_contained n (rows n table) K z c same u ((complete_rows_lem p).only u m);
  behind = complete_behind p;
}

room_decides : (n : ℕ) (table buffer : List ℕ) (answer : Result ℕ Refusal) (after : List ℕ) → CompletePromise n table buffer answer after
    → Accepts (distinct_checks n table) → (H : Table) → CompletedTable n (rows n table) H → (number_of answer ≡ 8) ↔ (room_for n (length buffer) < length H)
room_decides n table buffer answer after p a H is =
    let same : completed_of n table ≡ H = completed_unique (completed_table n (rows n table) (rows_size n table)) is in
    let size = ap length same in (
      λ e. by_cases (dec_lt (room_for n (length buffer)) (length H)) (λ l. l) (λ g.
          absurd (omega (arith, p.number, room_enough n table (length buffer) a (omega arith)))),
      λ l. p.number ∙ no_room n table (length buffer) a (omega arith),
    )

-- the byte of row r is the row's marks, and its bits say where it is multiplicative
marking_of : (n : ℕ) (table buffer : List ℕ) (answer : Result ⊤ Refusal) (after : List ℕ) → MarksPromise n table buffer answer after
    → number_of answer ≡ 0 → MarksWritten n table buffer after
marking_of n table buffer answer after p e = record {
  marks = λ r j l h.
      let t = tests_marks n G (row_at G r) j h in (
        λ x. t.sound ((tests_eq _ 1).complete (sym (ap (λ (m : ℕ). m / 2 ^ j % 2) (byte r l)) ∙ x)),
        λ m. ap (λ (k : ℕ). k / 2 ^ j % 2) (byte r l) ∙ (tests_eq _ 1).sound (t.complete m),
      );
  small = λ r l. omega (arith, byte r l, marks_of_below n G (row_at G r));
  behind = ap (drop (length G)) written ∙ drop_at (table_marks n G) (drop (length G) buffer) (length G) (length_table_marks n G);
}
  where
    G : Table
    G = rows n table

    written : after ≡ table_marks n G ++ drop (length G) buffer
    written = p.writes ∙ answered_accepted _ _ buffer (sym p.number ∙ e)

    byte : (r : ℕ) → r < length G → get_or after r 0 ≡ marks_of n G (row_at G r)
    byte r l = ap (λ (b : List ℕ). get_or b r 0) written ∙ front_marks n G (drop (length G) buffer) r l

pub demand_two : DemandTwo
demand_two = record {
  table = λ n table.
      let is = completed_table n (rows n table) (rows_size n table) in
      (completed_of n table, is, λ K other. completed_unique other is);
  marks = marking_of;
  complete = λ n table buffer answer after p e.
      completion_of n table buffer (complete_rows answer) after (accepted_promise n table buffer answer after p e);
  room = room_decides;
}

-- ---- the third demand

-- two divisors of one monomial are one row, since the cones of an ascending table are disjoint
found_divides : (n : ℕ) (table query : List ℕ) (answer : Result Finding Refusal) → FindPromise n table query answer → number_of answer ≡ 0
    → (r : ℕ) → (find_row answer ≡ some r) ↔ DivisorAt Multiplicative (rows n table) r query
found_divides n table query answer p e r =
    let z : refusal (find_checks n table query) ≡ 0 = sym p.number ∙ e in
    let G : Table = rows n table in
    let found = find_finds n table query answer p z in (
      λ same. subst (λ (o : Option ℕ). Answers Multiplicative G query o) same found,
      λ d. answers_unique (janet_disjoint (rows_size n table) (ascending_distinct G (find_ready n table query z).ascends)) query (find_row answer)
          (some r) found d,
    )

module _ (n : ℕ) (table buffer : List ℕ) (k : ℕ) (after : List ℕ) (p : CompletePromise n table buffer (Ok k) after) where
  one_divisor : (q : Monomial) → length q ≡ n → ((i : ℕ) → q ! i ≤ 255) → Inside (rows n table) q → (r : ℕ) × OneDivisor (first_rows n k after) q r
  one_divisor q e small h =
      let d = completion_one n (rows n table) (rows_size n table) (complete_rows_lem p) q e h in
      (d.0, record { divisor = d.1; only = λ s x. sym (d.2 s x) })

  no_divisor : (q : Monomial) → length q ≡ n → (Inside (rows n table) q → ⊥) → (r : ℕ) → DivisorAt Multiplicative (first_rows n k after) r q → ⊥
  no_divisor q e o r d = completion_none n (rows n table) (rows_size n table) (complete_rows_lem p) q e o r d

  -- ---- the count from the completed rows

  -- the completed table, and what is known of it
  abbrev H : Table
  H = completed_of n table

  is : CompletedTable n (rows n table) H
  is = completed_table n (rows n table) (rows_size n table)

  -- the bytes at the buffer's front are its rows
  written : take (k * n) after ≡ flat H
  written = complete_front p

  given : TableAccepted n table
  given = distinct_listed n table _ (sym p.number)

  same_rows : H ≡ rows n (flat H)
  same_rows = sym (rows_flat n H given.some (completion_size is))

  -- they are within the limits
  bytes_accepted : Accepts (table_checks n (flat H))
  bytes_accepted =
      accepts_table n (flat H) (flat_accepted n H given.some given.six (completion_size is)
      (le_trans (accepted_room n table (length buffer) (sym p.number)) (room_limited n (length buffer)))
      (completed_most 50 n (rows n table) (rows_size n table) (rows_small n table given)))

  -- they pass every check of count
  counted : (s : ℕ) → s ≤ 300 → Accepts (count_checks n (flat H) s)
  counted s l = accepts_append (table_checks n (flat H)) (degree_check s ∷ countable_checks n (flat H)) bytes_accepted
      (accepts_cons (degree_check s) _ (λ h. omega (arith, h))
      (accepts_cons (order_check n (flat H)) _ (λ h. h (subst Ascending same_rows is.ascends))
      (accepts_cons (complete_check n (flat H)) _ (λ h. h (subst (Complete n) same_rows (completion_complete n (rows n table) (rows_size n table) is)))
      accepts_nil)))

  count_answers : (s : ℕ) → s ≤ 300 → (answer : Result ℕ Refusal) → CountPromise n (flat H) s answer
      → (number_of answer ≡ 0) × CountsOutside n (rows n table) s (count_value answer)
  count_answers s l answer c =
      let z : refusal (count_checks n (flat H) s) ≡ 0 = accepts_refusal (count_checks n (flat H) s) (counted s l) in
      let value : count_at n H s ≡ count_value answer = sym (c.value ∙ answered_accepted _ _ 0 z ∙ ap (λ (G : Table). count_at n G s) (sym same_rows)) in (
        c.number ∙ z,
        subst (λ (k : ℕ). CountsOutside n (rows n table) s k) value
            (outside_ideal (completion_ideal n (rows n table) (rows_size n table) is) (count_outside n H s)),
      )

  -- they pass every check of find for a query of n bytes, and a row is found exactly for the monomials of the ideal
  find_answers : (query : List ℕ) → length query ≡ n → (answer : Result Finding Refusal) → FindPromise n (flat H) query answer
      → (number_of answer ≡ 0) × (((r : ℕ) × (find_row answer ≡ some r)) ↔ Inside (rows n table) query)
  find_answers query e answer f =
      let z : number_of answer ≡ 0 = f.number ∙ accepts_refusal (find_checks n (flat H) query)
      (accepts_append (table_checks n (flat H)) (length_check n query ∷ (order_check n (flat H) ∷ [])) bytes_accepted
      (accepts_cons (length_check n query) _ (λ h. h e)
      (accepts_cons (order_check n (flat H)) _ (λ h. h (subst Ascending same_rows is.ascends)) accepts_nil))) in
      let found = found_divides n (flat H) query answer f z in (
        z,
        (
          λ r. (completion_ideal n (rows n table) (rows_size n table) is).back query e
              (inside_divisor (subst (λ (G : Table). DivisorAt Multiplicative G r.0 query) (sym same_rows) ((found r.0).0 r.1))),
          λ h.
              let d = completion_one n (rows n table) (rows_size n table) is query e h in
              (d.0, (found d.0).1 (subst (λ (G : Table). DivisorAt Multiplicative G d.0 query) same_rows d.1)),
        ),
      )

descent_scans : (n : ℕ) (table query : List ℕ) (answer : Result Finding Refusal) → FindPromise n table query answer → number_of answer ≡ 0
    → (find_row answer ≡ scan (rows n table) query) × (find_steps answer ≤ degree query + n)
descent_scans n table query answer p e =
    let z : refusal (find_checks n table query) ≡ 0 = sym p.number ∙ e in
    let G : Table = rows n table in (
      answers_unique (janet_disjoint (rows_size n table) (ascending_distinct G (find_ready n table query z).ascends)) query (find_row answer) (scan G query)
          (find_finds n table query answer p z)
          (answers_first Multiplicative G query (scan G query) (scan_finds G query)),
      find_steps_lem n table query answer p z,
    )

pub demand_three : DemandThree
demand_three = record {
  one = λ n table buffer answer after p e. one_divisor n table buffer (complete_rows answer) after (accepted_promise n table buffer answer after p e);
  none = λ n table buffer answer after p e. no_divisor n table buffer (complete_rows answer) after (accepted_promise n table buffer answer after p e);
  found = found_divides;
  descent = descent_scans;
  completed_find = λ n table buffer answer after p e query size finding f.
      let q = accepted_promise n table buffer answer after p e in
      find_answers n table buffer (complete_rows answer) after q query size finding
      (subst (λ (t : List ℕ). FindPromise n t query finding) (written n table buffer (complete_rows answer) after q) f);
  count = λ n table buffer answer after p e s l counting c.
      let q = accepted_promise n table buffer answer after p e in
      count_answers n table buffer (complete_rows answer) after q s l counting
      (subst (λ (t : List ℕ). CountPromise n t s counting) (written n table buffer (complete_rows answer) after q) c);
}
