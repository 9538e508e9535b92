-- The operation: from a table of bytes to the recursion, and from its rows to the promise.
--
--   collect_roomy, copied_fits, links_fit   the working arrays are large enough
--   collected              the recursion on the whole table gives rule 5's table
--   checked                what the checks let pass
--   room_fits_array, lent_length, collected_fits   the part of the array that is lent, and that what was collected fits
--   complete_early, complete_full, complete_done   the promise: refused by the checks 1 to 4 and 12, refused for room, accepted
use mathlib.Core.Path.{◌≡◌, sym, ap, ◌∙◌}
use mathlib.Core.List.{List, [], ◌∷◌}
use Prim.Native.Nat.{ℕ, zero, suc, min, ◌+◌, ◌*◌, ◌-◌, ◌/◌, ◌≤◌, ◌<◌}
use native.Mathlib.Nat.{mul-div_left, mul-le-mul_left, le_trans, lt_of_not-le, min-le_right}
use native.Mathlib.Omega.{arith}
use lib.ListN.{length, take, drop, replicate, length-append, length-replicate}
use lib.Seq.{length-take-le, take-append-le}
use Rattle.std.proofs.Common.{Option, Some, None, Ok, Err, ◌++◌}
use Rattle.std.proofs.lemmas.Option.{IfSome_then}
use Rattle.terms.specs.Monomials.{Table}
use Rattle.terms.specs.Rows.{first_rows, rows}
use Rattle.checks.specs.Refusals.{Accepts, refusal}
use Rattle.terms.specs.TableChecks.{TableAccepted}
use Rattle.distinct.specs.EqualRows.{distinct_checks}
use Rattle.terms.proofs.RowsLaws.{rows_size}
use Rattle.checks.proofs.RefusalLaws.{accepted}
use Rattle.distinct.proofs.CheckLaws.{distinct_table}
use Rattle.completion.specs.Slices.{slices}
use Rattle.blocks.specs.Bytes.{after, fit}
use Rattle.completing.specs.Operation.{room_for, completed_of, room_check, complete_checks, completed_buffer, CompletePromise}
use Rattle.checks.specs.declared.Refusal.{Refusal}
use Rattle.checks.specs.declared.Refusal.TheVariants.{Room}
use Rattle.checks.specs.Outcomes.{number}
use Rattle.checks.proofs.OutcomeLaws.{refused_on}
use Rattle.slicing.specs.Walk.{space, Appended, Roomy}
use Rattle.completing.specs.Collect.{Collected}
use Rattle.completion.proofs.WalkLaws.{slices_completed}
use Rattle.blocks.proofs.BufferLaws.{after_none, beyond_fit, within_fit}
use Rattle.completing.proofs.OperationLaws.{complete_accepts, complete_refuses, room_fits, room_holds, room_enough, no_room, room_limited}
use Rattle.blocks.proofs.ByteLaws.{rows_fewer}
use Rattle.blocks.proofs.RowLaws.{same_rows}

space_most : (n : ℕ) → n ≤ 6 → space n ≤ 21
unfolding space
space_most zero h = omega arith
space_most (suc zero) h = omega arith
space_most (suc (suc zero)) h = omega arith
space_most (suc (suc (suc zero))) h = omega arith
space_most (suc (suc (suc (suc zero)))) h = omega arith
space_most (suc (suc (suc (suc (suc zero))))) h = omega arith
space_most (suc (suc (suc (suc (suc (suc zero)))))) h = omega arith
space_most (suc (suc (suc (suc (suc (suc (suc n))))))) h = absurd (omega arith)

module _ {n : ℕ} {table : List ℕ} (t : TableAccepted n table) where
  abbrev count : ℕ
  count = length (rows n table)

  whole : suc (n - 1) ≡ n
  whole = omega (arith, t.some)

  pub collect_roomy : (work out : List ℕ) → count * 21 ≤ length work → Roomy n (n - 1) count work out 0
  collect_roomy work out l =
      let f : count * space n ≤ count * 21 = mul-le-mul_left count (space_most n t.six) in
      let e : count * space (suc (n - 1)) ≡ count * space n = ap (λ (x : ℕ). count * space x) whole in
      record {
        variables = omega (arith, whole);
        six = t.six;
        wide = omega arith;
        limited = t.limited;
        starts = omega arith;
      }

  -- the table fits where its rows and their tails do
  pub copied_fits : (size : ℕ) → count * 21 ≤ size → length table ≤ size
  copied_fits size l =
      let f : count * n ≤ count * 21 = mul-le-mul_left count (omega (arith, t.six)) in
      omega (arith, t.whole)

  -- the chains at all variables but the last fit
  pub links_fit : (size : ℕ) → count * 5 ≤ size → count * (n - 1) ≤ size
  links_fit size l =
      let f : count * (n - 1) ≤ count * 5 = mul-le-mul_left count (omega (arith, t.six)) in
      omega arith

  table_rows : rows n table ≡ first_rows n count table
  unfolding rows
  table_rows = ap (λ (x : ℕ). first_rows n x table) (ap (λ (x : ℕ). x / n) t.whole ∙ mul-div_left count t.some)

  pub collected : (behind : List ℕ) {head out work' out' : List ℕ} {r : Option ℕ} → Appended n (n - 1) count head (table ++ behind) out 0 r work' out' →
      Collected n table out r out'
  collected behind {out = out} {r = r} A =
      let work : List ℕ = table ++ behind in
      let front : take (count * n) work ≡ take (count * n) table = take-append-le (count * n) table behind (omega (arith, t.whole)) in
      let same : first_rows (suc (n - 1)) count work ≡ rows n table =
      ap (λ (x : ℕ). first_rows x count work) whole
      ∙ same_rows n count work table (omega (arith, t.whole, length-append table behind)) (omega (arith, t.whole)) front ∙ sym table_rows in
      let done : slices (suc (n - 1)) (first_rows (suc (n - 1)) count work) ≡ completed_of n table =
      ap (λ (G : Table). slices (suc (n - 1)) G) same ∙ ap (λ (x : ℕ). slices x (rows n table)) whole ∙ slices_completed n (rows n table) (rows_size n table) in
      let none : n - suc (n - 1) ≡ 0 = omega (arith, whole) in
      let zero-rows : 0 * n ≡ 0 = omega arith in
      record {
        end = A.end ∙ ap (λ (G : Table). fit n (length out) (0 + length G)) done
            ∙ ap (λ (x : ℕ). fit n (length out) x) (zero_plus (length (completed_of n table)));
        written = IfSome_then r A.written (λ e w. w ∙ rw (zero-rows, none, done, after_none (completed_of n table)));
      }
    where
      zero_plus : (x : ℕ) → 0 + x ≡ x
      zero_plus x = omega arith

-- ---- the promise

module _ (n : ℕ) (table buffer : List ℕ) where
  -- the checks 1 to 4 and 12 refuse
  pub complete_early : (e : Refusal) → number e ≡ refusal (distinct_checks n table) → CompletePromise n table buffer (Err e) buffer
  complete_early e m = complete_refuses n table buffer e (refused_on (distinct_checks n table) (room_check n table (length buffer) ∷ []) e m)

  module _ (e : refusal (distinct_checks n table) ≡ 0) where
    accepts : Accepts (distinct_checks n table)
    accepts = accepted (distinct_checks n table) e

    pub checked : TableAccepted n table
    checked = distinct_table n table e

    -- the part of the array that is lent for the rows: as many bytes as the buffer has, at most those of 4,096 rows
    module _ {room : ℕ} (r : room ≡ min (length buffer) (4096 * n)) where
      abbrev lent : List ℕ
      lent = take room (replicate {A = ℕ} (4096 * 6) 0)

      pub room_fits_array : room ≤ 4096 * 6
      room_fits_array = omega (arith, r, checked.six, min-le_right (length buffer) (4096 * n))

      pub lent_length : room ≡ length lent
      lent_length = sym (length-take-le room (replicate {A = ℕ} (4096 * 6) 0) (rw length-replicate room_fits_array))

      module _ {out : List ℕ} where
        pub complete_full : Collected n table lent None out → CompletePromise n table buffer (Err Room) buffer
        complete_full c =
            let H : Table = completed_of n table in
            let b : length lent < length H * n = beyond_fit n (length lent) (length H) c.end in
            let beyond : room_for n (length buffer) < length H = lt_of_not-le (λ within.
            let f = room_fits n (length buffer) (length H) within in
            let g = rows_fewer (length H) 4096 n (le_trans within (room_limited n (length buffer))) in
            omega (arith, lent_length)) in
            complete_refuses n table buffer Room (sym (no_room n table (length buffer) accepts beyond))

        -- the rows that were collected fit the buffer and what was lent
        pub collected_fits : {k : ℕ} → Collected n table lent (Some k) out → (k * n ≤ length buffer) × (k * n ≤ length lent)
        collected_fits {k} c =
            let within = within_fit n (length lent) (length (completed_of n table)) k c.end in
            let fits : k * n ≤ length lent = rw (← within.0) at within.1 in
            (omega (arith, lent_length), fits)

        pub complete_done : {end : ℕ} (after : List ℕ) → Collected n table lent (Some end) out → after ≡ take (end * n) out ++ drop (end * n) buffer →
            CompletePromise n table buffer (Ok end) after
        complete_done {end} after c e =
            let H : Table = completed_of n table in
            let fits = within_fit n (length lent) (length H) end c.end in
            let enough = room_holds n (length buffer) (length H) checked.some (omega (arith, lent_length)) in
            let g : refusal (complete_checks n table (length buffer)) ≡ 0 = room_enough n table (length buffer) accepts enough in
            let f : after ≡ completed_buffer n table buffer = e ∙ rw (c.written, fits.0) in
            rw (fits.0, f) (complete_accepts n table buffer g)
