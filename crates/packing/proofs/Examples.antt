-- The writer by example: the paper's ten bytes, and for each refusal inputs that meet it, also where a later check would refuse too.
use mathlib.Core.Path.{◌≡◌, refl, ap, ◌∙◌}
use mathlib.Core.List.{List, [], ◌∷◌}
use Prim.Native.Nat.{ℕ, ◌≤◌}
use native.Mathlib.Omega.{arith}
use lib.ListN.{length, drop, replicate, drop_of_length-le}
use Rattle.terms.specs.Rows.{first_rows, flat}
use Rattle.std.specs.Prelude.{Result, Ok, Err}
use Rattle.checks.specs.declared.Refusal.{Refusal}
use Rattle.checks.specs.declared.Refusal.TheVariants.{Room}
use Rattle.checks.specs.Refusals.{refusal, answered}
use Rattle.checks.proofs.OutcomeLaws.{same_outcome}
use Rattle.checks.proofs.RefusalLaws.{answered_accepted}
use Rattle.terms.specs.ExampleTables.{bytes_d, bundle_d, bytes_e}
use Rattle.distinct.specs.EqualRows.{same_test, equal_rows_test}
use Rattle.bundle.specs.Format.{counts_of, entries_of, bodies_of, bundle_of}
use Rattle.packing.specs.GivenTables.{total_rows, given_tables, given_bundle}
use Rattle.packing.specs.Operation.{write_checks, written_buffer, WritePromise}

listing_packed : given_bundle 2 (2 ∷ []) bytes_d ≡ bundle_d
unfolding bundle_of counts_of entries_of bodies_of given_tables first_rows flat
listing_packed = refl

-- the number with which inputs are refused, 0 where they are written
unfoldable answer : ℕ → List ℕ → List ℕ → ℕ → ℕ
unfolding refusal total_rows bundle_of counts_of entries_of bodies_of given_tables first_rows flat equal_rows_test same_test
answer n counts tables room = refusal (write_checks n counts tables room)

ten_bytes : answer 2 (2 ∷ []) (2 ∷ 1 ∷ 0 ∷ 2 ∷ []) 10 ≡ 0
unfolding answer
ten_bytes = refl

nine_bytes : answer 2 (2 ∷ []) (2 ∷ 1 ∷ 0 ∷ 2 ∷ []) 9 ≡ 8
unfolding answer
nine_bytes = refl

-- no variables, and no tables too
no_variables : answer 0 [] [] 9 ≡ 1
unfolding answer
no_variables = refl

-- no tables, and bytes that none demands
no_tables : answer 1 [] (0 ∷ []) 9 ≡ 9
unfolding answer
no_tables = refl

-- one byte too few, and 4,097 rows too
short_tables : answer 1 (4097 ∷ []) [] 9 ≡ 2
unfolding answer
short_tables = refl

-- an entry 51, and no room
large_entry : answer 1 (1 ∷ []) (51 ∷ []) 0 ≡ 4
unfolding answer
large_entry = refl

-- rows 7 and 7 in the second table, and no room
equal_rows : answer 1 (1 ∷ 3 ∷ []) (7 ∷ 7 ∷ 0 ∷ 7 ∷ []) 0 ≡ 12
unfolding answer
equal_rows = refl

-- an entry 51, and rows 1 and 1
entry_first : answer 1 (2 ∷ 1 ∷ []) (1 ∷ 1 ∷ 51 ∷ []) 99 ≡ 4
unfolding answer
entry_first = refl

-- the same row in two tables
same_row_twice : answer 1 (1 ∷ 1 ∷ []) (7 ∷ 7 ∷ []) 99 ≡ 0
unfolding answer
same_row_twice = refl

-- 4,097 rows with all their bytes, and an entry 51 among them
many_rows : answer 1 (4097 ∷ []) (replicate {A = ℕ} 4097 51) 9 ≡ 3
unfolding answer
many_rows = refl

-- two tables, the second of one row: its body begins behind the twelve bytes of the first, at 22
two_tables : given_bundle 3 (4 ∷ 1 ∷ []) (1 ∷ 2 ∷ 3 ∷ 4 ∷ 5 ∷ 6 ∷ 7 ∷ 8 ∷ 9 ∷ 10 ∷ 11 ∷ 12 ∷ 0 ∷ 0 ∷ 50 ∷ [])
    ≡ 3 ∷ 2 ∷ 4 ∷ 0 ∷ 10 ∷ 0 ∷ 1 ∷ 0 ∷ 22 ∷ 0 ∷ 1 ∷ 2 ∷ 3 ∷ 4 ∷ 5 ∷ 6 ∷ 7 ∷ 8 ∷ 9 ∷ 10 ∷ 11 ∷ 12 ∷ 0 ∷ 0 ∷ 50 ∷ []
unfolding bundle_of counts_of entries_of bodies_of given_tables first_rows flat
two_tables = refl

-- a place above 255 has its high byte behind its low one: 300 rows of one byte, and the next body at 310 = 54 + 256
far_entry : entries_of 1 10 (300 ∷ 0 ∷ []) ≡ 44 ∷ 1 ∷ 10 ∷ 0 ∷ 0 ∷ 0 ∷ 54 ∷ 1 ∷ []
unfolding entries_of
far_entry = refl

-- ---- the paper's table: ten bytes hold its bundle, nine do not

abbrev number_d : ℕ → ℕ
number_d room = refusal (write_checks 2 (2 ∷ []) bytes_d room)

abbrev length_d : ℕ → ℕ
length_d room = answered (write_checks 2 (2 ∷ []) bytes_d room) (length (given_bundle 2 (2 ∷ []) bytes_d)) 0

ten : (number_d 10 ≡ 0) × (length_d 10 ≡ 10)
unfolding answered total_rows bundle_of counts_of entries_of bodies_of given_tables first_rows flat equal_rows_test same_test
ten = (refl, refl)

nine : (number_d 9 ≡ 8) × (length_d 9 ≡ 0)
unfolding answered total_rows bundle_of counts_of entries_of bodies_of given_tables first_rows flat equal_rows_test same_test
nine = (refl, refl)

pub example_d_written : (buffer : List ℕ) {answer : Result ℕ Refusal} {after : List ℕ} → length buffer ≡ 10
    → WritePromise 2 (2 ∷ []) bytes_d buffer answer after → (answer ≡ Ok 10) × (after ≡ bundle_d)
example_d_written buffer {answer} e p =
    let z : number_d (length buffer) ≡ 0 = ap number_d e ∙ ten.0 in
    let l : length buffer ≤ 10 = omega arith in
    let behind : drop 10 buffer ≡ [] = drop_of_length-le buffer l in (
      same_outcome 0 answer (Ok 10) (p.number ∙ z) (p.size ∙ ap length_d e ∙ ten.1),
      p.writes ∙ answered_accepted (write_checks 2 (2 ∷ []) bytes_d (length buffer)) (written_buffer 2 (2 ∷ []) bytes_d buffer) buffer z
          ∙ rw (listing_packed, behind),
    )

pub example_d_short : (buffer : List ℕ) {answer : Result ℕ Refusal} {after : List ℕ} → length buffer ≡ 9
    → WritePromise 2 (2 ∷ []) bytes_d buffer answer after → answer ≡ Err Room
example_d_short buffer {answer} e p = same_outcome 0 answer (Err Room) (p.number ∙ ap number_d e ∙ nine.0) (p.size ∙ ap length_d e ∙ nine.1)

-- E's rows: 12 whatever the room
pub example_e : (room : ℕ) → refusal (write_checks 2 (2 ∷ []) bytes_e room) ≡ 12
unfolding refusal total_rows given_tables first_rows equal_rows_test same_test
example_e room = refl
