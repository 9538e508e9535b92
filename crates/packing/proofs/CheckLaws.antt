-- Laws of the writer's checks.
--
--   Shaped, shaped, shaped_accepts, accepts_shape   what is known of inputs that pass 1, 9, 2 and 3, and that this is enough to pass them
--   shaped_size            their bytes are at most 16 times 4,096 rows of 6
--   shape_one, shape_nine, shape_two, shape_three, shape_passes   the first of these checks that refuses, and that none does
--   write_four, write_twelve, write_eight, write_passes   what 4, 12 and 8 decide behind them. The size that the code adds up is the bundle's length
--   Writable, writable, writable_passes   what is known of inputs that the writer accepts, and that this is enough
--   accepted_six, accepted_sixteen, accepted_fits, accepted_short   of these the facts that the writer needs, one by one
use mathlib.Core.Path.{◌≡◌, refl, sym, ◌∙◌}
use mathlib.Core.Bool.{true, false}
use mathlib.Core.List.{List, [], ◌∷◌, Memᴰ}
use mathlib.Core.Logic.{inl, inr, ⊎_elim}
use Prim.Native.Nat.{ℕ, ◌+◌, ◌*◌, ◌≤◌, ◌<◌}
use native.Mathlib.Nat.{mul-le-mul}
use native.Mathlib.Omega.{arith}
use lib.Dec.{ltb, lit<}
use lib.ListN.{length}
use Rattle.checks.specs.Tests.{any}
use Rattle.checks.specs.Refusals.{refusal, Accepts, check}
use Rattle.checks.proofs.TestLaws.{stable, true_tests, false_tests, tests_false, tests_le, tests_lt, tests_eq, tests_and}
use Rattle.checks.proofs.RefusalLaws.{accepted, accepts_nil, accepts_cons, accepts_head, accepts_tail, accepts_left, accepts_right, accepts_refusal}
use Rattle.checks.proofs.RefusalLaws.{refusal_holds, refusal_passes, refusal_none, passes_first}
use Rattle.terms.specs.TableChecks.{NotOneToSix, EntryAbove50, tests_not_one_to_six, tests_entry_above50}
use Rattle.terms.specs.Monomials.{Table, Distinct}
use Rattle.distinct.specs.EqualRows.{equal_rows_test}
use Rattle.packing.specs.GivenTables.{total_rows, given_tables, given_bundle}
use Rattle.packing.specs.Operation.{NotOneToSixteen, WrongLength, CountAbove4096, NoRoom, tests_not_one_to_sixteen, tests_wrong_length}
use Rattle.packing.specs.Operation.{tests_count_above4096, GivenEqualRows, tests_given_equal_rows, shape_checks, content_checks, write_checks}
use Rattle.packing.proofs.GivenLaws.{length_given_bundle}

-- ---- 1, 9, 2, 3

pub record Shaped (n : ℕ) (counts tables : List ℕ) : Type 0 where
  pub some_variables : 0 < n
  pub six : n ≤ 6
  pub some_tables : 0 < length counts
  pub sixteen : length counts ≤ 16
  pub whole : length tables ≡ total_rows counts * n
  pub limited : (c : ℕ) → Memᴰ c counts → c ≤ 4096

-- each table has at most 4,096 rows
total_most : (counts : List ℕ) → ((c : ℕ) → Memᴰ c counts → c ≤ 4096) → total_rows counts ≤ length counts * 4096
unfolding total_rows
total_most [] f = omega arith
total_most (c ∷ counts) f = omega (arith, f c (Memᴰ.head refl), total_most counts (λ x m. f x (Memᴰ.tail m)))

pub shaped_size : {n : ℕ} {counts tables : List ℕ} → Shaped n counts tables → length tables ≤ 16 * 4096 * 6
shaped_size {n} {counts} s =
    let t : total_rows counts ≤ 16 * 4096 = omega (arith, total_most counts s.limited, s.sixteen) in
    let m : total_rows counts * n ≤ 16 * 4096 * 6 = mul-le-mul t s.six in
    omega (arith, s.whole)

module _ (n : ℕ) (counts tables : List ℕ) where
  pub shaped_accepts : Accepts (shape_checks n counts tables) → Shaped n counts tables
  shaped_accepts from1 =
      let from9 = accepts_tail _ _ from1 in
      let from2 = accepts_tail _ _ from9 in
      let from3 = accepts_tail _ _ from2 in
      let variables = stable (tests_and (tests_lt 0 n) (λ p. tests_le n 6)) (accepts_head _ _ from1) in
      let number = stable (tests_and (tests_lt 0 (length counts)) (λ p. tests_le (length counts) 16)) (accepts_head _ _ from9) in
      record {
        some_variables = variables.0;
        six = variables.1;
        some_tables = number.0;
        sixteen = number.1;
        whole = stable (tests_eq (length tables) (total_rows counts * n)) (accepts_head _ _ from2);
        limited = λ c m. stable (tests_le c 4096) (λ g. accepts_head _ _ from3 (c, m, omega (arith, g)));
      }

  pub shaped : refusal (shape_checks n counts tables) ≡ 0 → Shaped n counts tables
  shaped e = shaped_accepts (accepted (shape_checks n counts tables) e)

  pub accepts_shape : Shaped n counts tables → Accepts (shape_checks n counts tables)
  accepts_shape s =
      accepts_cons (check 1 (lit< tt) (tests_not_one_to_six n)) _ (λ h. h (s.some_variables, s.six))
      (accepts_cons (check 9 (lit< tt) (tests_not_one_to_sixteen counts)) _ (λ h. h (s.some_tables, s.sixteen))
      (accepts_cons (check 2 (lit< tt) (tests_wrong_length n counts tables)) _ (λ h. h s.whole)
      (accepts_cons (check 3 (lit< tt) (tests_count_above4096 counts)) _ (λ h. omega (arith, h.2, s.limited h.0 h.1)) accepts_nil)))

  -- the first that refuses
  pub shape_one : NotOneToSix n → 1 ≡ refusal (shape_checks n counts tables)
  shape_one h = sym (refusal_holds _ _ h)

  module _ (p : 0 < n) (q : n ≤ 6) where
    not_one : NotOneToSix n → ⊥
    not_one h = h (p, q)

    pub shape_nine : NotOneToSixteen counts → 9 ≡ refusal (shape_checks n counts tables)
    shape_nine h = sym (refusal_passes _ _ not_one ∙ refusal_holds _ _ h)

    module _ (r : 0 < length counts) (s : length counts ≤ 16) where
      not_nine : NotOneToSixteen counts → ⊥
      not_nine h = h (r, s)

      pub shape_two : WrongLength n counts tables → 2 ≡ refusal (shape_checks n counts tables)
      shape_two h = sym (refusal_passes _ _ not_one ∙ refusal_passes _ _ not_nine ∙ refusal_holds _ _ h)

      module _ (w : length tables ≡ total_rows counts * n) where
        not_two : WrongLength n counts tables → ⊥
        not_two h = h w

        pub shape_three : any (λ c. ltb 4096 c) counts ≡ true → 3 ≡ refusal (shape_checks n counts tables)
        shape_three e =
            let h : CountAbove4096 counts = true_tests (tests_count_above4096 counts) e in
            sym (refusal_passes _ _ not_one ∙ refusal_passes _ _ not_nine ∙ refusal_passes _ _ not_two ∙ refusal_holds _ _ h)

        pub shape_passes : any (λ c. ltb 4096 c) counts ≡ false → 0 ≡ refusal (shape_checks n counts tables)
        shape_passes e =
            let none : CountAbove4096 counts → ⊥ = false_tests (tests_count_above4096 counts) e in
            sym (refusal_passes _ _ not_one ∙ refusal_passes _ _ not_nine ∙ refusal_passes _ _ not_two ∙ refusal_passes _ _ none ∙ refusal_none)

-- ---- 4, 12 and 8

module _ (n : ℕ) (counts tables : List ℕ) (room : ℕ) (e : refusal (shape_checks n counts tables) ≡ 0) where
  pub write_four : any (λ x. ltb 50 x) tables ≡ true → 4 ≡ refusal (write_checks n counts tables room)
  write_four t =
      let h : EntryAbove50 tables = true_tests (tests_entry_above50 tables) t in
      passes_first (shape_checks n counts tables) (content_checks n counts tables room) 4 e (sym (refusal_holds _ _ h))

  module _ (f : any (λ x. ltb 50 x) tables ≡ false) where
    small : EntryAbove50 tables → ⊥
    small = false_tests (tests_entry_above50 tables) f

    pub write_twelve : any equal_rows_test (given_tables n counts tables) ≡ true → 12 ≡ refusal (write_checks n counts tables room)
    write_twelve t =
        let h : GivenEqualRows n counts tables = true_tests (tests_given_equal_rows n counts tables) t in
        passes_first (shape_checks n counts tables) (content_checks n counts tables room) 12 e (sym (refusal_passes _ _ small ∙ refusal_holds _ _ h))

    module _ (g : any equal_rows_test (given_tables n counts tables) ≡ false) where
      distinct : GivenEqualRows n counts tables → ⊥
      distinct = false_tests (tests_given_equal_rows n counts tables) g

      size : length (given_bundle n counts tables) ≡ 2 + 4 * length counts + length tables
      size = length_given_bundle n counts tables (shaped n counts tables e).whole

      pub write_eight : NoRoom (2 + 4 * length counts + length tables) room → 8 ≡ refusal (write_checks n counts tables room)
      write_eight h =
          let h' : NoRoom (length (given_bundle n counts tables)) room = rw size h in
          passes_first (shape_checks n counts tables) (content_checks n counts tables room) 8 e
          (sym (refusal_passes _ _ small ∙ refusal_passes _ _ distinct ∙ refusal_holds _ _ h'))

      pub write_passes : 2 + 4 * length counts + length tables ≤ room → 2 + 4 * length counts + length tables ≤ 65535
          → 0 ≡ refusal (write_checks n counts tables room)
      write_passes a b =
          let none : NoRoom (length (given_bundle n counts tables)) room → ⊥ = λ h. ⊎_elim (λ x. omega (arith, size)) (λ x. omega (arith, size)) h in
          passes_first (shape_checks n counts tables) (content_checks n counts tables room) 0 e
          (sym (refusal_passes _ _ small ∙ refusal_passes _ _ distinct ∙ refusal_passes _ _ none ∙ refusal_none))

-- ---- all of them

pub record Writable (n : ℕ) (counts tables : List ℕ) (room : ℕ) : Type 0 where
  pub shape : Shaped n counts tables
  pub small : EntryAbove50 tables → ⊥
  pub distinct : (G : Table) → Memᴰ G (given_tables n counts tables) → Distinct G
  pub fits : length (given_bundle n counts tables) ≤ room
  pub short : length (given_bundle n counts tables) ≤ 65535

pub writable : (n : ℕ) (counts tables : List ℕ) (room : ℕ) → refusal (write_checks n counts tables room) ≡ 0 → Writable n counts tables room
writable n counts tables room e =
    let all = accepted (write_checks n counts tables room) e in
    let from4 = accepts_right (shape_checks n counts tables) (content_checks n counts tables room) all in
    let from12 = accepts_tail _ _ from4 in
    let from8 = accepts_tail _ _ from12 in
    let size = length (given_bundle n counts tables) in
    record {
      shape = shaped_accepts n counts tables (accepts_left (shape_checks n counts tables) (content_checks n counts tables room) all);
      small = accepts_head _ _ from4;
      distinct = λ G m r. accepts_head _ _ from12 (G, m, r);
      fits = stable (tests_le size room) (λ g. accepts_head _ _ from8 (inl (omega (arith, g))));
      short = stable (tests_le size 65535) (λ g. accepts_head _ _ from8 (inr (omega (arith, g))));
    }

-- the facts that the writer needs, one by one
module _ (n : ℕ) (counts tables : List ℕ) (room : ℕ) (e : refusal (write_checks n counts tables room) ≡ 0) where
  accepted_shape : Shaped n counts tables
  accepted_shape = (writable n counts tables room e).shape

  accepted_size : length (given_bundle n counts tables) ≡ 2 + 4 * length counts + length tables
  accepted_size = length_given_bundle n counts tables accepted_shape.whole

  pub accepted_six : n ≤ 6
  accepted_six = accepted_shape.six

  pub accepted_sixteen : length counts ≤ 16
  accepted_sixteen = accepted_shape.sixteen

  pub accepted_fits : 2 + 4 * length counts + length tables ≤ room
  accepted_fits = omega (arith, accepted_size, (writable n counts tables room e).fits)

  pub accepted_short : 2 + 4 * length counts + length tables ≤ 65535
  accepted_short = omega (arith, accepted_size, (writable n counts tables room e).short)

pub ruleset accepting = (accepted_six, accepted_sixteen, accepted_fits, accepted_short)

pub writable_passes : (n : ℕ) (counts tables : List ℕ) (room : ℕ) → Writable n counts tables room → refusal (write_checks n counts tables room) ≡ 0
writable_passes n counts tables room w =
    let s = accepts_refusal (shape_checks n counts tables) (accepts_shape n counts tables w.shape) in
    let none = tests_false (tests_entry_above50 tables) w.small in
    let apart = tests_false (tests_given_equal_rows n counts tables) (λ r. w.distinct r.0 r.1 r.2) in
    let l = length_given_bundle n counts tables w.shape.whole in
    sym (write_passes n counts tables room s (sym none) (sym apart) (omega (arith, w.fits)) (omega (arith, w.short)))
