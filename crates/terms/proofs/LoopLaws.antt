-- What the loops and the returns of the code need, over plain lists and numbers.
--
--   fails_at, never_fails     the two answers of `first_failure`
--   differs_at, never_differs   two rows that differ at a variable, and that do not
--   degree_next               the degree from a place on, and from the next
--   largest_none, -next, -whole   the largest of the entries so far
--   stretch_large, stretch_small   what the largest entry of a stretch says of the stretch
--   any_stops, any_goes_on   a search for an entry, stretch by stretch
--   byte_within, byte_past   the bytes of a row
--   row_of_six   a row that is read from six bytes
--   breaks                    the turn of `ascends` that ends it
--   refused_1 .. refused_4, passed     the answers of `check`
use mathlib.Core.Path.{◌≡◌, refl, sym, ◌∙◌, subst}
use mathlib.Core.Bool.{Bool, true, false, ◌||◌}
use mathlib.Core.List.Memᴰ
use mathlib.Core.List.{List, [], ◌∷◌, ◌++◌}
use mathlib.Core.Logic.{inl, inr, ⊎_elim, by_cases}
use Prim.Native.Nat.{ℕ, suc, max, ◌+◌, ◌/◌, ◌%◌, ◌≤◌, ◌<◌}
use native.Mathlib.Nat.{le_of_suc-le-suc, max-eq_left, max-eq_right}
use native.Mathlib.Numerals.{add-one}
use native.Mathlib.Decide.{dec_le}
use native.Mathlib.Omega.{arith}
use lib.Dec.{T, ltb, lit<}
use lib.ListN.{length, take, drop, get_or, length-drop, drop_of_length-le}
use lib.Seq.{take-suc, take_all, get_or-drop, drop-cons, length-take-le, get_or-take}
use Rattle.checks.specs.Tests.{any}
use Rattle.checks.proofs.TestLaws.{tests_true, tests_false, tests_lt, tests_any}
use Rattle.terms.specs.Monomials.{Monomial, Table, ◌!◌, row_at, degree, LargestOf}
use Rattle.terms.specs.Ideal.{Divides, FailsFirstAt}
use Rattle.terms.specs.Order.{Precedes, precedes_test, ascending_test}
use Rattle.terms.specs.Rows.{padded, as_row}
use Rattle.checks.specs.Refusals.{Check, refusal, check}
use Rattle.terms.specs.TableChecks.{NotOneToSix, no_multiple, quotient, table_checks, tests_not_one_to_six, tests_no_multiple, tests_too_many_rows}
use Rattle.terms.specs.TableChecks.{tests_entry_above50}
use Rattle.terms.proofs.MonomialLaws.{beyond, same_all}
use Rattle.terms.proofs.OrderLaws.{precedes_irreflexive, precedes_trans, tests_precedes, tests_ascending}
use Rattle.terms.proofs.RowsLaws.{length_rows}
use Rattle.checks.proofs.RefusalLaws.{refusal_none, refusal_holds, refusal_passes}

-- ---- first_failure

pub fails_at : (u q : Monomial) (i : ℕ) → ((j : ℕ) → j ≤ i → u ! j ≤ q ! j) → q ! suc i < u ! suc i → FailsFirstAt u q (i + 1)
fails_at u q i b h = rw add-one (record { exceeds = h; first = λ j l. b j (le_of_suc-le-suc l) })

pub never_fails : (u q : Monomial) (n : ℕ) → length u ≤ n → ((j : ℕ) → j ≤ n → u ! j ≤ q ! j) → Divides u q
never_fails u q n s b i = by_cases (dec_le i n) (b i) (λ g. omega (arith, beyond u i (omega arith)))

-- ---- precedes_next

pub differs_at : (u v : Monomial) (i : ℕ) → ((j : ℕ) → j ≤ i → u ! j ≡ v ! j) → u ! suc i < v ! suc i → Precedes u v
differs_at u v i b h = record { at = suc i; same = λ j l. b j (le_of_suc-le-suc l); less = h }

pub never_differs : (u v : Monomial) (n : ℕ) → length u ≡ n → length v ≡ n → ((j : ℕ) → j ≤ n → u ! j ≡ v ! j) → u ≡ v
never_differs u v n e f b = same_all u v (e ∙ sym f) (λ i. by_cases (dec_le i n) (b i)
    (λ g. beyond u i (omega arith) ∙ sym (beyond v i (omega arith))))

-- where v is smaller at the first difference, or there is none, u does not precede v
pub not_before : (u v : Monomial) (i : ℕ) → ((j : ℕ) → j ≤ i → u ! j ≡ v ! j) → v ! suc i < u ! suc i → Precedes u v → ⊥
not_before u v i b h p = precedes_irreflexive u (precedes_trans p (differs_at v u i (λ j l. sym (b j l)) h))

pub not_before_equal : (u v : Monomial) → u ≡ v → Precedes u v → ⊥
not_before_equal u v e p = precedes_irreflexive u (subst (λ (w : Monomial). Precedes u w) (sym e) p)

-- ---- degree_of

pub degree_next : (u : Monomial) (i : ℕ) → i < length u → degree (drop i u) ≡ get_or u i 0 + degree (drop (i + 1) u)
unfolding degree
degree_next u i h = rw (drop-cons u i 0 h, add-one)

pub degree_none : (u : Monomial) (i : ℕ) → length u ≤ i → degree (drop i u) ≡ 0
unfolding degree
degree_none u i h = rw (drop_of_length-le u h)

-- ---- largest_of, has_large_entry

pub largest_none : LargestOf [] 0
largest_none = record { bound = λ e m. absurd (Memᴰ.not-nil m); reached = inl refl }

module _ (l : List ℕ) (i a : ℕ) (h : i < length l) (g : LargestOf (take i l) a) where
  one_more : take (i + 1) l ≡ take i l ++ (get_or l i 0 ∷ [])
  one_more = rw add-one (take-suc l i 0 h)

  -- the entry at hand is above all before it, or it is not
  pub largest_next : LargestOf (take (i + 1) l) (max a (get_or l i 0))
  largest_next = rw one_more (by_cases (dec_le (get_or l i 0) a)
      (λ o. rw (max-eq_left o) (record {
        bound = λ e m. ⊎_elim (g.bound e) (λ k. omega (arith, Memᴰ.eq_of_singleton k)) (Memᴰ.append_cases (take i l) m);
        reached = ⊎_elim inl (λ k. inr (Memᴰ.append_left (get_or l i 0 ∷ []) k)) g.reached;
      }))
      (λ o.
      let larger : a ≤ get_or l i 0 = omega (arith, o) in
      rw (max-eq_right larger) (record {
        bound = λ e m. ⊎_elim (λ k. omega (arith, o, g.bound e k)) (λ k. omega (arith, Memᴰ.eq_of_singleton k)) (Memᴰ.append_cases (take i l) m);
        reached = inr (Memᴰ.append_right (take i l) (Memᴰ.head refl));
      })))

pub largest_whole : (l : List ℕ) (i a : ℕ) → length l ≤ i → LargestOf (take i l) a → LargestOf l a
largest_whole l i a h g = rw (take_all i l h) at g

-- an entry of a stretch is above b exactly where its largest is
module _ (b : ℕ) (l : List ℕ) (r : ℕ) (g : LargestOf l r) where
  pub stretch_large : b < r → true ≡ any (λ e. ltb b e) l
  stretch_large h = tests_true (tests_any l (λ (e : ℕ) m. tests_lt b e)) (⊎_elim (λ z. absurd (omega arith)) (λ m. (r, m, h)) g.reached)

  pub stretch_small : r ≤ b → false ≡ any (λ e. ltb b e) l
  stretch_small h = tests_false (tests_any l (λ (e : ℕ) m. tests_lt b e)) (λ s. omega (arith, s.2, g.bound s.0 s.1))

any_append : (f : ℕ → Bool) (l m : List ℕ) → any f (l ++ m) ≡ any f l || any f m
any_append f [] m = refl
any_append f (x ∷ l) m = go (f x) (any_append f l m)
  where
    go : (c : Bool) → any f (l ++ m) ≡ any f l || any f m → c || any f (l ++ m) ≡ (c || any f l) || any f m
    go true e = refl
    go false e = e

-- a search goes stretch by stretch: it stops in this one, or goes on in the rest
module _ (f : ℕ → Bool) (all stretch rest : List ℕ) (parts : all ≡ stretch ++ rest) where
  pub any_stops : true ≡ any f stretch → true ≡ any f all
  any_stops e = rw (parts, any_append f stretch rest, ← e) refl

  pub any_goes_on : false ≡ any f stretch → any f all ≡ any f rest
  any_goes_on e = rw (parts, any_append f stretch rest, ← e) refl

-- ---- of_bytes

pub byte_within : (n base place : ℕ) (t : List ℕ) → place < n → get_or t (base + place) 0 ≡ take n (drop base t) ! suc place
byte_within n base place t h = sym (get_or-take n (drop base t) place 0 h ∙ get_or-drop base t place 0)

pub byte_past : (n base place : ℕ) (t : List ℕ) → n ≤ place → base + n ≤ length t → 0 ≡ take n (drop base t) ! suc place
byte_past n base place t h l = sym (beyond (take n (drop base t)) (suc place) (omega (arith, length-take-le n (drop base t) (rw length-drop (omega arith)))))

-- a row of at most six exponents, exponent by exponent
padded_six : (u : Monomial) → length u ≤ 6 → padded u ≡ u ! 1 ∷ u ! 2 ∷ u ! 3 ∷ u ! 4 ∷ u ! 5 ∷ u ! 6 ∷ []
unfolding padded
padded_six [] h = refl
padded_six (a ∷ []) h = refl
padded_six (a ∷ b ∷ []) h = refl
padded_six (a ∷ b ∷ c ∷ []) h = refl
padded_six (a ∷ b ∷ c ∷ d ∷ []) h = refl
padded_six (a ∷ b ∷ c ∷ d ∷ e ∷ []) h = refl
padded_six (a ∷ b ∷ c ∷ d ∷ e ∷ f ∷ []) h = refl
padded_six (a ∷ b ∷ c ∷ d ∷ e ∷ f ∷ g ∷ u) h = absurd (omega arith)

-- so the bytes that were read, one for each of six places, are the row
pub row_of_six : (u : Monomial) → length u ≤ 6 → {a b c d e f : ℕ} → a ≡ u ! 1 → b ≡ u ! 2 → c ≡ u ! 3 → d ≡ u ! 4 → e ≡ u ! 5 → f ≡ u ! 6
    → record { exponents = a ∷ b ∷ c ∷ d ∷ e ∷ f ∷ []; n = length u } ≡ as_row (length u) u
unfolding as_row
row_of_six u l h p q r s x = rw (h, p, q, r, s, x, padded_six u l) refl

-- ---- ascends

pub breaks : (G : Table) (r : ℕ) → suc r < length G → false ≡ precedes_test (row_at G r) (row_at G (suc r)) → false ≡ ascending_test G
breaks G r l e = tests_false (tests_ascending G) (λ a. absurd (subst T (sym e) ((tests_precedes (row_at G r) (row_at G (suc r))).complete (a r l))))

-- ---- check

module _ (n : ℕ) (t : List ℕ) where
  abbrev later2 : List Check
  later2 = check 2 (lit< tt) (tests_no_multiple n t) ∷ check 3 (lit< tt) (tests_too_many_rows n t) ∷ check 4 (lit< tt) (tests_entry_above50 t) ∷ []

  abbrev later3 : List Check
  later3 = check 3 (lit< tt) (tests_too_many_rows n t) ∷ check 4 (lit< tt) (tests_entry_above50 t) ∷ []

  abbrev later4 : List Check
  later4 = check 4 (lit< tt) (tests_entry_above50 t) ∷ []

  pub refused_1 : NotOneToSix n → 1 ≡ refusal (table_checks n t)
  refused_1 h = sym (refusal_holds (check 1 (lit< tt) (tests_not_one_to_six n)) later2 h)

  module _ (p : 0 < n) (l : n ≤ 6) where
    passed_1 : refusal (table_checks n t) ≡ refusal later2
    passed_1 = refusal_passes (check 1 (lit< tt) (tests_not_one_to_six n)) later2 (λ f. f (p, l))

    pub refused_2 : (length t % n ≡ 0 → ⊥) → 2 ≡ refusal (table_checks n t)
    refused_2 h = sym (passed_1 ∙ refusal_holds (check 2 (lit< tt) (tests_no_multiple n t)) later3 (no_multiple n t h))

    module _ (m : length t % n ≡ 0) where
      -- the length is a multiple of n, so it is not none
      passed_2 : refusal (table_checks n t) ≡ refusal later3
      passed_2 = passed_1 ∙ refusal_passes (check 2 (lit< tt) (tests_no_multiple n t)) later3
          (λ f. f (length t / n) (quotient n t m))

      pub refused_3 : 4096 < length t / n → 3 ≡ refusal (table_checks n t)
      refused_3 h = sym (passed_2 ∙ refusal_holds (check 3 (lit< tt) (tests_too_many_rows n t)) later4 (rw (length_rows n t) h))

      module _ (limited : length t / n ≤ 4096) where
        passed_3 : refusal (table_checks n t) ≡ refusal later4
        passed_3 = passed_2 ∙ refusal_passes (check 3 (lit< tt) (tests_too_many_rows n t)) later4 (λ h. omega (arith, length_rows n t, h))

        pub refused_4 : true ≡ any (λ e. ltb 50 e) t → 4 ≡ refusal (table_checks n t)
        refused_4 h = sym (passed_3 ∙ refusal_holds (check 4 (lit< tt) (tests_entry_above50 t)) [] ((tests_entry_above50 t).sound (subst T h tt)))

        pub passed : false ≡ any (λ e. ltb 50 e) t → 0 ≡ refusal (table_checks n t)
        passed h = sym (passed_3
            ∙ refusal_passes (check 4 (lit< tt) (tests_entry_above50 t)) [] (λ x. subst T (sym h) ((tests_entry_above50 t).complete x))
            ∙ refusal_none)
