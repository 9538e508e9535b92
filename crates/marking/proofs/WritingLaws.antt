-- Marks written into a buffer, row after row, from the last in ascending order to the first.
--
--   Written                a buffer in which the rows from a place on are marked
--   written_last, written_step, written_all    the turns of `mark_rows`
--   none_marked            without rows nothing is written
use mathlib.Core.Path.{◌≡◌, refl, sym, ap, ◌∙◌, subst}
use mathlib.Core.List.{List, [], ◌∷◌}
use mathlib.Core.Logic.{by_cases}
use Prim.Native.Nat.{ℕ, suc, ◌+◌, ◌-◌, ◌≤◌, ◌<◌}
use native.Mathlib.Decide.{dec_le, dec_lt, ℕ_discrete}
use native.Mathlib.Omega.{arith}
use lib.ListN.{length, drop, get_or, set, length-set, length-append, length-drop}
use lib.Seq.{get_or-set_same, get_or-set_other, get_or-append-add, get_or-drop, ext_get_or}
use Rattle.terms.specs.Monomials.{Table, row_at}
use Rattle.division.specs.Janet.{marks_of, table_marks}
use Rattle.division.proofs.MarkByteLaws.{front_marks, length_table_marks}
use Rattle.marking.specs.InOrder.{InOrder}
use Rattle.marking.specs.Operation.{marked}

-- the rows from place k on have their marks, and the bytes behind the rows are those before
pub record Written (n : ℕ) (G : Table) (number : ℕ → ℕ) (before : List ℕ) (k : ℕ) (buffer : List ℕ) : Type 0 where
  pub size : length buffer ≡ length before
  pub marks : (m : ℕ) → k ≤ m → m < length G → get_or buffer (number m) 0 ≡ marks_of n G (row_at G (number m))
  pub rest : (p : ℕ) → length G ≤ p → get_or buffer p 0 ≡ get_or before p 0

module _ (n : ℕ) (G : Table) (number : ℕ → ℕ) (o : InOrder G number) (before : List ℕ) (room : length G ≤ length before) where
  -- the byte of the row at place k is written
  module _ (b : List ℕ) (k place v : ℕ) (l : k < length G) (is : place ≡ number k) (e : v ≡ marks_of n G (row_at G (number k))) where
    written_one : Written n G number before (suc k) b → Written n G number before k (set b place v)
    written_one w = rw is (record {
      size = length-set b (number k) v ∙ w.size;
      marks = λ m c d. by_cases (ℕ_discrete (number m) (number k))
          (λ f. ap (λ (x : ℕ). get_or (set b (number k) v) x 0) f ∙ get_or-set_same b (number k) v 0 (omega (arith, w.size, o.numbers k l))
          ∙ e ∙ ap (λ (x : ℕ). marks_of n G (row_at G x)) (sym f))
          (λ g. get_or-set_other b (number k) (number m) v 0 g ∙ w.marks m (later m c g) d);
      rest = λ i c. get_or-set_other b (number k) i v 0 (λ f. omega (arith, f, o.numbers k l)) ∙ w.rest i c;
    })
      where
        later : (m : ℕ) → k ≤ m → (number m ≡ number k → ⊥) → suc k ≤ m
        later m c g = by_cases (dec_le (suc k) m) (λ h. h) (λ h. let e : m ≡ k = omega arith in absurd (g (ap number e)))

  pub written_last : (k place v : ℕ) → suc k ≡ length G → place ≡ number k → v ≡ marks_of n G (row_at G (number k))
      → Written n G number before k (set before place v)
  written_last k place v h is e = written_one before k place v (omega arith) is e
      (record { size = refl; marks = λ m c d. absurd (omega arith); rest = λ p c. refl })

  pub written_step : (b : List ℕ) (k place v : ℕ) → 0 < k → k < length G → place ≡ number (k - 1) → v ≡ marks_of n G (row_at G (number (k - 1)))
      → Written n G number before k b → Written n G number before (k - 1) (set b place v)
  written_step b k place v p l is e w =
      let back : k ≡ suc (k - 1) = omega arith in
      written_one b (k - 1) place v (omega arith) is e (subst (λ (x : ℕ). Written n G number before x b) back w)

  -- each row has a place, so all are marked
  pub written_all : (c : List ℕ) → Written n G number before 0 c → c ≡ marked n G before
  written_all c w = ext_get_or 0 c (marked n G before) size each
    where
      size : length c ≡ length (marked n G before)
      size = w.size ∙ sym (rw (length-append, length_table_marks n G, length-drop (length G) before) (omega arith))

      front : (i : ℕ) → i < length G → get_or c i 0 ≡ get_or (marked n G before) i 0
      front i l =
          let m = o.places i l in
          ap (λ (y : ℕ). get_or c y 0) (sym m.2) ∙ w.marks m.0 (omega arith) m.1 ∙ ap (λ (y : ℕ). marks_of n G (row_at G y)) m.2
          ∙ sym (front_marks n G (drop (length G) before) i l)

      behind : (i : ℕ) → length G ≤ i → get_or c i 0 ≡ get_or (marked n G before) i 0
      behind i l =
          let y : length (table_marks n G) + (i - length G) ≡ i = omega (arith, length_table_marks n G) in
          let z : length G + (i - length G) ≡ i = omega arith in
          w.rest i l
          ∙ sym (subst (λ (j : ℕ). get_or (marked n G before) j 0 ≡ get_or before i 0) y
          (get_or-append-add (table_marks n G) (drop (length G) before) (i - length G) 0 ∙ get_or-drop (length G) before (i - length G) 0
          ∙ ap (λ (j : ℕ). get_or before j 0) z))

      each : (i : ℕ) → i < length c → get_or c i 0 ≡ get_or (marked n G before) i 0
      each i l = by_cases (dec_lt i (length G)) (front i) (λ g. behind i (omega arith))

-- there is nothing to write
pub none_marked : (n : ℕ) (G : Table) (b : List ℕ) → length G ≡ 0 → b ≡ marked n G b
unfolding table_marks
none_marked n [] b e = refl
none_marked n (u ∷ G) b e = absurd (omega arith)
