-- The laws of the completion by slices of the first variable. A row is a ∷ t, with the head a and the tail t.
--
--   slice_row, -member, -size   the rows of a slice
--   Slice P G q            q is in the ideal of the tails of the rows whose head has P; below_use, below_make: for the heads below a
--   slice_into, slice_back   law 2: a ∷ q is in the ideal of G exactly where q is in that of the slice of the heads up to a
--   Beyond a G             the tail of some row is outside the ideal of the slice below a
--   completed_slice, slice_completed   law 3: rule 5 by slices
--   Grows a G              the tail of some row of head a is outside the ideal of the slice below a: the ideal grows at a
--   tests_grows, still, grows_beyond, beyond_grows   law 4
--   tests_grows_by, generates_under    law 6: other generators
--   Last G a last          last is the largest growing head below a, or 0
--   ByIdeal n S            what S gives for a table depends on its ideal alone, and lies in it
--   Upto S G a last        the monomials b ∷ t with b below a and at most last, and t of S for the slice up to b
--   upto_stays, upto_grows   law 5: one step, for any S that ideals settle (`ByIdeal`)
--   front_table, finish    Janet: after the heads below a, the completed table of the rows with such a head
--   front_part             what is written at any time is a front part of the completed table
--   no_variables, one_variable   law 7
--
-- Law 1, only the ideal counts, is in CompletedLaws.
use mathlib.Core.Path.{◌≡◌, refl, sym, ap, ◌∙◌, subst}
use mathlib.Core.Bool.{Bool, true, false}
use mathlib.Core.List.Memᴰ
use mathlib.Core.List.{[], ◌∷◌, ◌++◌, tail}
use mathlib.Core.Logic.{◌⊎◌, inl, inr, ⊎_elim, by_cases}
use Prim.Native.Nat.{ℕ, zero, suc, ◌+◌, ◌-◌, ◌≤◌, ◌<◌}
use native.Mathlib.Nat.{not-suc-le-zero, suc_inj}
use native.Mathlib.Decide.{dec_le, dec_lt}
use native.Mathlib.Omega.{arith}
use lib.Dec.{T, ltb, eqb}
use lib.ListN.{length}
use Rattle.checks.specs.Tests.{Tests, pick, keep}
use Rattle.checks.proofs.TestLaws.{tests_lt, tests_eq, tests_not, tests_any, tests_as, keep_in, keep_make}
use Rattle.terms.specs.Monomials.{Monomial, Table, ◌!◌, ◌∈◌, OfSize, SameBefore, times}
use Rattle.terms.specs.Ideal.{Divides, Inside, SameIdeal}
use Rattle.terms.proofs.MonomialLaws.{before_first}
use Rattle.terms.proofs.IdealLaws.{tests_inside, inside?, inside_up, inside_none, divides_refl, same_ideal_sym}
use Rattle.completion.specs.Completed.{Enters, Completed, CompletedTable}
use Rattle.completion.specs.Slices.{slice, at, below, under, front, heads, fresh, lengthened}
use Rattle.completion.proofs.BlockLaws.{Lists, lists_as, lists_none, lists_one, Heads, heads_as, heads_front, repeat_lists, behind_lists, cons_of}
use Rattle.completion.proofs.BlockLaws.{cons_same}
use Rattle.completion.proofs.RuleFive.{completed_ideal, table_ideal}

-- the completed table as a list of the monomials with a property, and back
pub table_lists : {n : ℕ} {G H : Table} → CompletedTable n G H → Lists (Completed n G) H
table_lists t = record { only = t.only; all = t.all; ascends = t.ascends }

pub lists_table : {n : ℕ} {G H : Table} → Lists (Completed n G) H → CompletedTable n G H
lists_table l = record { only = l.only; all = l.all; ascends = l.ascends }

-- ---- heads and tails

pub tail_at : (u : Monomial) (i : ℕ) → 0 < i → tail u ! i ≡ u ! suc i
tail_at u zero p = absurd (not-suc-le-zero p)
tail_at [] (suc i) p = refl
tail_at (x ∷ u) (suc i) p = refl

pub tail_length : {n : ℕ} (u : Monomial) → length u ≡ suc n → length (tail u) ≡ n
tail_length [] e = omega arith
tail_length (x ∷ u) e = suc_inj e

pub divides_cons : (u : Monomial) (a : ℕ) (q : Monomial) → u ! 1 ≤ a → Divides (tail u) q → Divides u (a ∷ q)
divides_cons u a q h d zero = omega arith
divides_cons u a q h d (suc zero) = h
divides_cons u a q h d (suc (suc i)) = omega (arith, d (suc i), tail_at u (suc i) (omega arith))

pub divides_tail : (u : Monomial) (a : ℕ) (q : Monomial) → Divides u (a ∷ q) → Divides (tail u) q
divides_tail u a q d zero = omega arith
divides_tail u a q d (suc i) = omega (arith, d (suc (suc i)), tail_at u (suc i) (omega arith))

-- ---- slices

pub slice_row : (f : ℕ → Bool) (G : Table) (t : Monomial) → t ∈ slice f G → (u : Monomial) × (u ∈ G) × T (f (u ! 1)) × (tail u ≡ t)
unfolding slice
slice_row f G t m =
    let r = Memᴰ.of_map tail (keep (λ u. f (u ! 1)) G) m in
    let k = keep_in (λ u. f (u ! 1)) G r.0 r.1 in
    (r.0, k.0, k.1, r.2)

pub slice_member : (f : ℕ → Bool) (G : Table) (u : Monomial) → u ∈ G → T (f (u ! 1)) → tail u ∈ slice f G
unfolding slice
slice_member f G u m t = Memᴰ.map tail (keep_make (λ v. f (v ! 1)) G u m t)

pub slice_size : {n : ℕ} (f : ℕ → Bool) (G : Table) → OfSize (suc n) G → OfSize n (slice f G)
slice_size f G z t m =
    let r = slice_row f G t m in
    ap length (sym r.3) ∙ tail_length r.0 (z r.0 r.1)

pub at_size : {n : ℕ} (a : ℕ) (G : Table) → OfSize (suc n) G → OfSize n (at a G)
at_size a G z = slice_size (λ b. eqb b a) G z

pub below_size : {n : ℕ} (a : ℕ) (G : Table) → OfSize (suc n) G → OfSize n (below a G)
below_size a G z = slice_size (λ b. ltb b a) G z

pub record Slice (P : ℕ → Type 0) (G : Table) (q : Monomial) : Type 0 where
  pub row : Monomial
  pub member : row ∈ G
  pub head : P (row ! 1)
  pub divides : Divides (tail row) q

slice_use : {P : ℕ → Type 0} {f : ℕ → Bool} {G : Table} {q : Monomial} → ((b : ℕ) → Tests (f b) (P b)) → Inside (slice f G) q → Slice P G q
slice_use {f = f} {G = G} {q = q} t h =
    let r = slice_row f G h.row h.member in
    record { row = r.0; member = r.1; head = (t (r.0 ! 1)).sound r.2; divides = subst (λ (w : Monomial). Divides w q) (sym r.3) h.divides }

slice_make : {P : ℕ → Type 0} {f : ℕ → Bool} {G : Table} {q : Monomial} → ((b : ℕ) → Tests (f b) (P b)) → Slice P G q → Inside (slice f G) q
slice_make {f = f} {G = G} t s = record {
  row = tail s.row;
  member = slice_member f G s.row s.member ((t (s.row ! 1)).complete s.head);
  divides = s.divides;
}

pub below_use : (a : ℕ) {G : Table} {q : Monomial} → Inside (below a G) q → Slice (λ b. b < a) G q
below_use a h = slice_use (λ b. tests_lt b a) h

pub below_make : (a : ℕ) {G : Table} {q : Monomial} → Slice (λ b. b < a) G q → Inside (below a G) q
below_make a s = slice_make (λ b. tests_lt b a) s

-- a row's own tail
pub below_row : (a : ℕ) (G : Table) (g : Monomial) → g ∈ G → g ! 1 < a → Inside (below a G) (tail g)
below_row a G g m l = below_make a (record { row = g; member = m; head = l; divides = divides_refl (tail g) })

pub below_more : {a b : ℕ} (G : Table) {q : Monomial} → a ≤ b → Inside (below a G) q → Inside (below b G) q
below_more {a} {b} G l h =
    let s = below_use a h in
    below_make b (record { row = s.row; member = s.member; head = omega (arith, s.head); divides = s.divides })

pub below_none : (G : Table) {q : Monomial} → Inside (below 0 G) q → ⊥
below_none G h = not-suc-le-zero (below_use 0 h).head

-- ---- law 2: the ideal by slices
-- A row divides a ∷ q exactly where its head is at most a and its tail divides q.

pub slice_into : {a : ℕ} {G : Table} {q : Monomial} → Inside G (a ∷ q) → Inside (under a G) q
slice_into {a} {q = q} h = below_make (suc a)
    (record { row = h.row; member = h.member; head = omega (arith, h.divides 1); divides = divides_tail h.row a q h.divides })

pub slice_back : {a : ℕ} {G : Table} {q : Monomial} → Inside (under a G) q → Inside G (a ∷ q)
slice_back {a} {q = q} h =
    let s = below_use (suc a) h in
    record { row = s.row; member = s.member; divides = divides_cons s.row a q (omega (arith, s.head)) s.divides }

-- ---- law 3: rule 5 by slices
-- a ∷ t is in the completed table of G exactly where t is in that of the slice up to a, and a is 0 or the tail of some row is outside the slice below a.
-- From variable 2 on the outside monomial begins with a, so law 2 serves. At variable 1: where (a − 1) ∷ q is outside and enters, the tail of the row that
-- divides it then divides q, and it is outside the slice below a, else q would be inside; back, that tail serves for q.

pub record Beyond (a : ℕ) (G : Table) : Type 0 where
  pub row : Monomial
  pub member : row ∈ G
  pub outside : Inside (below a G) (tail row) → ⊥

-- equal before a later variable, in terms of the tails
tails_same : (a x : ℕ) (v t : Monomial) (i : ℕ) → SameBefore (suc (suc i)) (x ∷ v) (a ∷ t) → SameBefore (suc i) v t
tails_same a x v t i b zero l = refl
tails_same a x v t i b (suc j) l = b (suc (suc j)) (omega arith)

cons_before : (a : ℕ) (v t : Monomial) (i : ℕ) → SameBefore (suc i) v t → SameBefore (suc (suc i)) (a ∷ v) (a ∷ t)
cons_before a v t i b zero l = refl
cons_before a v t i b (suc zero) l = refl
cons_before a v t i b (suc (suc j)) l = b (suc j) (omega arith)

module _ {n : ℕ} {G : Table} {a : ℕ} {t : Monomial} where
  -- at a later variable the outside monomial begins with a
  enters_slice : {i : ℕ} → Enters (suc n) G (a ∷ t) (suc (suc i)) → Enters n (under a G) t (suc i)
  enters_slice {i} h = go h.from h.size h.outside h.before h.less h.enters
    where
      go : (v : Monomial) → length v ≡ suc n → (Inside G v → ⊥) → SameBefore (suc (suc i)) v (a ∷ t) → v ! suc (suc i) + 1 ≡ t ! suc i →
          Inside G (times v (suc (suc i)) h.by) → Enters n (under a G) t (suc i)
      go [] z o b l k = absurd (omega arith)
      go (x ∷ v) z o b l k =
          let e : x ≡ a = b 1 (omega arith) in
          record {
            from = v;
            size = suc_inj z;
            outside = λ s. o (subst (λ (y : ℕ). Inside G (y ∷ v)) (sym e) (slice_back s));
            before = tails_same a x v t i b;
            less = l;
            by = h.by;
            enters = slice_into (subst (λ (y : ℕ). Inside G (y ∷ times v (suc i) h.by)) e k);
          }

  enters_unslice : {i : ℕ} → Enters n (under a G) t (suc i) → Enters (suc n) G (a ∷ t) (suc (suc i))
  enters_unslice {i} h = record {
    from = a ∷ h.from;
    size = ap suc h.size;
    outside = λ s. h.outside (slice_into s);
    before = cons_before a h.from t i h.before;
    less = h.less;
    by = h.by;
    enters = slice_back h.enters;
  }

  -- at the first variable it may be taken to end in a row's tail
  enters_first : Enters (suc n) G (a ∷ t) 1 → Beyond a G
  enters_first h = go h.from h.size h.outside h.less h.enters
    where
      go : (v : Monomial) → length v ≡ suc n → (Inside G v → ⊥) → v ! 1 + 1 ≡ a → Inside G (times v 1 h.by) → Beyond a G
      go [] z o l k = absurd (omega arith)
      go (x ∷ v) z o l k =
          let e : suc x ≡ a = omega arith in
          record {
            row = k.row;
            member = k.member;
            outside = λ s. o (slice_back (inside_up (subst (λ (b : ℕ). Inside (below b G) (tail k.row)) (sym e) s)
                (divides_tail k.row (x + h.by) v k.divides)));
          }

  first_enters : OfSize (suc n) G → 0 < a → Beyond a G → Enters (suc n) G (a ∷ t) 1
  first_enters z p h =
      let g : Monomial = h.row in
      let e : suc (a - 1) ≡ a = omega arith in
      record {
        from = (a - 1) ∷ tail g;
        size = ap suc (tail_length g (z g h.member));
        outside = λ s. h.outside (subst (λ (b : ℕ). Inside (below b G) (tail g)) e (slice_into s));
        before = before_first ((a - 1) ∷ tail g) (a ∷ t);
        less = omega arith;
        by = g ! 1;
        enters = record { row = g; member = h.member; divides = divides_cons g (a - 1 + g ! 1) (tail g) (omega arith) (divides_refl (tail g)) };
      }

  pub completed_slice : Completed (suc n) G (a ∷ t) → Completed n (under a G) t × ((a ≡ 0) ⊎ Beyond a G)
  completed_slice c = (
    record { size = suc_inj c.size; inside = slice_into c.inside; each = each },
    by_cases (dec_lt 0 a) (λ p. inr (enters_first (c.each 1 p))) (λ g. inl (omega arith)),
  )
    where
      each : (i : ℕ) → 0 < t ! i → Enters n (under a G) t i
      each zero p = absurd (not-suc-le-zero p)
      each (suc i) p = enters_slice (c.each (suc (suc i)) p)

  pub slice_completed : OfSize (suc n) G → Completed n (under a G) t → (a ≡ 0) ⊎ Beyond a G → Completed (suc n) G (a ∷ t)
  slice_completed z c r = record { size = ap suc c.size; inside = slice_back c.inside; each = each }
    where
      each : (i : ℕ) → 0 < (a ∷ t) ! i → Enters (suc n) G (a ∷ t) i
      each zero p = absurd (not-suc-le-zero p)
      each (suc zero) p = ⊎_elim (λ e. absurd (omega arith)) (λ h. first_enters z p h) r
      each (suc (suc i)) p = enters_unslice (c.each (suc i) p)

-- ---- law 4: growing
-- Where a does not grow, the slices below a and up to a have one ideal. Some tail is outside the slice below a exactly where some head from a on grows:
-- of the rows whose tails divide it, one of the least head does.

pub record Grows (a : ℕ) (G : Table) : Type 0 where
  pub row : Monomial
  pub member : row ∈ G
  pub head : row ! 1 ≡ a
  pub outside : Inside (below a G) (tail row) → ⊥

pub tests_fresh : (sub tails : Table) → Tests (fresh sub tails) ((t : Monomial) × (t ∈ tails) × (Inside sub t → ⊥))
unfolding fresh
tests_fresh sub tails = tests_any tails (λ (t : Monomial) m. tests_not (tests_inside sub t))

grows_fresh : (a : ℕ) (G : Table) → Grows a G → (t : Monomial) × (t ∈ at a G) × (Inside (below a G) t → ⊥)
grows_fresh a G g = (tail g.row, slice_member (λ b. eqb b a) G g.row g.member ((tests_eq (g.row ! 1) a).complete g.head), g.outside)

fresh_grows : (a : ℕ) (G : Table) (t : Monomial) → t ∈ at a G → (Inside (below a G) t → ⊥) → Grows a G
fresh_grows a G t m o =
    let r = slice_row (λ b. eqb b a) G t m in
    record { row = r.0; member = r.1; head = (tests_eq (r.0 ! 1) a).sound r.2; outside = λ h. o (subst (λ (w : Monomial). Inside (below a G) w) r.3 h) }

pub tests_grows : (a : ℕ) (G : Table) → Tests (fresh (below a G) (at a G)) (Grows a G)
tests_grows a G = tests_as (tests_fresh (below a G) (at a G)) (λ r. fresh_grows a G r.0 r.1 r.2) (grows_fresh a G)

-- where a does not grow, its slice adds nothing
pub still : {a : ℕ} {G : Table} {q : Monomial} → (Grows a G → ⊥) → Inside (under a G) q → Inside (below a G) q
still {a} {G} {q} g h =
    let s = below_use (suc a) h in
    by_cases (dec_lt (s.row ! 1) a)
    (λ l. below_make a (record { row = s.row; member = s.member; head = l; divides = s.divides }))
    (λ l. by_cases (inside? (below a G) (tail s.row))
    (λ k. inside_up k s.divides)
    (λ o. absurd (g (record { row = s.row; member = s.member; head = omega (arith, s.head); outside = o }))))

pub still_ideal : (n : ℕ) {a : ℕ} {G : Table} → (Grows a G → ⊥) → SameIdeal n (under a G) (below a G)
still_ideal n {G = G} g = record { into = λ q e h. still g h; back = λ q e h. below_more G (omega arith) h }

-- nor do the slices from b to a where none of them grows
pub still_between : (b a : ℕ) (G : Table) {q : Monomial} → ((c : ℕ) → b ≤ c → c < a → Grows c G → ⊥) → Inside (below a G) q → Inside (below b G) q
still_between b zero G g h = below_more G (omega arith) h
still_between b (suc a) G g h = by_cases (dec_le b a)
    (λ l. still_between b a G (λ c m k. g c m (omega arith)) (still (g a l (omega arith)) h))
    (λ l. below_more G (omega arith) h)

pub between_ideal : (n b a : ℕ) (G : Table) → b ≤ a → ((c : ℕ) → b ≤ c → c < a → Grows c G → ⊥) → SameIdeal n (below b G) (below a G)
between_ideal n b a G l g = record { into = λ q e h. below_more G l h; back = λ q e h. still_between b a G g h }

pub grows_beyond : {a b : ℕ} {G : Table} → a ≤ b → Grows b G → Beyond a G
grows_beyond {G = G} l g = record { row = g.row; member = g.member; outside = λ h. g.outside (below_more G l h) }

head_above : (a : ℕ) (G : Table) (g : Monomial) → g ∈ G → (Inside (below a G) (tail g) → ⊥) → a ≤ g ! 1
head_above a G g m o = by_cases (dec_lt (g ! 1) a) (λ l. absurd (o (below_row a G g m l))) (λ l. omega arith)

-- Among the rows whose tails divide that of g, one of the least head grows.
grows_among : (a : ℕ) (G : Table) (fuel : ℕ) (g : Monomial) → g ∈ G → g ! 1 ≤ fuel → (Inside (below a G) (tail g) → ⊥) → (b : ℕ) × (a ≤ b) × Grows b G
grows_among a G zero g m f o = (
  g ! 1,
  head_above a G g m o,
  record { row = g; member = m; head = refl; outside = λ k. omega (arith, (below_use (g ! 1) k).head) },
)
grows_among a G (suc fuel) g m f o = by_cases (inside? (below (g ! 1) G) (tail g))
    (λ k. let s = below_use (g ! 1) k in
    grows_among a G fuel s.row s.member (omega (arith, s.head)) (λ h. o (inside_up h s.divides)))
    (λ k. (g ! 1, head_above a G g m o, record { row = g; member = m; head = refl; outside = k }))

pub beyond_grows : {a : ℕ} {G : Table} → Beyond a G → (b : ℕ) × (a ≤ b) × Grows b G
beyond_grows {a} {G} h = grows_among a G (h.row ! 1) h.row h.member (omega arith) h.outside

-- ---- law 6: other generators
-- Whatever generates the ideal of the slice below a serves for it: to ask whether a grows, and with the tails of head a to generate the slice up to a.

pub inside_left : {G : Table} (H : Table) {q : Monomial} → Inside G q → Inside (G ++ H) q
inside_left H h = record { row = h.row; member = Memᴰ.append_left H h.member; divides = h.divides }

pub inside_right : (G : Table) {H : Table} {q : Monomial} → Inside H q → Inside (G ++ H) q
inside_right G h = record { row = h.row; member = Memᴰ.append_right G h.member; divides = h.divides }

pub inside_either : (G H : Table) {q : Monomial} → Inside (G ++ H) q → Inside G q ⊎ Inside H q
inside_either G H {q} h = ⊎_elim
    (λ m. inl (record { row = h.row; member = m; divides = h.divides }))
    (λ m. inr (record { row = h.row; member = m; divides = h.divides }))
    (Memᴰ.append_cases G h.member)

module _ {n : ℕ} (a : ℕ) {sub : Table} (G : Table) (s : SameIdeal n sub (below a G)) where
  pub tests_grows_by : OfSize (suc n) G → Tests (fresh sub (at a G)) (Grows a G)
  tests_grows_by z = tests_as (tests_fresh sub (at a G))
      (λ r. fresh_grows a G r.0 r.1 (λ h. r.2 (s.back r.0 (at_size a G z r.0 r.1) h)))
      (λ g. let r = grows_fresh a G g in (r.0, r.1, λ h. r.2 (s.into r.0 (at_size a G z r.0 r.1) h)))

  pub generates_under : SameIdeal n (sub ++ at a G) (under a G)
  generates_under = record {
    into = λ q e h. ⊎_elim (λ k. below_more G (omega arith) (s.into q e k)) (λ k. from_at (slice_use (λ b. tests_eq b a) k)) (inside_either sub (at a G) h);
    back = λ q e h. split q e (below_use (suc a) h);
  }
    where
      from_at : {q : Monomial} → Slice (λ b. b ≡ a) G q → Inside (under a G) q
      from_at k = below_make (suc a) (record { row = k.row; member = k.member; head = omega (arith, k.head); divides = k.divides })

      split : (q : Monomial) → length q ≡ n → Slice (λ b. b < suc a) G q → Inside (sub ++ at a G) q
      split q e k = by_cases (dec_lt (k.row ! 1) a)
          (λ l. inside_left (at a G) (s.back q e (below_make a (record { row = k.row; member = k.member; head = l; divides = k.divides }))))
          (λ l. inside_right sub (slice_make (λ b. tests_eq b a)
          (record { row = k.row; member = k.member; head = omega (arith, k.head); divides = k.divides })))

-- ---- law 5: one step
-- If a does not grow nothing is added; if it grows, the block of the slices below a under each head since the last growing one, and then its own block.
-- Stated for any S that the ideal settles.

pub record ByIdeal (n : ℕ) (S : Table → Monomial → Type 0) : Type 0 where
  pub moves : (G H : Table) → SameIdeal n G H → (u : Monomial) → S G u → S H u
  pub within : (G : Table) (u : Monomial) → S G u → Inside G u

pub moves_lists : {n : ℕ} {S : Table → Monomial → Type 0} → ByIdeal n S → (G H : Table) {K : Table} → SameIdeal n G H → Lists (S G) K → Lists (S H) K
moves_lists y G H s l = lists_as (y.moves G H s) (y.moves H G (same_ideal_sym s)) l

pub completed_settled : (n : ℕ) → ByIdeal n (Completed n)
completed_settled n = record { moves = λ G H s u c. completed_ideal s c; within = λ G u c. c.inside }

pub record Last (G : Table) (a last : ℕ) : Type 0 where
  pub largest : (b : ℕ) → b < a → Grows b G → b ≤ last
  pub real : (last ≡ 0) ⊎ ((last < a) × Grows last G)

pub last_start : (G : Table) → Last G 0 0
last_start G = record { largest = λ b l g. absurd (not-suc-le-zero l); real = inl refl }

pub last_stays : {G : Table} {a last : ℕ} → (Grows a G → ⊥) → Last G a last → Last G (suc a) last
last_stays {G} {a} g l = record {
  largest = λ b h k. by_cases (dec_lt b a) (λ i. l.largest b i k) (λ i. let e : b ≡ a = omega arith in absurd (g (subst (λ (x : ℕ). Grows x G) e k)));
  real = ⊎_elim (λ e. inl e) (λ r. inr (omega (arith, r.0), r.1)) l.real;
}

pub last_grows : {G : Table} {a : ℕ} → Grows a G → Last G (suc a) a
last_grows g = record { largest = λ b h k. omega arith; real = inr (omega arith, g) }

abbrev pub Upto : (Table → Monomial → Type 0) → Table → ℕ → ℕ → Monomial → Type 0
Upto S G a last = Heads (λ b. (b < a) × (b ≤ last)) (λ b t. S (under b G) t)

module _ {n : ℕ} {S : Table → Monomial → Type 0} (y : ByIdeal n S) (G : Table) {a last : ℕ} (k : Last G a last) where
  pub upto_stays : {L : Table} → (Grows a G → ⊥) → Lists (Upto S G a last) L → Lists (Upto S G (suc a) last) L
  upto_stays g l = lists_as (λ u h. heads_as (λ b t i p. (omega (arith, p.0), p.1)) h) (λ u h. heads_as earlier h) l
    where
      earlier : (b : ℕ) (t : Monomial) → S (under b G) t → (b < suc a) × (b ≤ last) → (b < a) × (b ≤ last)
      earlier b t i p = by_cases (dec_lt b a) (λ h. (h, p.1)) (λ h.
          let e : b ≡ a = omega (arith, p.0) in
          let q : Inside (below a G) t = still g (subst (λ (x : ℕ). Inside (under x G) t) e (y.within (under b G) t i)) in
          let x : a ≡ 0 = ⊎_elim (λ r. omega (arith, p.1)) (λ r. absurd (omega (arith, r.0, p.1))) k.real in
          absurd (omega (arith, (below_use a q).head)))

  pub upto_grows : {L B C : Table} → Lists (Upto S G a last) L → Lists (S (below a G)) B → Lists (S (under a G)) C →
      Lists (Upto S G (suc a) a) (lengthened L last B a C)
  upto_grows {L} {B} {C} l b c = lists_as (λ u h. heads_as after h) (λ u h. heads_as before h)
      (behind_lists a (repeat_lists (suc last) (a - suc last) l (λ x p. omega (arith, p.1))
      (λ x h i. moves_lists y (below a G) (under x G) (quiet x h (omega arith)) b)) first c)
    where
      -- between the last growing head and a the slices have one ideal
      quiet : (x : ℕ) → last < x → x < a → SameIdeal n (below a G) (under x G)
      quiet x h i = same_ideal_sym (between_ideal n (suc x) a G i (λ z d e w. omega (arith, k.largest z e w)))

      Old : ℕ → Type 0
      Old x = ((x < a) × (x ≤ last)) ⊎ ((suc last ≤ x) × (x < suc last + (a - suc last)))

      first : (x : ℕ) → Old x → x < a
      first x p = ⊎_elim (λ r. r.0) (λ r. omega (arith, r.0, r.1)) p

      after : (x : ℕ) (t : Monomial) → S (under x G) t → Old x ⊎ (x ≡ a) → (x < suc a) × (x ≤ a)
      after x t i p = ⊎_elim (λ r. let h : x < a = first x r in (omega arith, omega arith)) (λ e. (omega arith, omega arith)) p

      before : (x : ℕ) (t : Monomial) → S (under x G) t → (x < suc a) × (x ≤ a) → Old x ⊎ (x ≡ a)
      before x t i p = by_cases (dec_lt x a)
          (λ h. inl (by_cases (dec_le x last) (λ j. inl (h, j)) (λ j. inr (omega arith, omega arith))))
          (λ h. inr (omega (arith, p.1)))

-- ---- the rows with head below a

pub front_row : (a : ℕ) (G : Table) (u : Monomial) → u ∈ front a G → (u ∈ G) × (u ! 1 < a)
unfolding front
front_row a G u m =
    let k = keep_in (λ v. ltb (v ! 1) a) G u m in
    (k.0, (tests_lt (u ! 1) a).sound k.1)

pub front_member : (a : ℕ) (G : Table) (u : Monomial) → u ∈ G → u ! 1 < a → u ∈ front a G
unfolding front
front_member a G u m l = keep_make (λ v. ltb (v ! 1) a) G u m ((tests_lt (u ! 1) a).complete l)

front_into : (a b : ℕ) (G : Table) {q : Monomial} → Inside (below b (front a G)) q → Inside (below b G) q
front_into a b G h =
    let s = below_use b h in
    below_make b (record { row = s.row; member = (front_row a G s.row s.member).0; head = s.head; divides = s.divides })

front_back : (a b : ℕ) (G : Table) {q : Monomial} → b ≤ a → Inside (below b G) q → Inside (below b (front a G)) q
front_back a b G l h =
    let s = below_use b h in
    below_make b (record { row = s.row; member = front_member a G s.row s.member (omega (arith, s.head)); head = s.head; divides = s.divides })

front_ideal : (n a b : ℕ) (G : Table) → b ≤ a → SameIdeal n (below b (front a G)) (below b G)
front_ideal n a b G l = record { into = λ q e h. front_into a b G h; back = λ q e h. front_back a b G l h }

front_grows : {a c : ℕ} {G : Table} → Grows c (front a G) → (c < a) × Grows c G
front_grows {a} {c} {G} g =
    let r = front_row a G g.row g.member in
    let l : c < a = omega (arith, r.1, g.head) in
    (l, record { row = g.row; member = r.0; head = g.head; outside = λ h. g.outside (front_back a c G (omega arith) h) })

grows_front : {a c : ℕ} {G : Table} → c < a → Grows c G → Grows c (front a G)
grows_front {a} {c} {G} l g = record {
  row = g.row;
  member = front_member a G g.row g.member (omega (arith, g.head));
  head = g.head;
  outside = λ h. g.outside (front_into a c G h);
}

pub front_all : (n a : ℕ) (G : Table) → ((u : Monomial) → u ∈ G → u ! 1 < a) → SameIdeal n (front a G) G
front_all n a G h = record {
  into = λ q e k. record { row = k.row; member = (front_row a G k.row k.member).0; divides = k.divides };
  back = λ q e k. record { row = k.row; member = front_member a G k.row k.member (h k.row k.member); divides = k.divides };
}

-- Janet: the completed table of the rows with head below a has the heads up to the last growing one.
module _ (n : ℕ) (G : Table) (z : OfSize (suc n) G) {a last : ℕ} (k : Last G a last) where
  front_upto : (u : Monomial) → Completed (suc n) (front a G) u → Upto (Completed n) G a last u
  front_upto u h =
      let e : u ! 1 ∷ tail u ≡ u = cons_of u h.size in
      let r = completed_slice (subst (λ (w : Monomial). Completed (suc n) (front a G) w) (sym e) h) in
      let p : (u ! 1 < a) × (u ! 1 ≤ last) = ⊎_elim
      (λ x. (omega (arith, (front_row a G h.inside.row h.inside.member).1), omega arith))
      (λ o. let g = beyond_grows o in let i = front_grows g.2 in (omega (arith, g.1, i.0), omega (arith, g.1, k.largest g.0 i.0 i.1)))
      r.1 in
      record { head = u ! 1; allowed = p; rest = tail u; has = completed_ideal (front_ideal n a (suc (u ! 1)) G p.0) r.0; is = e }

  upto_front : (u : Monomial) → Upto (Completed n) G a last u → Completed (suc n) (front a G) u
  upto_front u h = subst (λ (w : Monomial). Completed (suc n) (front a G) w) h.is (slice_completed (λ v m. z v (front_row a G v m).0)
      (completed_ideal (same_ideal_sym (front_ideal n a (suc h.head) G h.allowed.0)) h.has)
      (⊎_elim (λ e. inl (omega (arith, h.allowed.1))) (λ r. inr (grows_beyond h.allowed.1 (grows_front r.0 r.1))) k.real))

  pub front_table : {L : Table} → Lists (Upto (Completed n) G a last) L → CompletedTable (suc n) (front a G) L
  front_table l = lists_table (lists_as upto_front front_upto l)

  pub table_front : {L : Table} → CompletedTable (suc n) (front a G) L → Lists (Upto (Completed n) G a last) L
  table_front t = lists_as front_upto upto_front (table_lists t)

-- no rows
pub empty : (n : ℕ) → CompletedTable n [] []
empty n = lists_table (lists_none (λ u h. inside_none u h.inside))

-- after the last head all is written
pub finish : (n : ℕ) (G : Table) {a : ℕ} {L : Table} → ((u : Monomial) → u ∈ G → u ! 1 < a) → CompletedTable (suc n) (front a G) L → CompletedTable (suc n) G L
finish n G {a} h t = table_ideal (front_all (suc n) a G h) t

-- ---- every head is below `heads`

pub heads_above : (G : Table) (u : Monomial) → u ∈ G → u ! 1 < heads G
unfolding heads
heads_above [] u m = absurd (Memᴰ.not-nil m)
heads_above (v ∷ G) u m = ⊎_elim
    (λ e. omega (arith, ap (λ (w : Monomial). w ! 1) e, new (ltb (v ! 1) (heads G)) (tests_lt (v ! 1) (heads G)).sound))
    (λ i. omega (arith, heads_above G u i, old (ltb (v ! 1) (heads G)) (tests_lt (v ! 1) (heads G)).complete))
    (Memᴰ.cases_cons m)
  where
    new : (c : Bool) → (T c → v ! 1 < heads G) → v ! 1 < pick c (heads G) (suc (v ! 1))
    new true h = h tt
    new false h = omega arith

    old : (c : Bool) → (v ! 1 < heads G → T c) → heads G ≤ pick c (heads G) (suc (v ! 1))
    old true h = omega arith
    old false h = by_cases (dec_lt (v ! 1) (heads G)) (λ l. absurd (h l)) (λ l. omega arith)

-- the largest growing head below a, or 0
unfoldable pub last_growing : Table → ℕ → ℕ
unfolding slice fresh
last_growing G zero = 0
last_growing G (suc a) = let r = last_growing G a in pick (fresh (below a G) (at a G)) a r

pub last_growing_lem : (G : Table) (a : ℕ) → Last G a (last_growing G a)
unfolding last_growing
last_growing_lem G zero = last_start G
last_growing_lem G (suc a) = go (fresh (below a G) (at a G)) (tests_grows a G) (last_growing_lem G a)
  where
    go : (c : Bool) → Tests c (Grows a G) → Last G a (last_growing G a) → Last G (suc a) (pick c a (last_growing G a))
    go true t h = last_grows (t.sound tt)
    go false t h = last_stays t.complete h

-- What is written at any time is a front part of the completed table, so running out of room is final.
pub front_part_of : (n : ℕ) (G : Table) → OfSize (suc n) G → (a b : ℕ) {L M : Table} → a ≤ b → CompletedTable (suc n) (front a G) L →
    CompletedTable (suc n) (front b G) M → (R : Table) × (L ++ R ≡ M)
front_part_of n G z a b l t m =
    let j = last_growing_lem G a in
    let k = last_growing_lem G b in
    heads_front
    (λ x p. (
      omega (arith, p.0),
      ⊎_elim (λ e. omega (arith, p.1)) (λ r. omega (arith, p.1, k.largest (last_growing G a) (omega (arith, r.0)) r.1))
          j.real,
    ))
    (λ x c q p h. (omega (arith, p.0), omega (arith, p.1)))
    (table_front n G z j t) (table_front n G z k m)

pub front_part : (n : ℕ) (G : Table) → OfSize (suc n) G → (a : ℕ) {L M : Table} → CompletedTable (suc n) (front a G) L → CompletedTable (suc n) G M →
    (R : Table) × (L ++ R ≡ M)
front_part n G z a l m =
    front_part_of n G z a (a + heads G) (omega arith) l
    (table_ideal (same_ideal_sym (front_all (suc n) (a + heads G) G (λ u i. omega (arith, heads_above G u i)))) m)

-- ---- law 7: one variable, and none

-- m is the least head
pub record LeastHead (G : Table) (m : ℕ) : Type 0 where
  pub row : Monomial
  pub member : row ∈ G
  pub head : row ! 1 ≡ m
  pub low : (u : Monomial) → u ∈ G → m ≤ u ! 1

pub nothing : (u : Monomial) → length u ≡ 0 → u ≡ []
nothing [] e = refl
nothing (x ∷ u) e = absurd (omega arith)

-- a row without variables divides everything
pub inside_all : {G : Table} {u q : Monomial} → OfSize 0 G → u ∈ G → Inside G q
inside_all {u = u} z m = record { row = u; member = m; divides = λ i. omega (arith, ap (λ (w : Monomial). w ! i) (nothing u (z u m)), none i) }
  where
    none : (i : ℕ) → [] ! i ≡ 0
    none zero = refl
    none (suc i) = refl

pub no_variables : {G : Table} {u : Monomial} → OfSize 0 G → u ∈ G → CompletedTable 0 G ([] ∷ [])
no_variables {G} z m = lists_table (lists_one [] (record { size = refl; inside = inside_all z m; each = each }) (λ v c. nothing v c.size))
  where
    each : (i : ℕ) → 0 < [] ! i → Enters 0 G [] i
    each zero p = absurd (not-suc-le-zero p)
    each (suc i) p = absurd (not-suc-le-zero p)

-- The head m is in the table; a larger one is not, since there the slice below it already has everything; a smaller one is outside the ideal.
pub one_variable : {G : Table} {m : ℕ} → OfSize 1 G → LeastHead G m → CompletedTable 1 G ((m ∷ []) ∷ [])
one_variable {G} {m} z k = lists_table (lists_one (m ∷ []) row all)
  where
    row_in : (b : ℕ) → m < b → Inside (below b G) (tail k.row)
    row_in b l = below_row b G k.row k.member (omega (arith, k.head))

    row : Completed 1 G (m ∷ [])
    row = slice_completed z ((no_variables (below_size (suc m) G z) (row_in (suc m) (omega arith)).member).only [] (Memᴰ.head refl))
        (inr (record { row = k.row; member = k.member; outside = λ h. let s = below_use m h in omega (arith, s.head, k.low s.row s.member) }))

    first : (b : ℕ) (t : Monomial) → Completed 1 G (b ∷ t) → b ≡ m
    first b t h =
        let r = completed_slice h in
        let s = below_use (suc b) r.0.inside in
        let low : m ≤ b = omega (arith, s.head, k.low s.row s.member) in
        ⊎_elim (λ e. omega arith) (λ o. by_cases (dec_lt m b)
        (λ l. absurd (o.outside (inside_all (below_size b G z) (row_in b l).member)))
        (λ l. omega arith)) r.1

    all : (u : Monomial) → Completed 1 G u → u ≡ m ∷ []
    all u h =
        let e : u ! 1 ∷ tail u ≡ u = cons_of u h.size in
        let x : u ! 1 ≡ m = first (u ! 1) (tail u) (subst (λ (w : Monomial). Completed 1 G w) (sym e) h) in
        let y : tail u ≡ [] = nothing (tail u) (tail_length u h.size) in
        sym e ∙ cons_same x y
