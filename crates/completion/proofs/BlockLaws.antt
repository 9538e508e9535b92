-- Laws of ascending lists of rows, and of such lists built block by block.
--
--   ascending_make, -append, -keep   an ascending list from a first row and a list, from two lists, from the rows kept of one
--   ascending_front        an ascending list that has every row of another up to its own last one is a front part of it
--   precedes_head, head_precedes   the order and the first exponents
--   behind-.., repeated-..   the rows of these blocks, and that they ascend
--   box_row, box_member, box_ascending   the box has exactly the monomials within its caps
--   Lists P H              the rows of H are exactly the monomials with P, and they ascend
--   lists_unique           there is one such list
--   Heads P S u            u is b ∷ t with P b and S b t
--   repeat_lists, behind_lists   the list of such rows, longer by blocks under further heads
--   heads_front            the list over the first heads is a front part of the list over more heads
use mathlib.Core.Path.{◌≡◌, refl, sym, ap, ap₂, ◌∙◌, subst}
use mathlib.Core.Bool.{Bool, true, false}
use mathlib.Core.List.Memᴰ
use mathlib.Core.List.{List, [], ◌∷◌, ◌++◌, tail}
use mathlib.Core.Logic.{◌⊎◌, inl, inr, ⊎_elim, by_cases}
use Prim.Native.Nat.{ℕ, zero, suc, ◌+◌, ◌≤◌, ◌<◌}
use native.Mathlib.Nat.{not-suc-le-zero, le_of_suc-le-suc, suc_inj}
use native.Mathlib.Decide.{dec_lt}
use native.Mathlib.Omega.{arith}
use lib.ListN.{length}
use Rattle.checks.specs.Tests.{pick, keep}
use Rattle.checks.proofs.TestLaws.{keep_in}
use Rattle.terms.specs.Monomials.{Monomial, Table, ◌!◌, ◌∈◌, row_at, SameBefore}
use Rattle.terms.specs.Order.{Precedes, Ascending}
use Rattle.terms.proofs.MonomialLaws.{before_first}
use Rattle.terms.proofs.RowsLaws.{member_at}
use Rattle.terms.proofs.OrderLaws.{precedes_irreflexive, precedes_trans, ascending_tail, all_after, ascending_unique}
use Rattle.completion.specs.Blocks.{behind, repeated, box}

-- ---- ascending lists

pub cons_same : {A : Type 0} {x y : A} {l m : List A} → x ≡ y → l ≡ m → x ∷ l ≡ y ∷ m
cons_same {A} e f = ap₂ {C = List A} (λ x l. x ∷ l) e f

pub ascending_nil : Ascending []
ascending_nil r l = absurd (not-suc-le-zero l)

-- a row before an ascending list whose rows it precedes
pub ascending_make : (u : Monomial) (G : Table) → Ascending G → ((v : Monomial) → v ∈ G → Precedes u v) → Ascending (u ∷ G)
ascending_make u G a f zero l = f (row_at G 0) (member_at G [] 0 (le_of_suc-le-suc l))
ascending_make u G a f (suc r) l = a r (le_of_suc-le-suc l)

pub ascending_one : (u : Monomial) → Ascending (u ∷ [])
ascending_one u = ascending_make u [] ascending_nil (λ v m. absurd (Memᴰ.not-nil m))

pub ascending_append : (G H : Table) → Ascending G → Ascending H → ((u v : Monomial) → u ∈ G → v ∈ H → Precedes u v) → Ascending (G ++ H)
ascending_append [] H a b f = b
ascending_append (u ∷ G) H a b f = ascending_make u (G ++ H)
    (ascending_append G H (ascending_tail u G a) b (λ w v k m. f w v (Memᴰ.tail k) m))
    (λ v m. ⊎_elim (λ i. all_after u G a v i) (λ i. f u v (Memᴰ.head refl) i) (Memᴰ.append_cases G m))

pub ascending_keep : (f : Monomial → Bool) (G : Table) → Ascending G → Ascending (keep f G)
ascending_keep f [] a = ascending_nil
ascending_keep f (u ∷ G) a = go (f u) (ascending_keep f G (ascending_tail u G a))
  where
    go : (c : Bool) → Ascending (keep f G) → Ascending (pick c (u ∷ keep f G) (keep f G))
    go true k = ascending_make u (keep f G) k (λ v m. all_after u G a v (keep_in f G v m).0)
    go false k = k

-- An ascending list whose rows are in another, with every row there that comes before one of its own, is a front part of it:
-- the first rows are the same, since each is in the other list and neither precedes itself.
pub ascending_front : (L M : Table) → Ascending L → Ascending M → ((u : Monomial) → u ∈ L → u ∈ M) →
    ((u v : Monomial) → u ∈ M → v ∈ L → Precedes u v → u ∈ L) → (R : Table) × (L ++ R ≡ M)
ascending_front [] M a b s d = (M, refl)
ascending_front (v ∷ L) [] a b s d = absurd (Memᴰ.not-nil (s v (Memᴰ.head refl)))
ascending_front (v ∷ L) (u ∷ M) a b s d =
    let e : v ≡ u = ⊎_elim (λ p. p) (λ i. ⊎_elim (λ p. sym p)
    (λ j. absurd (precedes_irreflexive u (precedes_trans (all_after u M b v i) (all_after v L a u j))))
    (Memᴰ.cases_cons (d u v (Memᴰ.head refl) (Memᴰ.head refl) (all_after u M b v i)))) (Memᴰ.cases_cons (s v (Memᴰ.head refl))) in
    let r = ascending_front L M (ascending_tail v L a) (ascending_tail u M b)
    (λ w m. ⊎_elim (λ p. absurd (precedes_irreflexive v (subst (λ (x : Monomial). Precedes v x) (p ∙ sym e) (all_after v L a w m)))) (λ i. i)
    (Memᴰ.cases_cons (s w (Memᴰ.tail m))))
    (λ x w m i h. ⊎_elim (λ p. absurd (precedes_irreflexive u (subst (λ (y : Monomial). Precedes u y) (p ∙ e) (all_after u M b x m)))) (λ j. j)
    (Memᴰ.cases_cons (d x w (Memᴰ.tail m) (Memᴰ.tail i) h))) in
    (r.0, cons_same {l = L ++ r.0} {m = M} e r.1)

-- ---- first exponents

pub precedes_cons : (a : ℕ) (u v : Monomial) → Precedes u v → Precedes (a ∷ u) (a ∷ v)
precedes_cons a u v p = deeper p.at p.same p.less
  where
    same : (i : ℕ) → SameBefore (suc i) u v → SameBefore (suc (suc i)) (a ∷ u) (a ∷ v)
    same i s zero l = refl
    same i s (suc zero) l = refl
    same i s (suc (suc j)) l = s (suc j) (le_of_suc-le-suc l)

    deeper : (i : ℕ) → SameBefore i u v → u ! i < v ! i → Precedes (a ∷ u) (a ∷ v)
    deeper zero s l = absurd (omega arith)
    deeper (suc i) s l = record { at = suc (suc i); same = same i s; less = l }

pub precedes_head : (u v : Monomial) → u ! 1 < v ! 1 → Precedes u v
precedes_head u v l = record { at = 1; same = before_first u v; less = l }

pub head_precedes : {u v : Monomial} → Precedes u v → u ! 1 ≤ v ! 1
head_precedes {u} {v} p = go p.at p.same p.less
  where
    go : (i : ℕ) → SameBefore i u v → u ! i < v ! i → u ! 1 ≤ v ! 1
    go zero s l = absurd (omega arith)
    go (suc zero) s l = omega arith
    go (suc (suc i)) s l = omega (arith, s 1 (omega arith))

-- a monomial with a variable is its first exponent and the rest
pub cons_of : {n : ℕ} (u : Monomial) → length u ≡ suc n → u ! 1 ∷ tail u ≡ u
cons_of [] e = absurd (omega arith)
cons_of (x ∷ u) e = refl

-- ---- one block

pub behind_row : (a : ℕ) (B : Table) (u : Monomial) → u ∈ behind a B → (t : Monomial) × (t ∈ B) × (a ∷ t ≡ u)
unfolding behind
behind_row a B u m = Memᴰ.of_map (λ t. a ∷ t) B m

pub behind_member : (a : ℕ) (B : Table) (t : Monomial) → t ∈ B → (a ∷ t) ∈ behind a B
unfolding behind
behind_member a B t m = Memᴰ.map (λ t. a ∷ t) m

pub behind_ascending : (a : ℕ) (B : Table) → Ascending B → Ascending (behind a B)
unfolding behind
behind_ascending a [] h = ascending_nil
behind_ascending a (u ∷ B) h = ascending_make (a ∷ u) (behind a B) (behind_ascending a B (ascending_tail u B h))
    (λ v m. let r = behind_row a B v m in
    subst (λ (w : Monomial). Precedes (a ∷ u) w) r.2 (precedes_cons a u r.0 (all_after u B h r.0 r.1)))

-- ---- a block repeated

-- a row of the block under one of the heads
pub record Repeated (b k : ℕ) (B : Table) (u : Monomial) : Type 0 where
  pub head : ℕ
  pub from : b ≤ head
  pub to : head < b + k
  pub rest : Monomial
  pub member : rest ∈ B
  pub is : head ∷ rest ≡ u

pub repeated_row : (b k : ℕ) (B : Table) (u : Monomial) → u ∈ repeated b k B → Repeated b k B u
unfolding repeated
repeated_row b zero B u m = absurd (Memᴰ.not-nil m)
repeated_row b (suc k) B u m = ⊎_elim
    (λ i. let s = repeated_row b k B u i in
    record { head = s.head; from = s.from; to = omega (arith, s.to); rest = s.rest; member = s.member; is = s.is })
    (λ i. let r = behind_row (b + k) B u i in
    record { head = b + k; from = omega arith; to = omega arith; rest = r.0; member = r.1; is = r.2 })
    (Memᴰ.append_cases (repeated b k B) m)

pub repeated_member : (b k : ℕ) (B : Table) (c : ℕ) (t : Monomial) → b ≤ c → c < b + k → t ∈ B → (c ∷ t) ∈ repeated b k B
unfolding repeated
repeated_member b zero B c t l h m = absurd (omega arith)
repeated_member b (suc k) B c t l h m = by_cases (dec_lt c (b + k))
    (λ i. Memᴰ.append_left (behind (b + k) B) (repeated_member b k B c t l i m))
    (λ i. let e : c ≡ b + k = omega arith in
    Memᴰ.append_right (repeated b k B) (subst (λ (x : ℕ). (c ∷ t) ∈ behind x B) e (behind_member c B t m)))

pub repeated_ascending : (b k : ℕ) (B : Table) → ((c : ℕ) → b ≤ c → c < b + k → Ascending B) → Ascending (repeated b k B)
unfolding repeated
repeated_ascending b zero B a = ascending_nil
repeated_ascending b (suc k) B a = ascending_append (repeated b k B) (behind (b + k) B)
    (repeated_ascending b k B (λ c l h. a c l (omega arith)))
    (behind_ascending (b + k) B (a (b + k) (omega arith) (omega arith)))
    (λ u v m i. let s = repeated_row b k B u m in
    let r = behind_row (b + k) B v i in
    precedes_head u v (omega (arith, s.to, ap (λ (w : Monomial). w ! 1) s.is, ap (λ (w : Monomial). w ! 1) r.2)))

-- ---- the box

pub box_row : (caps u : Monomial) → u ∈ box caps → (length u ≡ length caps) × ((i : ℕ) → u ! i ≤ caps ! i)
unfolding box
box_row [] u m = let e : u ≡ [] = Memᴰ.eq_of_singleton m in (ap length e, λ i. omega (arith, ap (λ (w : Monomial). w ! i) e))
box_row (c ∷ caps) u m =
    let r = repeated_row 0 (suc c) (box caps) u m in
    let h = box_row caps r.rest r.member in
    subst (λ (w : Monomial). (length w ≡ suc (length caps)) × ((i : ℕ) → w ! i ≤ (c ∷ caps) ! i)) r.is
    (ap suc h.0, at r.head r.rest (omega (arith, r.to)) h.1)
  where
    at : (a : ℕ) (t : Monomial) → a ≤ c → ((i : ℕ) → t ! i ≤ caps ! i) → (i : ℕ) → (a ∷ t) ! i ≤ (c ∷ caps) ! i
    at a t l f zero = omega arith
    at a t l f (suc zero) = l
    at a t l f (suc (suc i)) = f (suc i)

pub box_member : (caps u : Monomial) → length u ≡ length caps → ((i : ℕ) → u ! i ≤ caps ! i) → u ∈ box caps
unfolding box
box_member [] [] e h = Memᴰ.head refl
box_member [] (a ∷ u) e h = absurd (omega arith)
box_member (c ∷ caps) [] e h = absurd (omega arith)
box_member (c ∷ caps) (a ∷ u) e h = repeated_member 0 (suc c) (box caps) a u (omega arith) (omega (arith, h 1)) (box_member caps u (suc_inj e) rest)
  where
    rest : (i : ℕ) → u ! i ≤ caps ! i
    rest zero = omega arith
    rest (suc i) = h (suc (suc i))

pub box_ascending : (caps : Monomial) → Ascending (box caps)
unfolding box
box_ascending [] = ascending_one []
box_ascending (c ∷ caps) = repeated_ascending 0 (suc c) (box caps) (λ b l h. box_ascending caps)

-- ---- lists of the monomials with a property

pub record Lists (P : Monomial → Type 0) (H : Table) : Type 0 where
  pub only : (u : Monomial) → u ∈ H → P u
  pub all : (u : Monomial) → P u → u ∈ H
  pub ascends : Ascending H

pub lists_as : {P Q : Monomial → Type 0} {H : Table} → ((u : Monomial) → P u → Q u) → ((u : Monomial) → Q u → P u) → Lists P H → Lists Q H
lists_as f g l = record { only = λ u m. f u (l.only u m); all = λ u q. l.all u (g u q); ascends = l.ascends }

pub lists_unique : {P : Monomial → Type 0} {H K : Table} → Lists P H → Lists P K → H ≡ K
lists_unique {H = H} {K = K} h k = ascending_unique H K h.ascends k.ascends (λ u m. k.all u (h.only u m)) (λ u m. h.all u (k.only u m))

pub lists_none : {P : Monomial → Type 0} → ((u : Monomial) → P u → ⊥) → Lists P []
lists_none f = record { only = λ u m. absurd (Memᴰ.not-nil m); all = λ u h. absurd (f u h); ascends = ascending_nil }

pub lists_one : {P : Monomial → Type 0} (v : Monomial) → P v → ((u : Monomial) → P u → u ≡ v) → Lists P (v ∷ [])
lists_one {P} v h f = record {
  only = λ u m. subst P (sym (Memᴰ.eq_of_singleton m)) h;
  all = λ u k. Memᴰ.head (f u k);
  ascends = ascending_one v;
}

-- ---- blocks under heads

-- u is b ∷ t with P b and S b t
pub record Heads (P : ℕ → Type 0) (S : ℕ → Monomial → Type 0) (u : Monomial) : Type 0 where
  pub head : ℕ
  pub allowed : P head
  pub rest : Monomial
  pub has : S head rest
  pub is : head ∷ rest ≡ u

pub heads_as : {P Q : ℕ → Type 0} {S : ℕ → Monomial → Type 0} {u : Monomial} → ((b : ℕ) (t : Monomial) → S b t → P b → Q b) → Heads P S u → Heads Q S u
heads_as f h = record { head = h.head; allowed = f h.head h.rest h.has h.allowed; rest = h.rest; has = h.has; is = h.is }

heads_at : {P : ℕ → Type 0} {S : ℕ → Monomial → Type 0} {u : Monomial} (h : Heads P S u) → h.head ≡ u ! 1
heads_at h = ap (λ (w : Monomial). w ! 1) h.is

-- One block under each of the heads c, c + 1, .. : k heads.
pub repeat_lists : {P : ℕ → Type 0} {S : ℕ → Monomial → Type 0} {L B : Table} (c k : ℕ) → Lists (Heads P S) L → ((b : ℕ) → P b → b < c) →
    ((b : ℕ) → c ≤ b → b < c + k → Lists (S b) B) →
    Lists (Heads (λ b. P b ⊎ ((c ≤ b) × (b < c + k))) S) (L ++ repeated c k B)
repeat_lists {P} {S} {L} {B} c k l o f = record {
  only = λ u m. ⊎_elim
      (λ i. heads_as (λ b t h p. inl p) (l.only u i))
      (λ i. let s = repeated_row c k B u i in
      record { head = s.head; allowed = inr (s.from, s.to); rest = s.rest; has = (f s.head s.from s.to).only s.rest s.member; is = s.is })
      (Memᴰ.append_cases L m);
  all = λ u h. Memᴰ.cast (sym h.is) (⊎_elim
      (λ p. Memᴰ.append_left (repeated c k B) (l.all (h.head ∷ h.rest) (record { head = h.head; allowed = p; rest = h.rest; has = h.has; is = refl })))
      (λ p. Memᴰ.append_right L (repeated_member c k B h.head h.rest p.0 p.1 ((f h.head p.0 p.1).all h.rest h.has)))
      h.allowed);
  ascends = ascending_append L (repeated c k B) l.ascends (repeated_ascending c k B (λ b i j. (f b i j).ascends))
      (λ u v m i. let h = l.only u m in let s = repeated_row c k B v i in
      precedes_head u v (omega (arith, heads_at h, o h.head h.allowed, s.from, ap (λ (w : Monomial). w ! 1) s.is)));
}

-- One block under head a.
pub behind_lists : {P : ℕ → Type 0} {S : ℕ → Monomial → Type 0} {L C : Table} (a : ℕ) → Lists (Heads P S) L → ((b : ℕ) → P b → b < a) → Lists (S a) C →
    Lists (Heads (λ b. P b ⊎ (b ≡ a)) S) (L ++ behind a C)
behind_lists {P} {S} {L} {C} a l o c = record {
  only = λ u m. ⊎_elim
      (λ i. heads_as (λ b t h p. inl p) (l.only u i))
      (λ i. let r = behind_row a C u i in record { head = a; allowed = inr refl; rest = r.0; has = c.only r.0 r.1; is = r.2 })
      (Memᴰ.append_cases L m);
  all = λ u h. Memᴰ.cast (sym h.is) (⊎_elim
      (λ p. Memᴰ.append_left (behind a C) (l.all (h.head ∷ h.rest) (record { head = h.head; allowed = p; rest = h.rest; has = h.has; is = refl })))
      (λ p. Memᴰ.append_right L (Memᴰ.cast (ap (λ (b : ℕ). b ∷ h.rest) p)
      (behind_member a C h.rest (c.all h.rest (subst (λ (b : ℕ). S b h.rest) p h.has)))))
      h.allowed);
  ascends = ascending_append L (behind a C) l.ascends (behind_ascending a C c.ascends)
      (λ u v m i. let h = l.only u m in let r = behind_row a C v i in
      precedes_head u v (omega (arith, heads_at h, o h.head h.allowed, ap (λ (w : Monomial). w ! 1) r.2)));
}

-- The rows of the first heads are a front part of the rows of more heads.
pub heads_front : {P Q : ℕ → Type 0} {S : ℕ → Monomial → Type 0} {L M : Table} → ((b : ℕ) → P b → Q b) → ((b c : ℕ) → Q b → P c → b ≤ c → P b) →
    Lists (Heads P S) L → Lists (Heads Q S) M → (R : Table) × (L ++ R ≡ M)
heads_front {L = L} {M = M} f g l m = ascending_front L M l.ascends m.ascends
    (λ u i. m.all u (heads_as (λ b t h p. f b p) (l.only u i)))
    (λ u v i j k. let p = m.only u i in let q = l.only v j in
    l.all u (record {
      head = p.head;
      allowed = g p.head q.head p.allowed q.allowed (omega (arith, heads_at p, heads_at q, head_precedes k));
      rest = p.rest;
      has = p.has;
      is = p.is;
    }))
