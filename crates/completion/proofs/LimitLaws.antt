-- Law 3 of the completion by slices over any limit: the monomials of an ideal whose exponent at each variable is at most a limit that the exponents
-- before it settle. Rule 5's table is the one of Janet's limit, the last growing head; a cap for each variable is another limit.
--
--   Limited n limit G u    u is in the ideal of G, and each exponent of u is at most the limit of the exponents before it
--   limited_ideal          only the ideal counts
--   limited_slice, slice_limited   a ∷ t is limited exactly where a is at most the limit of nothing, and t is limited in the slice up to a
--   limited_heads          so the limited monomials are the blocks of the slices under the heads up to the limit
--   janet_limit G p        the last growing head of the slice of G that the exponents p lead to
--   completed_limited, limited_completed   rule 5's monomials are those of Janet's limit
--   cap_limit caps p       the cap of the variable behind the exponents p
--   Capped n caps G u      u is in the ideal of G and divides caps; capped_limited, limited_capped: those are the monomials of that limit
use mathlib.Core.Path.{◌≡◌, sym, ap, subst}
use mathlib.Core.List.{[], ◌∷◌, tail}
use mathlib.Core.Logic.{◌⊎◌, inl, inr, ⊎_elim, by_cases}
use Prim.Native.Nat.{ℕ, zero, suc, ◌≤◌, ◌<◌}
use native.Mathlib.Nat.{not-suc-le-zero, suc_inj}
use native.Mathlib.Decide.{dec_lt}
use native.Mathlib.Omega.{arith}
use lib.ListN.{length, take}
use lib.Seq.{length-take-le}
use Rattle.terms.specs.Monomials.{Monomial, Table, ◌!◌, OfSize}
use Rattle.terms.specs.Ideal.{Divides, Inside, SameIdeal}
use Rattle.terms.proofs.MonomialLaws.{beyond, positive}
use Rattle.completion.specs.Completed.{Completed}
use Rattle.completion.specs.Slices.{slice, under, heads}
use Rattle.completion.proofs.BlockLaws.{Lists, lists_as, Heads, cons_of}
use Rattle.completion.proofs.SliceLaws.{below_size, slice_into, slice_back, Beyond, completed_slice, slice_completed, grows_beyond, beyond_grows}
use Rattle.completion.proofs.SliceLaws.{heads_above, last_growing, last_growing_lem}

-- ---- any limit

pub record Limited (n : ℕ) (limit : Monomial → ℕ) (G : Table) (u : Monomial) : Type 0 where
  pub size : length u ≡ n
  pub inside : Inside G u
  pub each : (i : ℕ) → i < n → u ! suc i ≤ limit (take i u)

pub limited_ideal : {n : ℕ} {limit : Monomial → ℕ} {G H : Table} {u : Monomial} → SameIdeal n G H → Limited n limit G u → Limited n limit H u
limited_ideal {u = u} s l = record { size = l.size; inside = s.into u l.size l.inside; each = l.each }

pub limited_slice : {n : ℕ} {limit : Monomial → ℕ} {G : Table} {a : ℕ} {t : Monomial} → Limited (suc n) limit G (a ∷ t) →
    (a ≤ limit []) × Limited n (λ p. limit (a ∷ p)) (under a G) t
limited_slice l = (l.each 0 (omega arith), record { size = suc_inj l.size; inside = slice_into l.inside; each = λ i h. l.each (suc i) (omega arith) })

pub slice_limited : {n : ℕ} {limit : Monomial → ℕ} {G : Table} {a : ℕ} {t : Monomial} → a ≤ limit [] → Limited n (λ p. limit (a ∷ p)) (under a G) t →
    Limited (suc n) limit G (a ∷ t)
slice_limited {n} {limit} {G} {a} {t} h l = record { size = ap suc l.size; inside = slice_back l.inside; each = each }
  where
    each : (i : ℕ) → i < suc n → (a ∷ t) ! suc i ≤ limit (take i (a ∷ t))
    each zero j = h
    each (suc i) j = l.each i (omega arith)

pub limited_heads : {n : ℕ} {limit : Monomial → ℕ} {G H : Table} →
    Lists (Heads (λ b. b ≤ limit []) (λ b t. Limited n (λ p. limit (b ∷ p)) (under b G) t)) H → Lists (Limited (suc n) limit G) H
limited_heads {n} {limit} {G} l = lists_as
    (λ u h. subst (λ (w : Monomial). Limited (suc n) limit G w) h.is (slice_limited h.allowed h.has))
    (λ u h. let e : u ! 1 ∷ tail u ≡ u = cons_of u h.size in
    let r = limited_slice (subst (λ (w : Monomial). Limited (suc n) limit G w) (sym e) h) in
    record { head = u ! 1; allowed = r.0; rest = tail u; has = r.1; is = e }) l

-- ---- Janet's limit: the last growing head

unfoldable pub janet_limit : Table → Monomial → ℕ
unfolding last_growing heads slice
janet_limit G [] = last_growing G (heads G)
janet_limit G (a ∷ p) = janet_limit (under a G) p

-- a may stand first exactly where it is at most the last growing head
limit_reaches : (G : Table) (a : ℕ) → a ≤ last_growing G (heads G) → (a ≡ 0) ⊎ Beyond a G
limit_reaches G a h = ⊎_elim (λ e. inl (omega arith)) (λ r. inr (grows_beyond h r.1)) (last_growing_lem G (heads G)).real

reaches_limit : (G : Table) (a : ℕ) → (a ≡ 0) ⊎ Beyond a G → a ≤ last_growing G (heads G)
reaches_limit G a r = ⊎_elim (λ e. omega arith)
    (λ o. let g = beyond_grows o in
    omega (arith, g.1, (last_growing_lem G (heads G)).largest g.0 (omega (arith, heads_above G g.2.row g.2.member, g.2.head)) g.2)) r

pub completed_limited : (n : ℕ) (G : Table) → OfSize n G → (u : Monomial) → Completed n G u → Limited n (janet_limit G) G u
unfolding janet_limit
completed_limited zero G z u c = record { size = c.size; inside = c.inside; each = λ i l. absurd (not-suc-le-zero l) }
completed_limited (suc n) G z [] c = absurd (omega (arith, c.size))
completed_limited (suc n) G z (a ∷ t) c =
    let r = completed_slice c in
    slice_limited (reaches_limit G a r.1) (completed_limited n (under a G) (below_size (suc a) G z) t r.0)

pub limited_completed : (n : ℕ) (G : Table) → OfSize n G → (u : Monomial) → Limited n (janet_limit G) G u → Completed n G u
unfolding janet_limit
limited_completed zero G z u l = record {
  size = l.size;
  inside = l.inside;
  each = λ i p. absurd (omega (arith, beyond u i (omega (arith, l.size, positive u i p))));
}
limited_completed (suc n) G z [] l = absurd (omega (arith, l.size))
limited_completed (suc n) G z (a ∷ t) l =
    let r = limited_slice l in
    slice_completed z (limited_completed n (under a G) (below_size (suc a) G z) t r.1) (limit_reaches G a r.0)

-- ---- a cap for each variable

abbrev pub cap_limit : Monomial → Monomial → ℕ
cap_limit caps p = caps ! suc (length p)

pub record Capped (n : ℕ) (caps : Monomial) (G : Table) (u : Monomial) : Type 0 where
  pub size : length u ≡ n
  pub inside : Inside G u
  pub divides : Divides u caps

pub capped_limited : (n : ℕ) (caps : Monomial) (G : Table) (u : Monomial) → Capped n caps G u → Limited n (cap_limit caps) G u
capped_limited n caps G u c = record {
  size = c.size;
  inside = c.inside;
  each = λ i l.
      let e : length (take i u) ≡ i = length-take-le i u (omega (arith, c.size)) in
      subst (λ (j : ℕ). u ! suc i ≤ caps ! suc j) (sym e) (c.divides (suc i));
}

pub limited_capped : (n : ℕ) (caps : Monomial) (G : Table) (u : Monomial) → Limited n (cap_limit caps) G u → Capped n caps G u
limited_capped n caps G u c = record { size = c.size; inside = c.inside; divides = divides }
  where
    divides : Divides u caps
    divides zero = omega arith
    divides (suc i) = by_cases (dec_lt i n)
        (λ l.
        let e : length (take i u) ≡ i = length-take-le i u (omega (arith, c.size)) in
        subst (λ (j : ℕ). u ! suc i ≤ caps ! suc j) e (c.each i l))
        (λ l. omega (arith, beyond u (suc i) (omega (arith, c.size))))
