-- What ties the recursion on lists to rows in a buffer: rows behind a common front, and room.
--
--   flat_append            the bytes of two tables, one behind the other
--   length_behind, -after  how many rows there are
--   after_size             the rows behind a front of k exponents have k more
--   after_append, -behind, -set, -drop   a block in a buffer: appended, under the next front, copied with one column set, without its first columns
--   fit_within, fit_beyond, beyond_fit, within_fit, fit_more   room, and that running out of it is final
--   walk_fit               a walk that has run out of room has the answer of the whole
use mathlib.Core.Path.{◌≡◌, refl, sym, ap, ◌∙◌}
use mathlib.Core.List.Memᴰ
use mathlib.Core.List.{List, [], ◌∷◌, ◌++◌, map, append_assoc}
use mathlib.Core.Logic.{by_cases}
use Prim.Native.Nat.{ℕ, suc, ◌+◌, ◌*◌, ◌≤◌, ◌<◌}
use native.Mathlib.Decide.{dec_le}
use native.Mathlib.Nat.{mul-le-mul_right}
use native.Mathlib.Omega.{arith}
use lib.ListN.{length, set, drop, length-append, length-map}
use Rattle.std.proofs.Common.{Some, None}
use Rattle.checks.proofs.TestLaws.{pick_true, pick_false, tests_le}
use Rattle.terms.specs.Monomials.{Monomial, Table, OfSize}
use Rattle.terms.specs.Rows.{flat}
use Rattle.completion.specs.Blocks.{behind}
use Rattle.completion.specs.Slices.{walk, slices}
use Rattle.blocks.specs.Bytes.{after, fit}
use Rattle.completion.proofs.BlockLaws.{cons_same}
use Rattle.completion.proofs.WalkLaws.{walk_part}

-- ---- bytes

pub flat_append : (G H : Table) → flat (G ++ H) ≡ flat G ++ flat H
unfolding flat
flat_append [] H = refl
flat_append (u ∷ G) H = ap (λ (l : List ℕ). u ++ l) (flat_append G H) ∙ sym (append_assoc u (flat G) (flat H))

-- ---- how many rows

pub length_behind : (a : ℕ) (B : Table) → length (behind a B) ≡ length B
unfolding behind
length_behind a B = length-map B (λ t. a ∷ t)

pub length_after : (p : Monomial) (H : Table) → length (after p H) ≡ length H
unfolding after
length_after p H = length-map H (λ t. p ++ t)

-- ---- rows behind a front

pub after_size : {n : ℕ} (p : Monomial) (H : Table) → OfSize n H → OfSize (length p + n) (after p H)
unfolding after
after_size {n} p H z u m =
    let r = Memᴰ.of_map (λ t. p ++ t) H m in
    ap length (sym r.2) ∙ length-append p r.0 ∙ ap (λ (k : ℕ). length p + k) (z r.0 r.1)

pub after_none : (H : Table) → after [] H ≡ H
unfolding after
after_none [] = refl
after_none (u ∷ H) = cons_same refl (after_none H)

pub after_append : (p : Monomial) (G H : Table) → after p (G ++ H) ≡ after p G ++ after p H
unfolding after
after_append p [] H = refl
after_append p (u ∷ G) H = cons_same refl (after_append p G H)

front_next : (p : Monomial) (a : ℕ) (t : Monomial) → p ++ (a ∷ t) ≡ p ++ (a ∷ []) ++ t
front_next [] a t = refl
front_next (x ∷ p) a t = cons_same refl (front_next p a t)

-- the block of head a is what the next variable appends behind the longer front
pub after_behind : (p : Monomial) (a : ℕ) (B : Table) → after p (behind a B) ≡ after (p ++ (a ∷ [])) B
unfolding after behind
after_behind p a [] = refl
after_behind p a (t ∷ B) = cons_same (front_next p a t) (after_behind p a B)

set_front : (p : Monomial) (a e : ℕ) (t : Monomial) → set (p ++ (a ∷ t)) (length p) e ≡ p ++ (e ∷ t)
set_front [] a e t = refl
set_front (x ∷ p) a e t = cons_same refl (set_front p a e t)

-- the block again with another head: a copy with one column set
pub after_set : (p : Monomial) (a e : ℕ) (B : Table) → map (λ u. set u (length p) e) (after p (behind a B)) ≡ after p (behind e B)
unfolding after behind
after_set p a e [] = refl
after_set p a e (t ∷ B) = cons_same (set_front p a e t) (after_set p a e B)

drop_front : (p : Monomial) (a : ℕ) (t : Monomial) → drop (suc (length p)) (p ++ (a ∷ t)) ≡ t
drop_front [] a t = refl
drop_front (x ∷ p) a t = drop_front p a t

-- the block as generators: its columns behind the head
pub after_drop : (p : Monomial) (a : ℕ) (B : Table) → map (λ u. drop (suc (length p)) u) (after p (behind a B)) ≡ B
unfolding after behind
after_drop p a [] = refl
after_drop p a (t ∷ B) = cons_same (drop_front p a t) (after_drop p a B)

-- ---- room

pub fit_within : (n size e : ℕ) → e * n ≤ size → fit n size e ≡ Some e
unfolding fit
fit_within n size e h = sym (pick_true (tests_le (e * n) size) (Some e) None h)

pub fit_beyond : (n size e : ℕ) → size < e * n → fit n size e ≡ None
unfolding fit
fit_beyond n size e h = sym (pick_false (tests_le (e * n) size) (Some e) None (λ l. omega arith))

pub beyond_fit : (n size e : ℕ) → None ≡ fit n size e → size < e * n
beyond_fit n size e h = by_cases (dec_le (e * n) size) (λ l. let some = fit_within n size e l in cc) (λ l. omega arith)

pub within_fit : (n size e x : ℕ) → Some x ≡ fit n size e → (x ≡ e) × (e * n ≤ size)
within_fit n size e x h = by_cases (dec_le (e * n) size)
    (λ l. let some = fit_within n size e l in (cc, l))
    (λ l. let none = fit_beyond n size e (omega arith) in cc)

-- where some rows have no room, more have none
pub fit_more : (n size e more : ℕ) → size < e * n → e ≤ more → fit n size more ≡ None
fit_more n size e more h l = let m : e * n ≤ more * n = mul-le-mul_right n l in fit_beyond n size more (omega arith)

-- where what a walk has written has no room, the whole has none
pub walk_fit : (rest : ℕ) (G : Table) → OfSize (suc rest) G → (n size from a : ℕ) → size < (from + length (walk (λ H. slices rest H) G a).written) * n →
    fit n size (from + length (slices (suc rest) G)) ≡ None
walk_fit rest G z n size from a h =
    let W : Table = (walk (λ H. slices rest H) G a).written in
    let r = walk_part rest G z a in
    fit_more n size (from + length W) _ h (omega (arith, length-append W r.0, ap length r.1))
