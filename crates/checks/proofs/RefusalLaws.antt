-- Laws of refusals: a number is given exactly when its condition holds and none earlier in the order does.
--
--   refusal_refuses, refuses_refusal   the number that is computed is the number given
--   accepted, accepts_refusal          0 is computed exactly where no condition holds
--   accepts_head, accepts_tail, accepts_left, accepts_right   what passes a list passes each part
--   accepts_cons, accepts_append       and what passes each part passes the list
--   refusal_append, refusal_first      the refusal of a list in two parts: the second decides, or the first does
--   refuses_first, passes_first        the same of a number that was computed
--   first_passes, rest_passes          where the list refuses nothing, neither part does
--   answered_accepted, answered_refused   what is given beside the number, accepted and refused
--   numbered_refused                   the answer whose number is not 0 is the refusal by that number
use mathlib.Core.Path.{◌≡◌, refl, sym, ap, ◌∙◌, subst}
use mathlib.Core.Bool.{Bool, true, false}
use mathlib.Core.List.Memᴰ
use mathlib.Core.List.{List, [], ◌∷◌, ◌++◌}
use mathlib.Core.Logic.{◌⊎◌, inl, inr, ⊎_elim}
use Prim.Native.Nat.{ℕ, zero, suc, ◌<◌}
use native.Mathlib.Nat.{not-suc-le-zero, pos_of_ne-zero}
use native.Mathlib.Omega.{arith}
use Rattle.checks.specs.Tests.{pick}
use Rattle.checks.specs.Refusals.{Check, refusal, Accepts, Refuses, answered, numbered}
use Rattle.checks.proofs.TestLaws.{true_tests, false_tests, pick_true, pick_false, tests_eq}

-- the first check refuses, or it passes and the others decide
first_check : (c : Check) (checks : List Check)
    → (c.Condition × (refusal (c ∷ checks) ≡ c.number)) ⊎ ((c.Condition → ⊥) × (refusal (c ∷ checks) ≡ refusal checks))
unfolding refusal
first_check c checks = go c.test (λ e. true_tests c.agrees e) (λ e. false_tests c.agrees e)
  where
    go : (b : Bool) → (b ≡ true → c.Condition) → (b ≡ false → c.Condition → ⊥)
        → (c.Condition × (pick b c.number (refusal checks) ≡ c.number)) ⊎ ((c.Condition → ⊥) × (pick b c.number (refusal checks) ≡ refusal checks))
    go true s f = inl (s refl, refl)
    go false s f = inr (f refl, refl)

pub refusal_holds : (c : Check) (checks : List Check) → c.Condition → refusal (c ∷ checks) ≡ c.number
refusal_holds c checks h = ⊎_elim (λ p. p.1) (λ p. absurd (p.0 h)) (first_check c checks)

pub refusal_passes : (c : Check) (checks : List Check) → (c.Condition → ⊥) → refusal (c ∷ checks) ≡ refusal checks
refusal_passes c checks f = ⊎_elim (λ p. absurd (f p.0)) (λ p. p.1) (first_check c checks)

-- where no check is left nothing is refused
pub refusal_none : refusal [] ≡ 0
unfolding refusal
refusal_none = refl

-- ---- what passes a list, and its parts

pub accepts_nil : Accepts []
accepts_nil c m = absurd (Memᴰ.not-nil m)

pub accepts_cons : (c : Check) (checks : List Check) → (c.Condition → ⊥) → Accepts checks → Accepts (c ∷ checks)
accepts_cons c checks f a d m h = ⊎_elim (λ e. f (subst (λ (x : Check). x.Condition) e h)) (λ i. a d i h) (Memᴰ.cases_cons m)

pub accepts_head : (c : Check) (checks : List Check) → Accepts (c ∷ checks) → c.Condition → ⊥
accepts_head c checks a = a c (Memᴰ.head refl)

pub accepts_tail : (c : Check) (checks : List Check) → Accepts (c ∷ checks) → Accepts checks
accepts_tail c checks a d m = a d (Memᴰ.tail m)

pub accepts_left : (checks more : List Check) → Accepts (checks ++ more) → Accepts checks
accepts_left checks more a c m = a c (Memᴰ.append_left more m)

pub accepts_right : (checks more : List Check) → Accepts (checks ++ more) → Accepts more
accepts_right checks more a c m = a c (Memᴰ.append_right checks m)

pub accepts_append : (checks more : List Check) → Accepts checks → Accepts more → Accepts (checks ++ more)
accepts_append [] more a b = b
accepts_append (c ∷ checks) more a b =
    accepts_cons c (checks ++ more) (accepts_head c checks a) (accepts_append checks more (accepts_tail c checks a) b)

-- ---- exactly when none holds

pub accepted : (checks : List Check) → refusal checks ≡ 0 → Accepts checks
accepted [] e = accepts_nil
accepted (c ∷ checks) e = ⊎_elim
    (λ p. absurd (omega (arith, c.positive, p.1)))
    (λ p. accepts_cons c checks p.0 (accepted checks (sym p.1 ∙ e)))
    (first_check c checks)

pub accepts_refusal : (checks : List Check) → Accepts checks → refusal checks ≡ 0
unfolding refusal
accepts_refusal [] a = refl
accepts_refusal (c ∷ checks) a =
    refusal_passes c checks (accepts_head c checks a) ∙ accepts_refusal checks (accepts_tail c checks a)

-- ---- exactly the first that holds

pub refusal_refuses : (checks : List Check) → 0 < refusal checks → Refuses checks (refusal checks)
unfolding refusal
refusal_refuses [] p = absurd (not-suc-le-zero p)
refusal_refuses (c ∷ checks) p = ⊎_elim
    (λ h. record { earlier = []; check = c; later = checks; order = refl; number = sym h.1; holds = h.0; none = accepts_nil })
    (λ h. later h (refusal_refuses checks (omega (arith, h.1))))
    (first_check c checks)
  where
    later : (c.Condition → ⊥) × (refusal (c ∷ checks) ≡ refusal checks) → Refuses checks (refusal checks) → Refuses (c ∷ checks) (refusal (c ∷ checks))
    later h r = record {
      earlier = c ∷ r.earlier;
      check = r.check;
      later = r.later;
      order = ap (λ (l : List Check). c ∷ l) r.order;
      number = r.number ∙ sym h.1;
      holds = r.holds;
      none = accepts_cons c r.earlier h.0 r.none;
    }

-- checks that pass may be left out in front
pub refusal_append : (earlier checks : List Check) → Accepts earlier → refusal (earlier ++ checks) ≡ refusal checks
refusal_append [] checks a = refl
refusal_append (c ∷ earlier) checks a =
    refusal_passes c (earlier ++ checks) (accepts_head c earlier a) ∙ refusal_append earlier checks (accepts_tail c earlier a)

pub refuses_refusal : (checks : List Check) (m : ℕ) → Refuses checks m → refusal checks ≡ m
refuses_refusal checks m r =
    ap refusal r.order ∙ refusal_append r.earlier (r.check ∷ r.later) r.none ∙ refusal_holds r.check r.later r.holds ∙ r.number

-- what refuses in front refuses the whole
pub refusal_first : (earlier checks : List Check) → 0 < refusal earlier → refusal (earlier ++ checks) ≡ refusal earlier
unfolding refusal
refusal_first [] checks p = absurd (not-suc-le-zero p)
refusal_first (c ∷ earlier) checks p = ⊎_elim
    (λ h. refusal_holds c (earlier ++ checks) h.0 ∙ sym h.1)
    (λ h. refusal_passes c (earlier ++ checks) h.0 ∙ refusal_first earlier checks (omega (arith, h.1)) ∙ sym h.1)
    (first_check c earlier)

-- what the first part refuses is refused; where it passes, the second part decides
pub refuses_first : (checks more : List Check) (m : ℕ) → m ≡ refusal checks → (m ≡ 0 → ⊥) → m ≡ refusal (checks ++ more)
refuses_first checks more m e f = e ∙ sym (refusal_first checks more (rw e at (pos_of_ne-zero f)))

pub passes_first : (checks more : List Check) (m : ℕ) → refusal checks ≡ 0 → m ≡ refusal more → m ≡ refusal (checks ++ more)
passes_first checks more m e h = h ∙ sym (refusal_append checks more (accepted checks e))

-- where nothing is refused neither part refuses
pub first_passes : (checks more : List Check) → refusal (checks ++ more) ≡ 0 → refusal checks ≡ 0
first_passes checks more e = accepts_refusal checks (accepts_left checks more (accepted (checks ++ more) e))

pub rest_passes : (checks more : List Check) → refusal (checks ++ more) ≡ 0 → refusal more ≡ 0
rest_passes checks more e = accepts_refusal more (accepts_right checks more (accepted (checks ++ more) e))

-- ---- what stands beside the number

pub answered_accepted : {A : Type 0} (checks : List Check) (x z : A) → refusal checks ≡ 0 → answered checks x z ≡ x
unfolding answered
answered_accepted checks x z e = sym (pick_true (tests_eq (refusal checks) 0) x z e)

pub answered_refused : {A : Type 0} (checks : List Check) (x z : A) → (refusal checks ≡ 0 → ⊥) → answered checks x z ≡ z
unfolding answered
answered_refused checks x z f = sym (pick_false (tests_eq (refusal checks) 0) x z f)

pub numbered_refused : {A : Type 0} (m : ℕ) (refused : ℕ → A) (given : A) → (m ≡ 0 → ⊥) → numbered m refused given ≡ refused m
numbered_refused zero refused given f = absurd (f refl)
numbered_refused (suc m) refused given f = refl
