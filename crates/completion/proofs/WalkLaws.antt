-- The recursion by slices gives rule 5's table.
-- The walk over the heads is stated for any family of tables that ideals settle; Janet's is one.
--
--   Family n S Ok          what the walk asks of S, and of the tables that it gives to the recursion
--   Passed a w             what holds of a walk that has passed the heads below a
--   passed_step, passed    it holds after one more head, and after each number of them
--   slices_table           the recursion gives the completed table of every table
--   slices_completed       it is `completed`
--   slices_none, slices_one   no rows; one variable: the least exponent
--   slices_walk, walk_stays, walk_grows   the recursion and the walk, equation by equation
--   walk_no_longer, walk_room    the generators are no more than the rows passed, and with the tails of a head no more than the rows
--   walk_generators, walk_block, walk_written   the sizes of the rows in the walk of `slices`
--   walk_part              what the walk has written is a front part of the result
use mathlib.Core.Path.{◌≡◌, refl, ap}
use mathlib.Core.Bool.{Bool, true, false}
use mathlib.Core.List.Memᴰ
use mathlib.Core.List.{[], ◌∷◌, ◌++◌, map, tail}
use mathlib.Core.Logic.{⊎_elim}
use Prim.Native.Nat.{ℕ, zero, suc, ◌+◌, ◌-◌, ◌≤◌, ◌<◌}
use native.Mathlib.Nat.{not-suc-le-zero}
use native.Mathlib.Omega.{arith}
use lib.Dec.{T, ltb, eqb}
use lib.ListN.{length, length-append}
use Rattle.checks.specs.Tests.{Tests, pick, keep}
use Rattle.checks.proofs.TestLaws.{tests_lt, tests_eq}
use Rattle.terms.specs.Monomials.{Monomial, Table, ◌!◌, OfSize}
use Rattle.terms.specs.Ideal.{SameIdeal}
use Rattle.terms.proofs.IdealLaws.{inside_none, same_ideal_refl, same_ideal_sym, same_ideal_trans}
use Rattle.completion.specs.Blocks.{behind, repeated}
use Rattle.completion.specs.Completed.{Completed, CompletedTable, completed}
use Rattle.completion.specs.Slices.{slice, at, below, under, front, heads, fresh, Walk, started, shorter, grown, step, walk, slices}
use Rattle.completion.proofs.BlockLaws.{Lists, lists_none}
use Rattle.completion.proofs.RuleFive.{completed_table, completed_same_ideal}
use Rattle.completion.proofs.SmallestTable.{completion_ideal}
use Rattle.completion.proofs.SliceLaws.{table_lists, lists_table, at_size, below_none, Grows, still_ideal, tests_grows_by, generates_under, ByIdeal}
use Rattle.completion.proofs.SliceLaws.{moves_lists, completed_settled, Last, last_start, last_stays, last_grows, Upto, upto_stays, upto_grows}
use Rattle.completion.proofs.SliceLaws.{front_table, finish, front_part, heads_above, empty, no_variables, one_variable, LeastHead}

-- ---- the walk over the heads

pub record Family (n : ℕ) (S : Table → Monomial → Type 0) (Ok : Table → Type 0) : Type 0 where
  pub settled : ByIdeal n S
  pub none : Ok []
  pub both : (G H : Table) → Ok G → Ok H → Ok (G ++ H)
  pub made : (G K : Table) → Ok G → Lists (S G) K → Ok K
  pub generates : (G K : Table) → Ok G → Lists (S G) K → SameIdeal n G K

module _ {n : ℕ} {S : Table → Monomial → Type 0} {Ok : Table → Type 0} (y : Family n S Ok) (G : Table) (z : OfSize (suc n) G) (ok : (a : ℕ) → Ok (at a G))
    (f : Table → Table) (rec : (H : Table) → Ok H → Lists (S H) (f H)) where
  pub record Passed (a : ℕ) (w : Walk) : Type 0 where
    pub written : Lists (Upto S G a w.last) w.written
    pub block : Lists (S (below a G)) w.block
    pub ideal : SameIdeal n w.generators (below a G)
    pub fine : Ok w.generators
    pub last : Last G a w.last
    -- the block stands at the end of what is written
    pub end : (R : Table) × (R ++ behind w.last w.block ≡ w.written)

  passed_start : Passed 0 started
  unfolding behind
  passed_start = record {
    written = lists_none (λ u h. not-suc-le-zero h.allowed.0);
    block = lists_none (λ u h. below_none G (y.settled.within (below 0 G) u h));
    ideal = record { into = λ q e h. absurd (inside_none q h); back = λ q e h. absurd (below_none G h) };
    fine = y.none;
    last = last_start G;
    end = ([], refl);
  }

  passed_stays : {a : ℕ} {w : Walk} → (Grows a G → ⊥) → Passed a w → Passed (suc a) w
  passed_stays {a} g h =
      let s : SameIdeal n (below a G) (under a G) = same_ideal_sym (still_ideal n g) in
      record {
        written = upto_stays y.settled G h.last g h.written;
        block = moves_lists y.settled (below a G) (under a G) s h.block;
        ideal = same_ideal_trans h.ideal s;
        fine = h.fine;
        last = last_stays g h.last;
        end = h.end;
      }

  passed_grows : {a : ℕ} {w : Walk} (K : Table) → Grows a G → Passed a w → SameIdeal n K (under a G) → Ok K → Passed (suc a) (grown f a w K)
  unfolding grown shorter
  passed_grows {a} {w} K g h s o =
      let t : Lists (S (under a G)) (f K) = moves_lists y.settled K (under a G) s (rec K o) in
      let i : SameIdeal n (f K) (under a G) = same_ideal_trans (same_ideal_sym (y.generates K (f K) o (rec K o))) s in
      record {
        written = upto_grows y.settled G h.last h.written h.block t;
        block = t;
        ideal = either (λ (H : Table). SameIdeal n H (under a G)) (ltb (length (f K)) (length K)) i s;
        fine = either Ok (ltb (length (f K)) (length K)) (y.made K (f K) o (rec K o)) o;
        last = last_grows g;
        end = (w.written ++ repeated (suc w.last) (a - suc w.last) w.block, refl);
      }
    where
      either : (P : Table → Type 0) (c : Bool) → P (f K) → P K → P (pick c (f K) K)
      either P true p q = p
      either P false p q = q

  pub passed_step : {a : ℕ} {w : Walk} → Passed a w → Passed (suc a) (step f G a w)
  unfolding step
  passed_step {a} {w} h = go (fresh w.generators (at a G)) (tests_grows_by a G h.ideal z)
    where
      go : (c : Bool) → Tests c (Grows a G) → Passed (suc a) (pick c (grown f a w (w.generators ++ at a G)) w)
      go true t = passed_grows (w.generators ++ at a G) (t.sound tt) h (generates_under a G h.ideal) (y.both w.generators (at a G) h.fine (ok a))
      go false t = passed_stays t.complete h

  pub passed : (a : ℕ) → Passed a (walk f G a)
  unfolding walk
  passed zero = passed_start
  passed (suc a) = passed_step (passed a)

-- ---- Janet's recursion

pub size_none : (n : ℕ) → OfSize n []
size_none n u m = absurd (Memᴰ.not-nil m)

pub size_both : (n : ℕ) (G H : Table) → OfSize n G → OfSize n H → OfSize n (G ++ H)
size_both n G H z y u m = ⊎_elim (z u) (y u) (Memᴰ.append_cases G m)

pub janet_family : (n : ℕ) → Family n (Completed n) (OfSize n)
janet_family n = record {
  settled = completed_settled n;
  none = size_none n;
  both = size_both n;
  made = λ G K z t u m. (t.only u m).size;
  generates = λ G K z t. completion_ideal n G z (lists_table t);
}

module _ (n : ℕ) (G : Table) (z : OfSize (suc n) G) (rec : (H : Table) → OfSize n H → CompletedTable n H (slices n H)) where
  janet_passed : (a : ℕ) → Passed (janet_family n) G z (λ b. at_size b G z) (λ H. slices n H) (λ H s. table_lists (rec H s)) a (walk (λ H. slices n H) G a)
  janet_passed a = passed (janet_family n) G z (λ b. at_size b G z) (λ H. slices n H) (λ H s. table_lists (rec H s)) a

  -- after the heads below a: the completed table of the rows with such a head
  janet_front : (a : ℕ) → CompletedTable (suc n) (front a G) (walk (λ H. slices n H) G a).written
  janet_front a = let w = janet_passed a in front_table n G z w.last w.written

pub slices_table : (n : ℕ) (G : Table) → OfSize n G → CompletedTable n G (slices n G)
unfolding slices
slices_table zero [] z = empty 0
slices_table zero (u ∷ G) z = no_variables z (Memᴰ.head refl)
slices_table (suc n) G z = finish n G (heads_above G) (janet_front n G z (slices_table n) (heads G))

-- Any completed table, of any table of the ideal, is the recursion's.
pub slices_unique : {n : ℕ} {G H K : Table} → OfSize n G → SameIdeal n G H → CompletedTable n H K → slices n G ≡ K
slices_unique {n} {G} z s t = completed_same_ideal s (slices_table n G z) t

pub slices_completed : (n : ℕ) (G : Table) → OfSize n G → slices n G ≡ completed n G
slices_completed n G z = slices_unique z (same_ideal_refl n G) (completed_table n G z)

pub slices_size : (n : ℕ) (G : Table) → OfSize n G → OfSize n (slices n G)
slices_size n G z u m = ((slices_table n G z).only u m).size

pub slices_none : (n : ℕ) → slices n [] ≡ []
slices_none n = slices_unique (size_none n) (same_ideal_refl n []) (empty n)

pub slices_one : {G : Table} {m : ℕ} → OfSize 1 G → LeastHead G m → slices 1 G ≡ (m ∷ []) ∷ []
slices_one {G} z l = slices_unique z (same_ideal_refl 1 G) (one_variable z l)

-- ---- the walk, equation by equation

pub slices_walk : (n : ℕ) (G : Table) → slices (suc n) G ≡ (walk (λ H. slices n H) G (heads G)).written
unfolding slices
slices_walk n G = refl

module _ (f : Table → Table) (G : Table) (a : ℕ) where
  pub walk_stays : fresh (walk f G a).generators (at a G) ≡ false → walk f G (suc a) ≡ walk f G a
  unfolding walk step
  walk_stays e = ap (λ (c : Bool). pick c (grown f a (walk f G a) ((walk f G a).generators ++ at a G)) (walk f G a)) e

  pub walk_grows : fresh (walk f G a).generators (at a G) ≡ true → walk f G (suc a) ≡ grown f a (walk f G a) ((walk f G a).generators ++ at a G)
  unfolding walk step
  walk_grows e = ap (λ (c : Bool). pick c (grown f a (walk f G a) ((walk f G a).generators ++ at a G)) (walk f G a)) e

-- ---- how many rows the walk keeps

-- of two slices that no head shares, within a third
slices_within : (f g h : ℕ → Bool) (G : Table) → ((b : ℕ) → T (f b) → T (h b)) → ((b : ℕ) → T (g b) → T (h b)) → ((b : ℕ) → T (f b) → T (g b) → ⊥) →
    length (slice f G) + length (slice g G) ≤ length (slice h G)
unfolding slice
slices_within f g h [] p q r = omega arith
slices_within f g h (u ∷ G) p q r = go (f (u ! 1)) (g (u ! 1)) (h (u ! 1)) (p (u ! 1)) (q (u ! 1)) (r (u ! 1)) (slices_within f g h G p q r)
  where
    count : (ℕ → Bool) → Bool → ℕ
    count k c = length (map tail (pick c (u ∷ keep (λ v. k (v ! 1)) G) (keep (λ v. k (v ! 1)) G)))

    go : (x y z : Bool) → (T x → T z) → (T y → T z) → (T x → T y → ⊥) → length (slice f G) + length (slice g G) ≤ length (slice h G) →
        count f x + count g y ≤ count h z
    go true true z i j k l = absurd (k tt tt)
    go true false true i j k l = omega arith
    go true false false i j k l = absurd (i tt)
    go false true true i j k l = omega arith
    go false true false i j k l = absurd (j tt)
    go false false true i j k l = omega arith
    go false false false i j k l = l

pub slice_no_longer : (f : ℕ → Bool) (G : Table) → length (slice f G) ≤ length G
unfolding slice
slice_no_longer f [] = omega arith
slice_no_longer f (u ∷ G) = go (f (u ! 1)) (slice_no_longer f G)
  where
    go : (x : Bool) → length (slice f G) ≤ length G → length (map tail (pick x (u ∷ keep (λ v. f (v ! 1)) G) (keep (λ v. f (v ! 1)) G))) ≤ suc (length G)
    go true l = omega arith
    go false l = omega arith

-- the tails of head a come to those of the heads below
pub under_counts : (a : ℕ) (G : Table) → length (below a G) + length (at a G) ≤ length (under a G)
under_counts a G = slices_within (λ b. ltb b a) (λ b. eqb b a) (λ b. ltb b (suc a)) G
    (λ b t. (tests_lt b (suc a)).complete (omega (arith, (tests_lt b a).sound t)))
    (λ b t. (tests_lt b (suc a)).complete (omega (arith, (tests_eq b a).sound t)))
    (λ b s t. omega (arith, (tests_lt b a).sound s, (tests_eq b a).sound t))

shorter_no_longer : (B K : Table) → length (shorter B K) ≤ length K
unfolding shorter
shorter_no_longer B K = go (ltb (length B) (length K)) (tests_lt (length B) (length K)).sound
  where
    go : (c : Bool) → (T c → length B < length K) → length (pick c B K) ≤ length K
    go true l = omega (arith, l tt)
    go false l = omega arith

-- whatever f gives, the shorter of it and its generators is kept
pub walk_no_longer : (f : Table → Table) (G : Table) (a : ℕ) → length (walk f G a).generators ≤ length (below a G)
unfolding walk step grown
walk_no_longer f G zero = omega arith
walk_no_longer f G (suc a) = go (fresh (walk f G a).generators (at a G)) (walk_no_longer f G a)
  where
    K : Table
    K = (walk f G a).generators ++ at a G

    go : (c : Bool) → length (walk f G a).generators ≤ length (below a G) →
        length (pick c (grown f a (walk f G a) ((walk f G a).generators ++ at a G)) (walk f G a)).generators ≤ length (under a G)
    go true l = omega (arith, shorter_no_longer (f K) K, length-append (walk f G a).generators (at a G), under_counts a G)
    go false l = omega (arith, under_counts a G)

pub walk_room : (f : Table → Table) (G : Table) (a : ℕ) → length (walk f G a).generators + length (at a G) ≤ length G
walk_room f G a = omega (arith, walk_no_longer f G a, under_counts a G, slice_no_longer (λ b. ltb b (suc a)) G)

module _ (n : ℕ) (G : Table) (z : OfSize (suc n) G) (a : ℕ) where
  pub walk_generators : OfSize n (walk (λ H. slices n H) G a).generators
  walk_generators = (janet_passed n G z (slices_table n) a).fine

  pub walk_block : OfSize n (walk (λ H. slices n H) G a).block
  walk_block u m = ((janet_passed n G z (slices_table n) a).block.only u m).size

  pub walk_written : OfSize (suc n) (walk (λ H. slices n H) G a).written
  walk_written u m = ((janet_front n G z (slices_table n) a).only u m).size

  -- the block stands at the end of what is written
  pub walk_end : (R : Table) × (R ++ behind (walk (λ H. slices n H) G a).last (walk (λ H. slices n H) G a).block ≡ (walk (λ H. slices n H) G a).written)
  walk_end = (janet_passed n G z (slices_table n) a).end

-- ---- front parts

-- What the walk has written is a front part of the result.
pub walk_part : (n : ℕ) (G : Table) → OfSize (suc n) G → (a : ℕ) → (R : Table) × ((walk (λ H. slices n H) G a).written ++ R ≡ slices (suc n) G)
walk_part n G z a = front_part n G z a (janet_front n G z (slices_table n) a) (slices_table (suc n) G z)
