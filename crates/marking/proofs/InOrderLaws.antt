-- Laws of the rows of a table in ascending order, and of the walk over them.
--
--   given_within           what gives such an order gives the numbers of rows
--   ascending_order, listing_order   the rows of an ascending table, and those of a listing, in ascending order
--   order_distinct         no two rows are equal
--   last_in_order, before_in_order   the marks of the last row, and of the one before a place
--   read_at, carried_asks, carried_marks   the same of rows that were read, in a walk that carries the next row along
use mathlib.Core.Path.{◌≡◌, refl, sym, ap, ◌∙◌, subst}
use mathlib.Core.List.{List, []}
use mathlib.Core.Logic.{⊎_elim, by_cases}
use Prim.Native.Nat.{ℕ, suc, ◌+◌, ◌-◌, ◌^◌, ◌≤◌, ◌<◌}
use native.Mathlib.Nat.{eq-or-lt_of_le}
use native.Mathlib.Decide.{dec_lt}
use native.Mathlib.Omega.{arith}
use lib.ListN.{length, get_or}
use Rattle.terms.specs.Monomials.{Monomial, Table, ◌∈◌, row_at, Distinct}
use Rattle.terms.specs.Rows.{rows, as_row, monomial_of}
use Rattle.terms.specs.declared.Row.{Row}
use Rattle.terms.specs.declared.RowNumber.{RowNumber}
use Rattle.terms.proofs.RowsLaws.{row_size, member_at, member_index}
use Rattle.terms.proofs.OrderLaws.{precedes_irreflexive, precedes_trans, ascending_between}
use Rattle.terms.specs.Order.{Precedes, Ascending}
use Rattle.division.specs.Janet.{marks_of}
use Rattle.marking.specs.InOrder.{InOrder, GivesOrder}
use Rattle.marking.specs.NextRow.{NextMarks}
use Rattle.division.proofs.SuccessorLaws.{marks_highest}
use Rattle.ordering.specs.Listing.{Listing}
use Rattle.distinct.proofs.EqualLaws.{distinct_precedes}
use Rattle.marking.proofs.NextRowLaws.{next_marks, next_asks, next_gives}

-- ---- the rows in ascending order

pub given_within : (G : Table) {pre : ℕ → Type 0} {post : ℕ → RowNumber → Type 0} (o : GivesOrder G pre post) (k : ℕ) → k < length G
    → {r : RowNumber} → post k r → r.0 < length G
given_within G o k l p = omega (arith, o.order.numbers k l, o.given k _ p)

pub ascending_order : (G : Table) → Ascending G → InOrder G (λ k. k)
ascending_order G a = record { numbers = λ k l. l; places = λ r l. (r, l, refl); ordered = ascending_between G a }

pub listing_order : (G : Table) (order : List ℕ) → Listing G order → Distinct G → InOrder G (λ k. get_or order k 0)
listing_order G order s d = record { numbers = s.numbers; places = s.places; ordered = distinct_precedes G order s d }

module _ (n : ℕ) (G : Table) (number : ℕ → ℕ) (o : InOrder G number) where
  abbrev at : ℕ → Monomial
  at k = row_at G (number k)

  at_place : (v : Monomial) → v ∈ G → (m : ℕ) × (m < length G) × (at m ≡ v)
  at_place v i =
      let r = member_index G [] v i in
      let m = o.places r.0 r.1 in
      (m.0, m.1, ap (row_at G) m.2 ∙ r.2)

  -- no row comes behind a later one
  not_back : (l m : ℕ) → l ≤ m → m < length G → (v : Monomial) → at l ≡ v → Precedes (at m) v → ⊥
  not_back l m h b v e p =
      let q : Precedes (at m) (at l) = subst (λ (x : Monomial). Precedes (at m) x) (sym e) p in
      ⊎_elim
      (λ z. precedes_irreflexive (at m) (subst (λ (k : ℕ). Precedes (at m) (at k)) z q))
      (λ o'. precedes_irreflexive (at m) (precedes_trans q (o.ordered l m o' b)))
      (eq-or-lt_of_le h)

  -- so no two rows are equal
  pub order_distinct : Distinct G
  order_distinct (s, l, (r, h, e)) =
      let i = o.places r (omega arith) in
      let j = o.places s l in
      let same : at i.0 ≡ at j.0 = ap (row_at G) i.2 ∙ e ∙ sym (ap (row_at G) j.2) in
      by_cases (dec_lt i.0 j.0)
      (λ b. precedes_irreflexive (at j.0) (subst (λ (u : Monomial). Precedes u (at j.0)) same (o.ordered i.0 j.0 b j.1)))
      (λ g. by_cases (dec_lt j.0 i.0)
      (λ b. precedes_irreflexive (at i.0) (subst (λ (u : Monomial). Precedes u (at i.0)) (sym same) (o.ordered j.0 i.0 b i.1)))
      (λ d. let z : i.0 ≡ j.0 = omega arith in omega (arith, ap number z, i.2, j.2)))

  -- no row comes after the last
  pub last_in_order : (k v : ℕ) → suc k ≡ length G → v + 1 ≡ 2 ^ n → v ≡ marks_of n G (at k)
  last_in_order k v e h = omega (arith, marks_highest n G (at k) none)
    where
      none : (v : Monomial) → v ∈ G → Precedes (at k) v → ⊥
      none v i p = let m = at_place v i in not_back m.0 k (omega (arith, m.1)) (omega arith) v m.2 p

  -- no row stands between the row before place k and the one at k
  before_in_order : (k : ℕ) → 0 < k → k < length G → (m r : ℕ) → m ≡ marks_of n G (at k) → NextMarks n (at (k - 1)) (at k) m r
      → r ≡ marks_of n G (at (k - 1))
  before_in_order k p l m r e d = next_marks n G (at (k - 1)) (at k) (member_at G [] (number k) (o.numbers k l)) none r
      (subst (λ (y : ℕ). NextMarks n (at (k - 1)) (at k) y r) e d)
    where
      none : (v : Monomial) → v ∈ G → Precedes (at (k - 1)) v → Precedes v (at k) → ⊥
      none v i a b =
          let m = at_place v i in
          by_cases (dec_lt m.0 k)
          (λ h. not_back m.0 (k - 1) (omega arith) (omega arith) v m.2 a)
          (λ g. not_back k m.0 (omega arith) m.1 (at k) refl (subst (λ (x : Monomial). Precedes x (at k)) (sym m.2) b))

-- a row that was read by a number, which is the one at a place
pub read_at : (n : ℕ) (G : Table) {r k : ℕ} {row : Row} → row ≡ as_row n (row_at G r) → r ≡ k → row ≡ as_row n (row_at G k)
read_at n G is e = is ∙ ap (λ (x : ℕ). as_row n (row_at G x)) e

-- ---- a walk over them from the last to the first, which carries the next row along: the row before place k, and the row at k

module _ (n : ℕ) (table : List ℕ) (six : n ≤ 6) (number : ℕ → ℕ) (o : InOrder (rows n table) number) (k : ℕ) (p : 0 < k) (l : k < length (rows n table))
    (row next : Row) (is : row ≡ as_row n (row_at (rows n table) (number (k - 1)))) (next-is : next ≡ as_row n (row_at (rows n table) (number k))) where
  abbrev before : Monomial
  before = row_at (rows n table) (number (k - 1))

  abbrev after : Monomial
  after = row_at (rows n table) (number k)

  size : length before ≡ n
  size = row_size n table (number (k - 1)) (o.numbers (k - 1) (omega arith))

  next-size : length after ≡ n
  next-size = row_size n table (number k) (o.numbers k l)

  pub carried_asks : (row.n ≤ 6) × (next.n ≡ row.n) × Precedes (monomial_of row) (monomial_of next)
  carried_asks = next_asks n before after row next six size next-size is next-is (o.ordered (k - 1) k (omega arith) l)

  pub carried_marks : (m r : ℕ) → m ≡ marks_of n (rows n table) (row_at (rows n table) (number k))
      → NextMarks row.n (monomial_of row) (monomial_of next) m r → r ≡ marks_of n (rows n table) (row_at (rows n table) (number (k - 1)))
  carried_marks m r e d =
      before_in_order n (rows n table) number o k p l m r e (next_gives n before after row next six size next-size is next-is d)
