-- Laws of lists of numbers, for the exponents that a descent steps on.
--
--   Rising l               l ascends strictly: its first number is below all others, and so on
--   insert_in, -make, -rising      a number put into its place
--   distinct_in, -make, -rising    the distinct numbers of a list are those of the list, and they ascend strictly
--   keep_rising            what is kept of a rising list rises
--   LastIs, last_is        the last number of a rising list is its largest
--   rising_length          there are at most b − a numbers from a on and below b
--   map_in, map_make       membership in a mapped list
--   numbers_in, -make      the row numbers of a table
use mathlib.Core.Path.{◌≡◌, refl, sym, ap, subst}
use mathlib.Core.Bool.{Bool, true, false}
use mathlib.Core.List.Memᴰ
use mathlib.Core.List.{List, [], ◌∷◌, map, Memᴰ}
use mathlib.Core.Option.{Option, none, some}
use mathlib.Core.Logic.{◌⊎◌, inl, inr, ⊎_elim, by_cases}
use Prim.Native.Nat.{ℕ, zero, suc, ◌+◌, ◌≤◌, ◌<◌}
use native.Mathlib.Decide.{ℕ_discrete}
use native.Mathlib.Omega.{arith}
use lib.Dec.{ltb, eqb}
use lib.ListN.{length}
use Rattle.checks.specs.Tests.{Tests, pick, keep}
use Rattle.checks.proofs.TestLaws.{keep_in, tests_lt, tests_eq}
use Rattle.division.specs.Descent.{insert, distinct, last, numbers_from}

-- ---- rising lists

abbrev pub Rising : List ℕ → Type 0
Rising [] = Unit {0}
Rising (a ∷ l) = ((b : ℕ) → Memᴰ b l → a < b) × Rising l

module _ (a : ℕ) where
  -- the three places of a number before a list that begins with b
  insert_cases : (b : ℕ) (l : List ℕ) (P : List ℕ → Type 0)
      → (a < b → P (a ∷ (b ∷ l))) → (a ≡ b → P (b ∷ l)) → (b < a → P (b ∷ insert a l)) → P (insert a (b ∷ l))
  unfolding insert
  insert_cases b l P f g h = go (ltb a b) (eqb a b) (tests_lt a b) (tests_eq a b)
    where
      go : (c d : Bool) → Tests c (a < b) → Tests d (a ≡ b) → P (pick c (a ∷ (b ∷ l)) (pick d (b ∷ l) (b ∷ insert a l)))
      go true d s t = f (s.sound tt)
      go false true s t = g (t.sound tt)
      go false false s t = h (omega (arith, s.complete, t.complete))

  pub insert_in : (l : List ℕ) (x : ℕ) → Memᴰ x (insert a l) → (x ≡ a) ⊎ Memᴰ x l
  unfolding insert
  insert_in [] x m = Memᴰ.cases_cons m
  insert_in (b ∷ l) x m = insert_cases b l (λ k. Memᴰ x k → (x ≡ a) ⊎ Memᴰ x (b ∷ l))
      (λ h i. Memᴰ.cases_cons i)
      (λ h i. inr i)
      (λ h i. ⊎_elim (λ e. inr (Memᴰ.head e)) (λ j. ⊎_elim inl (λ k. inr (Memᴰ.tail k)) (insert_in l x j)) (Memᴰ.cases_cons i))
      m

  pub insert_here : (l : List ℕ) → Memᴰ a (insert a l)
  unfolding insert
  insert_here [] = Memᴰ.head refl
  insert_here (b ∷ l) = insert_cases b l (λ k. Memᴰ a k) (λ h. Memᴰ.head refl) Memᴰ.head (λ h. Memᴰ.tail (insert_here l))

  pub insert_make : (l : List ℕ) (x : ℕ) → Memᴰ x l → Memᴰ x (insert a l)
  unfolding insert
  insert_make [] x m = absurd (Memᴰ.not-nil m)
  insert_make (b ∷ l) x m = insert_cases b l (λ k. Memᴰ x k)
      (λ h. Memᴰ.tail m)
      (λ h. m)
      (λ h. ⊎_elim Memᴰ.head (λ i. Memᴰ.tail (insert_make l x i)) (Memᴰ.cases_cons m))

  pub insert_rising : (l : List ℕ) → Rising l → Rising (insert a l)
  unfolding insert
  insert_rising [] s = (λ b m. absurd (Memᴰ.not-nil m), tt)
  insert_rising (b ∷ l) s = insert_cases b l Rising
      (λ h. (λ x m. ⊎_elim (λ e. omega arith) (λ i. omega (arith, s.0 x i)) (Memᴰ.cases_cons m), s))
      (λ h. s)
      (λ h. (λ x m. ⊎_elim (λ e. omega arith) (s.0 x) (insert_in l x m), insert_rising l s.1))

-- ---- the distinct numbers

pub distinct_in : (l : List ℕ) (x : ℕ) → Memᴰ x (distinct l) → Memᴰ x l
unfolding distinct
distinct_in [] x m = m
distinct_in (a ∷ l) x m = ⊎_elim Memᴰ.head (λ i. Memᴰ.tail (distinct_in l x i)) (insert_in a (distinct l) x m)

pub distinct_make : (l : List ℕ) (x : ℕ) → Memᴰ x l → Memᴰ x (distinct l)
unfolding distinct
distinct_make [] x m = m
distinct_make (a ∷ l) x m = ⊎_elim
    (λ e. subst (λ (y : ℕ). Memᴰ y (insert a (distinct l))) (sym e) (insert_here a (distinct l)))
    (λ i. insert_make a (distinct l) x (distinct_make l x i))
    (Memᴰ.cases_cons m)

pub distinct_rising : (l : List ℕ) → Rising (distinct l)
unfolding distinct
distinct_rising [] = tt
distinct_rising (a ∷ l) = insert_rising a (distinct l) (distinct_rising l)

pub keep_rising : (f : ℕ → Bool) (l : List ℕ) → Rising l → Rising (keep f l)
keep_rising f [] s = tt
keep_rising f (a ∷ l) s = go (f a) (keep_rising f l s.1)
  where
    go : (c : Bool) → Rising (keep f l) → Rising (pick c (a ∷ keep f l) (keep f l))
    go true t = (λ b m. s.0 b (keep_in f l b m).0, t)
    go false t = t

-- ---- the last number

-- what `last` gives of a rising list: its largest number, none where it has no number
abbrev pub LastIs : List ℕ → Option ℕ → Type 0
LastIs l none = (b : ℕ) → Memᴰ b l → ⊥
LastIs l (some a) = Memᴰ a l × ((b : ℕ) → Memᴰ b l → b ≤ a)

pub last_is : (l : List ℕ) → Rising l → LastIs l (last l)
unfolding last
last_is [] s = λ b m. Memᴰ.not-nil m
last_is (a ∷ []) s = (Memᴰ.head refl, λ b m. ⊎_elim (λ e. omega arith) (λ i. absurd (Memᴰ.not-nil i)) (Memᴰ.cases_cons m))
last_is (a ∷ (b ∷ l)) s = go (last (b ∷ l)) (last_is (b ∷ l) s.1)
  where
    go : (o : Option ℕ) → LastIs (b ∷ l) o → LastIs (a ∷ (b ∷ l)) o
    go none h = absurd (h b (Memᴰ.head refl))
    go (some c) h = (
      Memᴰ.tail h.0,
      λ x m. ⊎_elim (λ e. omega (arith, s.0 c h.0)) (h.1 x) (Memᴰ.cases_cons m),
    )

-- ---- how many

pub rising_length : (l : List ℕ) (a b : ℕ) → Rising l → ((x : ℕ) → Memᴰ x l → a ≤ x) → ((x : ℕ) → Memᴰ x l → x < b) → a ≤ b → a + length l ≤ b
rising_length [] a b s low high h = omega arith
rising_length (c ∷ l) a b s low high h =
    omega (
      arith,
      low c (Memᴰ.head refl),
      rising_length l (suc c) b s.1 s.0 (λ x m. high x (Memᴰ.tail m)) (high c (Memᴰ.head refl)),
    )

-- ---- mapped lists and row numbers

module _ {A B : Type 0} (f : A → B) where
  pub map_in : (l : List A) (y : B) → Memᴰ y (map f l) → (x : A) × Memᴰ x l × (y ≡ f x)
  map_in [] y m = absurd (Memᴰ.not-nil m)
  map_in (x ∷ l) y m = ⊎_elim
      (λ e. (x, Memᴰ.head refl, e))
      (λ i. let p = map_in l y i in (p.0, Memᴰ.tail p.1, p.2))
      (Memᴰ.cases_cons m)

  pub map_make : (l : List A) (x : A) → Memᴰ x l → Memᴰ (f x) (map f l)
  map_make [] x m = absurd (Memᴰ.not-nil m)
  map_make (y ∷ l) x m = ⊎_elim (λ e. Memᴰ.head (ap f e)) (λ i. Memᴰ.tail (map_make l x i)) (Memᴰ.cases_cons m)

pub numbers_in : (r k x : ℕ) → Memᴰ x (numbers_from r k) → (r ≤ x) × (x < r + k)
unfolding numbers_from
numbers_in r zero x m = absurd (Memᴰ.not-nil m)
numbers_in r (suc k) x m = ⊎_elim
    (λ e. (omega arith, omega arith))
    (λ i. let p = numbers_in (suc r) k x i in (omega (arith, p.0), omega (arith, p.1)))
    (Memᴰ.cases_cons m)

pub numbers_make : (r k x : ℕ) → r ≤ x → x < r + k → Memᴰ x (numbers_from r k)
unfolding numbers_from
numbers_make r zero x l h = absurd (omega arith)
numbers_make r (suc k) x l h = by_cases (ℕ_discrete x r) Memᴰ.head (λ g. Memᴰ.tail (numbers_make (suc r) k x (omega (arith, g)) (omega arith)))
