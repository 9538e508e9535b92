-- One head: what `take_head` has written.
--
--   HeadRoom, head_room    the sizes that it counts on
--   head_stays             the tails add nothing
--   head_full, head_over   no room for the block repeated, or for the block of the head
--   head_closes            the block of the head is written
use mathlib.Core.Path.{◌≡◌, sym, ap, ◌∙◌, subst}
use mathlib.Core.Bool.{Bool, true, false}
use mathlib.Core.List.Memᴰ
use mathlib.Core.List.{List, [], ◌∷◌, ◌++◌, map, append_assoc, Memᴰ}
use Prim.Native.Nat.{ℕ, suc, ◌+◌, ◌*◌, ◌-◌, ◌≤◌, ◌<◌}
use native.Mathlib.Nat.{add-mul}
use native.Mathlib.Omega.{arith}
use borrow.Rule.Slice.PartMut.{put_mid, post_of, take_put, same_len_mid}
use lib.ListN.{length, take, drop, set, length-append, length-drop}
use lib.Seq.{take-suc-set, length-take-le, drop_at, take-append-le}
use Rattle.std.proofs.Common.{Option, Some, None}
use Rattle.terms.specs.Monomials.{Monomial, Table, OfSize}
use Rattle.terms.specs.Rows.{first_rows, flat}
use Rattle.terms.proofs.RowsLaws.{length_first_rows, first_rows_size, length_flat}
use Rattle.completion.specs.Blocks.{behind, repeated}
use Rattle.completion.specs.Slices.{at, fresh, Walk, shorter, grown, walk, slices}
use Rattle.blocks.specs.Bytes.{after, fit, part, copies}
use Rattle.slicing.specs.Walk.{Appended, BlockClosed, Standing, HeadTaken, Roomy}
use Rattle.slicing.specs.declared.Progress.{Progress}
use Rattle.completion.proofs.SliceLaws.{at_size}
use Rattle.completion.proofs.WalkLaws.{slices_size, size_both, walk_stays, walk_grows, walk_room, walk_generators, walk_block, walk_written, walk_end}
use Rattle.blocks.proofs.BufferLaws.{flat_append, length_behind, length_after, after_size, after_append, after_behind, after_drop, fit_within, fit_more}
use Rattle.blocks.proofs.BufferLaws.{beyond_fit, within_fit}
use Rattle.blocks.proofs.ByteLaws.{rows_fewer, times_large, shorter_front}
use Rattle.blocks.proofs.RowLaws.{part_add, same_rows, same_part, read_back, copies_repeated}
use Rattle.slicing.proofs.AppendLaws.{table_wide, tails_wide, lent_all, lent_length, walk_last}

behind_size : (r a : ℕ) (B : Table) → OfSize r B → OfSize (suc r) (behind a B)
unfolding behind
behind_size r a B z u m =
    let q = Memᴰ.of_map (λ t. a ∷ t) B m in
    ap length (sym q.2) ∙ ap suc (z q.0 q.1)

-- the generators and the tails of a are no more than the rows, there is room for them behind the table, and each row can be chained
pub record HeadRoom (rest rows a : ℕ) (work next : List ℕ) (progress : Progress) : Type 0 where
  pub no_more : progress.generators + length (at a (first_rows (suc rest) rows work)) ≤ rows
  pub tails : rows * (rest + 1) + (progress.generators * rest + length (at a (first_rows (suc rest) rows work)) * rest) ≤ length work
  pub chained : rows ≤ length next
  pub block : progress.from.0 ≤ progress.end
  pub last : progress.last ≤ a

module _ {T : Table} {start : ℕ} {P : List ℕ} {n rest rows : ℕ} {prefix : List ℕ} {a : ℕ} {work out : List ℕ} {progress : Progress}
    (S : Standing n T start P rest rows prefix a work out progress) (R : Roomy n rest rows work out progress.end) where
  -- the model's walk, the generators with the tails of a, the block of a, the blocks between, the first exponents
  abbrev W : Walk
  W = walk (λ H. slices rest H) T a

  abbrev K : Table
  K = W.generators ++ at a T

  abbrev C : Table
  C = slices rest K

  abbrev M : Table
  M = repeated (suc W.last) (a - suc W.last) W.block

  abbrev p : Monomial
  p = take (n - suc rest) prefix

  -- where the tails and the generators stand, as the code has it
  abbrev base : ℕ
  base = rows * (rest + 1)

  base_is : base ≡ rows * suc rest
  base_is = omega arith

  -- ---- sizes

  table_size : OfSize (suc rest) T
  table_size = subst (λ (G : Table). OfSize (suc rest) G) S.table (first_rows_size (suc rest) rows work (table_wide R))

  table_length : length T ≡ rows
  table_length = ap length (sym S.table) ∙ length_first_rows (suc rest) rows work

  count_generators : length W.generators ≡ progress.generators
  count_generators = ap length (sym S.generators) ∙ length_first_rows rest progress.generators (drop (rows * suc rest) work)

  no_more : progress.generators + length (at a (first_rows (suc rest) rows work)) ≤ rows
  no_more = omega (arith, walk_room (λ H. slices rest H) T a, count_generators, table_length, ap (λ (G : Table). length (at a G)) S.table)

  pub head_room : 0 < rest → (next : List ℕ) → rows * rest ≤ length next → HeadRoom rest rows a work next progress
  head_room positive next h =
      let m : ℕ = length (at a (first_rows (suc rest) rows work)) in
      record {
        no_more = no_more;
        tails = omega (arith, tails_wide R, rows_fewer (progress.generators + m) rows rest no_more, add-mul progress.generators m rest);
        chained = omega (arith, times_large rows rest positive);
        block = omega (arith, S.block);
        last = omega (arith, S.last, walk_last (λ H. slices rest H) T a);
      }

  -- ---- the tails of a stand behind the generators

  module _ {more : ℕ} (work₁ : List ℕ) (same : length work₁ ≡ length work)
      (taken : (more ≡ length (at a (first_rows (suc rest) rows work)))
      × (take (base + progress.generators * rest) work₁ ≡ take (base + progress.generators * rest) work)
      × (part rest more (base + progress.generators * rest) work₁ ≡ at a (first_rows (suc rest) rows work)))
      {g : Bool} (tested : g ≡ fresh (part rest progress.generators base work₁) (part rest more (base + progress.generators * rest) work₁)) where
    kept_front : take (rows * suc rest) work₁ ≡ take (rows * suc rest) work
    kept_front = shorter_front (rows * suc rest) (base + progress.generators * rest) work₁ work (omega arith) taken.1

    kept_table : (b : List ℕ) → length b ≡ length work → take (rows * suc rest) b ≡ take (rows * suc rest) work → first_rows (suc rest) rows b ≡ T
    kept_table b l e = let f = table_wide R in same_rows (suc rest) rows b work (omega arith) f e ∙ S.table

    old_generators : part rest progress.generators base work₁ ≡ W.generators
    old_generators =
        let f : progress.generators * rest ≤ rows * rest = rows_fewer progress.generators rows rest (omega (arith, no_more)) in
        let within : base + progress.generators * rest ≤ length work = omega (arith, tails_wide R) in
        same_part rest progress.generators base (base + progress.generators * rest) work₁ work (omega arith) (omega arith) within taken.1
        ∙ ap (λ (x : ℕ). part rest progress.generators x work) base_is ∙ S.generators

    new_tails : part rest more (base + progress.generators * rest) work₁ ≡ at a T
    new_tails = taken.2 ∙ ap (λ (G : Table). at a G) S.table

    all_generators : part rest (progress.generators + more) base work₁ ≡ K
    all_generators = part_add rest progress.generators more base work₁ ∙ rw (old_generators, new_tails)

    grows_as : fresh W.generators (at a T) ≡ g
    grows_as = sym (tested ∙ rw (old_generators, new_tails))

    pub head_stays : g ≡ false → HeadTaken n T start P rest rows prefix a work out (Some progress) work₁ out
    head_stays f =
        let e : walk (λ H. slices rest H) T (suc a) ≡ W = walk_stays (λ H. slices rest H) T a (grows_as ∙ f) in
        record {
          kept = kept_front;
          end = rw e (ap Some S.end ∙ sym (fit_within n (length out) (start + length W.written) (rw S.end at S.within)));
          on = record {
            table = kept_table work₁ same kept_front;
            last = rw e S.last;
            generators = rw e (ap (λ (x : ℕ). part rest progress.generators x work₁) (sym base_is) ∙ old_generators);
            block = rw e S.block;
            before = S.before;
            end = rw e S.end;
            within = S.within;
            written = rw e S.written;
          };
        }

    -- ---- a head at which the ideal grows

    module _ (grows : g ≡ true) (six : length prefix ≡ 6) where
      front_length : length p ≡ n - suc rest
      front_length = length-take-le (n - suc rest) prefix (omega (arith, R.six))

      row_size : (H : Table) → OfSize (suc rest) H → OfSize n (after p H)
      row_size H z =
          let e : length p + suc rest ≡ n = omega (arith, front_length, R.variables) in
          subst (λ (k : ℕ). OfSize k (after p H)) e (after_size p H z)

      -- the block stands at the end of what is written
      block_rows : part n (progress.end - progress.from.0) (progress.from.0 * n) out ≡ after p (behind W.last W.block)
      block_rows =
          let r = walk_end rest T table_size a in
          let L : Table = r.0 in
          let B : Table = behind W.last W.block in
          let X : List ℕ = P ++ flat (after p L) in
          let z : OfSize (suc rest) L = λ u m. walk_written rest T table_size a u (subst (λ (H : Table). Memᴰ u H) r.1 (Memᴰ.append_left B m)) in
          let lr : length (flat (after p L)) ≡ length L * n = length_flat n (after p L) (row_size L z) ∙ ap (λ (k : ℕ). k * n) (length_after p L) in
          let count : length L + length B ≡ length W.written = sym (length-append L B) ∙ ap length r.1 in
          let from : start + length L ≡ progress.from.0 = omega (arith, S.end, S.block, length_behind W.last W.block) in
          let lx : length X ≡ progress.from.0 * n =
          length-append P (flat (after p L)) ∙ omega (arith, S.before, lr, add-mul start (length L) n, ap (λ (k : ℕ). k * n) from) in
          let whole : progress.from.0 * n + (progress.end - progress.from.0) * n ≡ progress.end * n =
          sym (add-mul progress.from.0 (progress.end - progress.from.0) n) ∙ ap (λ (k : ℕ). k * n) (omega (arith, S.block)) in
          let bytes : take (progress.from.0 * n + (progress.end - progress.from.0) * n) out ≡ X ++ flat (after p B) =
          ap (λ (k : ℕ). take k out) whole ∙ S.written
          ∙ ap (λ (H : Table). P ++ flat (after p H)) (sym r.1)
          ∙ ap (λ (H : Table). P ++ flat H) (after_append p L B)
          ∙ ap (λ (l : List ℕ). P ++ l) (flat_append (after p L) (after p B))
          ∙ sym (append_assoc P (flat (after p L)) (flat (after p B))) in
          let lb : length (after p B) ≡ progress.end - progress.from.0 = length_after p B ∙ length_behind W.last W.block ∙ omega (arith, S.block) in
          let size : OfSize n (after p B) = row_size B (behind_size rest W.last W.block (walk_block rest T table_size a)) in
          read_back n (progress.end - progress.from.0) (progress.from.0 * n) out X (after p B) size lb lx bytes

      next : walk (λ H. slices rest H) T (suc a) ≡ grown (λ H. slices rest H) a W K
      next = walk_grows (λ H. slices rest H) T a (grows_as ∙ grows)

      next_written : (walk (λ H. slices rest H) T (suc a)).written ≡ W.written ++ M ++ behind a C
      unfolding grown
      next_written = ap (λ (v : Walk). v.written) next

      next_block : (walk (λ H. slices rest H) T (suc a)).block ≡ C
      unfolding grown
      next_block = ap (λ (v : Walk). v.block) next

      next_generators : (walk (λ H. slices rest H) T (suc a)).generators ≡ shorter C K
      unfolding grown
      next_generators = ap (λ (v : Walk). v.generators) next

      next_last : (walk (λ H. slices rest H) T (suc a)).last ≡ a
      unfolding grown
      next_last = ap (λ (v : Walk). v.last) next

      next_length : start + length (walk (λ H. slices rest H) T (suc a)).written ≡ progress.end + length M + length C
      next_length =
          ap (λ (H : Table). start + length H) next_written
          ∙ omega (arith, length-append (W.written ++ M) (behind a C), length-append W.written M, length_behind a C, S.end)

      -- ---- the block of the last head repeated

      abbrev again : Table
      again = copies (n - rest - 1) (suc progress.last) (a - suc progress.last) (part n (progress.end - progress.from.0) (progress.from.0 * n) out)

      again_rows : again ≡ after p M
      again_rows =
          let at_front : n - rest - 1 ≡ length p = omega (arith, front_length) in
          ap (λ (H : Table). copies (n - rest - 1) (suc progress.last) (a - suc progress.last) H) block_rows
          ∙ ap (λ (x : ℕ). copies (n - rest - 1) (suc x) (a - suc x) (after p (behind W.last W.block))) S.last
          ∙ ap (λ (x : ℕ). copies x (suc W.last) (a - suc W.last) (after p (behind W.last W.block))) at_front
          ∙ copies_repeated p W.last (suc W.last) (a - suc W.last) W.block

      again_end : fit n (length out) (progress.end + length again) ≡ fit n (length out) (progress.end + length M)
      again_end = ap (λ (x : ℕ). fit n (length out) (progress.end + x)) (ap length again_rows ∙ length_after p M)

      pub head_full : None ≡ fit n (length out) (progress.end + length again) → {o : List ℕ} → HeadTaken n T start P rest rows prefix a work out None work₁ o
      head_full e =
          let b : length out < (progress.end + length M) * n = beyond_fit n (length out) (progress.end + length M) (e ∙ again_end) in
          let all : ℕ = start + length (walk (λ H. slices rest H) T (suc a)).written in
          record { kept = kept_front; end = sym (fit_more n (length out) (progress.end + length M) all b (omega (arith, next_length))); on = tt }

      module _ (out₁ : List ℕ) {row : ℕ}
          (block : (Some row ≡ fit n (length out) (progress.end + length again)) × (take (row * n) out₁ ≡ take (progress.end * n) out ++ flat again)) where
        row_at_lem : (row ≡ progress.end + length M) × ((progress.end + length M) * n ≤ length out)
        row_at_lem = within_fit n (length out) (progress.end + length M) row (block.0 ∙ again_end)

        -- ---- the block of a behind it

        module _ (held : length out₁ ≡ length out) (positive : 0 < rest)
            {m : ℕ} {longer : List ℕ} (set_is : (longer ≡ set prefix (n - rest - 1) a) × (m ≡ n)) {r : Option ℕ} {lent out₂ : List ℕ}
            (appended : Appended m (rest - 1) (progress.generators + more) longer (take (length work₁ - base) (drop base work₁)) out₁ row r lent out₂)
            (same-lent : length lent ≡ length (take (length work₁ - base) (drop base work₁))) where
          A : Appended n (rest - 1) (progress.generators + more) (set prefix (n - suc rest) a) (drop base work₁) out₁ row r lent out₂
          A =
              let at_front : n - rest - 1 ≡ n - suc rest = omega arith in
              let e : longer ≡ set prefix (n - suc rest) a = set_is.0 ∙ ap (λ (x : ℕ). set prefix x a) at_front in
              rw (set_is.1, e, lent_all base work₁) at appended

          row_bytes : take (row * n) out₁ ≡ P ++ flat (after p (W.written ++ M))
          row_bytes =
              block.1 ∙ rw (again_rows, S.written) (append_assoc P (flat (after p W.written)) (flat (after p M)))
              ∙ ap (λ (l : List ℕ). P ++ l) (sym (flat_append (after p W.written) (after p M)))
              ∙ ap (λ (H : Table). P ++ flat H) (sym (after_append p W.written M))

          whole : suc (rest - 1) ≡ rest
          whole = omega arith

          done : slices (suc (rest - 1)) (first_rows (suc (rest - 1)) (progress.generators + more) (drop base work₁)) ≡ C
          done =
              ap (λ (x : ℕ). slices x (first_rows x (progress.generators + more) (drop base work₁))) whole
              ∙ ap (λ (H : Table). slices rest H) all_generators

          front : take (n - suc (rest - 1)) (set prefix (n - suc rest) a) ≡ p ++ (a ∷ [])
          front =
              let e : n - suc (rest - 1) ≡ suc (n - suc rest) = omega (arith, R.variables) in
              ap (λ (x : ℕ). take x (set prefix (n - suc rest) a)) e ∙ take-suc-set prefix (n - suc rest) a (omega (arith, R.six))

          end_fit : r ≡ fit n (length out) (row + length C)
          end_fit = A.end ∙ ap (λ (H : Table). fit n (length out₁) (row + length H)) done ∙ ap (λ (x : ℕ). fit n x (row + length C)) held

          -- the lent part is back, with the generators at its front
          abbrev back : List ℕ
          back = put_mid base (length work₁ - base) work₁ lent

          kept_generators : part rest (progress.generators + more) base back ≡ K
          kept_generators =
              let all : ℕ = (progress.generators + more) * rest in
              let lb : length (take base work₁) ≡ base = length-take-le base work₁ (omega (arith, tails_wide R)) in
              let tail : List ℕ = post_of base (length work₁ - base) work₁ in
              let d : drop base back ≡ lent ++ tail = drop_at (take base work₁) (lent ++ tail) base lb in
              let f : all ≤ rows * rest = rows_fewer (progress.generators + more) rows rest (omega (arith, no_more, taken.0)) in
              let l : length lent ≡ length work₁ - base = same-lent ∙ lent_length base work₁ in
              let kept : take all lent ≡ take all (drop base work₁) = rw whole at A.kept in
              let fits : all ≤ length lent = omega (arith, tails_wide R) in
              same_rows rest (progress.generators + more) (drop base back) (drop base work₁) (rw (d, length-append) (omega arith))
              (rw length-drop (omega arith))
              (ap (λ (x : List ℕ). take all x) d ∙ take-append-le all lent tail fits ∙ kept)
              ∙ all_generators

          kept_back : take (rows * suc rest) back ≡ take (rows * suc rest) work
          kept_back = rw (← base_is) (take_put base (length work₁ - base) work₁ lent (omega (arith, tails_wide R)) ∙ rw base_is kept_front)

          sum : row + length C ≡ start + length (walk (λ H. slices rest H) T (suc a)).written
          sum = omega (arith, row_at_lem, next_length)

          pub head_over : r ≡ None → HeadTaken n T start P rest rows prefix a work out None back out₂
          head_over e = record { kept = kept_back; end = sym e ∙ end_fit ∙ ap (λ (x : ℕ). fit n (length out) x) sum; on = tt }

          module _ {end : ℕ} (ends : r ≡ Some end) where
            end_at : (end ≡ row + length C) × ((row + length C) * n ≤ length out)
            end_at = within_fit n (length out) (row + length C) end (sym ends ∙ end_fit)

            block_bytes : take (end * n) out₂ ≡ take (row * n) out₁ ++ flat (after p (behind a C))
            block_bytes = (rw ends at A.written) ∙ rw (done, front) (ap (λ (H : Table). take (row * n) out₁ ++ flat H) (sym (after_behind p a C)))

            end_bytes : take (end * n) out₂ ≡ P ++ flat (after p (walk (λ H. slices rest H) T (suc a)).written)
            end_bytes =
                block_bytes ∙ rw row_bytes (append_assoc P (flat (after p (W.written ++ M))) (flat (after p (behind a C))))
                ∙ ap (λ (l : List ℕ). P ++ l) (sym (flat_append (after p (W.written ++ M)) (after p (behind a C))))
                ∙ ap (λ (H : Table). P ++ flat H) (sym (after_append p (W.written ++ M) (behind a C)))
                ∙ ap (λ (H : Table). P ++ flat (after p H)) (sym next_written)

            -- the last exponents of the rows of a are its block
            block_tails : map (λ u. drop (n - rest) u) (part n (end - row) (row * n) out₂) ≡ C
            block_tails =
                let zk : OfSize rest K = size_both rest W.generators (at a T) (walk_generators rest T table_size a) (at_size a T table_size) in
                let size : OfSize n (after p (behind a C)) = row_size (behind a C) (behind_size rest a C (slices_size rest K zk)) in
                let count : length (after p (behind a C)) ≡ end - row = length_after p (behind a C) ∙ length_behind a C ∙ omega (arith, end_at) in
                let row_fits : row * n ≤ length out = rw (← row_at_lem.0) at row_at_lem.1 in
                let lr : length (take (row * n) out₁) ≡ row * n = length-take-le (row * n) out₁ (omega (arith, held)) in
                let split : row * n + (end - row) * n ≡ end * n = sym (add-mul row (end - row) n) ∙ ap (λ (x : ℕ). x * n) (omega (arith, end_at)) in
                let columns : n - rest ≡ suc (length p) = omega (arith, front_length, R.variables) in
                ap (λ (H : Table). map (λ u. drop (n - rest) u) H)
                (read_back n (end - row) (row * n) out₂ (take (row * n) out₁) (after p (behind a C)) size count lr
                (ap (λ (x : ℕ). take x out₂) split ∙ block_bytes))
                ∙ ap (λ (x : ℕ). map (λ u. drop x u) (after p (behind a C))) columns
                ∙ after_drop p a C

            pub head_closes : {new : Progress} {work₂ : List ℕ} →
                BlockClosed n rest (progress.generators + more) base row end a back out₂ new work₂ → length work₂ ≡ length back →
                length out₂ ≡ length out → HeadTaken n T start P rest rows prefix a work out (Some new) work₂ out₂
            head_closes {new} {work₂} Z l lo =
                let size : length work₂ ≡ length work = l ∙ same_len_mid base (length work₁ - base) work₁ lent same-lent ∙ same in
                let kept : take (rows * suc rest) work₂ ≡ take (rows * suc rest) work = rw (← base_is) Z.kept ∙ kept_back in
                let end_is : new.end ≡ row + length C = Z.end ∙ end_at.0 in
                let block : Table = map (λ u. drop (n - rest) u) (part n (end - row) (row * n) out₂) in
                let pick : shorter block (part rest (progress.generators + more) base back) ≡ shorter C K = rw (block_tails, kept_generators) in
                record {
                  kept = kept;
                  end = ap Some end_is ∙ sym (fit_within n (length out) (row + length C) end_at.1) ∙ ap (λ (x : ℕ). fit n (length out) x) sum;
                  on = record {
                    table = kept_table work₂ size kept;
                    last = Z.last ∙ sym next_last;
                    generators = ap (λ (x : ℕ). part rest new.generators x work₂) (sym base_is) ∙ Z.generators ∙ pick ∙ sym next_generators;
                    block = ap (λ (H : Table). new.from.0 + length H) next_block ∙ omega (arith, Z.from, end_is);
                    before = S.before;
                    end = end_is ∙ sum;
                    within = rw (← end_is, ← lo) at end_at.1;
                    written = ap (λ (x : ℕ). take (x * n) out₂) Z.end ∙ end_bytes;
                  };
                }
