-- The numbers below a bound that pass a test, put on a list one after another without a branch: a number that fails is
-- overwritten by the next.
-- Assumes nothing.
use mathlib.Core.Path.{◌≡◌, refl, sym, ◌∙◌, ap, subst}
use mathlib.Core.Bool.{Bool, true, false, not, cond}
use mathlib.Core.List.{List, [], ◌∷◌, ◌++◌, append-nil, Memᴰ}
use Prim.Native.Nat.{ℕ, zero, suc, ◌+◌, ◌-◌, ◌≤◌, ◌<◌}
use native.Mathlib.Nat.{add-zero, add-suc}
use native.Mathlib.Numerals.{add-one}
use native.Mathlib.Omega.{arith}
use lib.Dec.{T}
use lib.ListN.{length, get_or, set, take}
use lib.Seq.{get_or-take, length-take-le, take-set-le, take-suc-set}
use Rattle.theory_lists.specs.Lists.{all, filter, up_to, count_from, Compacted}
use Rattle.theory_lists.proofs.Reflects.{reflects-iff}
use Rattle.theory_lists.proofs.ListsLaws.{Every, up_to-to, up_to-from, get_or-member}
use Rattle.theory_lists.proofs.FilterLaws.{filter-pass, filter-fail, filter-append}
use Rattle.theory_lists.proofs.MemberLaws.{filter-to, filter-from}
use Rattle.theory_lists.proofs.PartLaws.{part-every}
use Rattle.theory_lists.proofs.IndexLaws.{reflects-same, all-below-reflects, up_to-suc}

module _ (f : ℕ → Bool) where
  -- one number more that passes, or fails
  more-kept : (j : ℕ) → f j ≡ true → filter f (up_to (suc j)) ≡ filter f (up_to j) ++ (j ∷ [])
  unfolding filter
  more-kept j e =
      ap (filter f) (up_to-suc j) ∙ filter-append f (up_to j) (j ∷ []) ∙ ap (λ l. filter f (up_to j) ++ l) (filter-pass f j [] e)

  more_left : (j : ℕ) → f j ≡ false → filter f (up_to (suc j)) ≡ filter f (up_to j)
  unfolding filter
  more_left j e =
      ap (filter f) (up_to-suc j) ∙ filter-append f (up_to j) (j ∷ []) ∙ ap (λ l. filter f (up_to j) ++ l) (filter-fail f j [] e)
      ∙ append-nil (filter f (up_to j))

  -- a run of numbers that fail
  pub filter-skip : (j m : ℕ) → ((k : ℕ) → k < m → f (j + k) ≡ false) → filter f (up_to (j + m)) ≡ filter f (up_to j)
  filter-skip j zero h = ap (λ n. filter f (up_to n)) (add-zero j)
  filter-skip j (suc m) h =
      ap (λ n. filter f (up_to n)) (add-suc j m) ∙ more_left (j + m) (h m (omega arith)) ∙ filter-skip j m (λ k l. h k (omega arith))

  -- before the first
  pub compact-none : (xs : List ℕ) → Compacted f xs 0 0
  unfolding filter up_to count_from
  compact-none xs = record { few = omega arith; listed = refl }

  module _ {xs : List ℕ} {j c : ℕ} (n : Compacted f xs j c) where
    -- number j is put after the c numbers that passed, and is one of them unless b, the test's opposite, holds
    compact-by : (b : Bool) → f j ≡ not b → (xs' : List ℕ) → c < length xs → xs' ≡ set xs c j → Compacted f xs' (j + 1) (cond b c (c + 1))
    compact-by true e xs' l s = record {
      few = omega (arith, n.few);
      listed = rw (s, add-one j) (take-set-le c xs c j (omega arith) ∙ n.listed ∙ sym (more_left j e));
    }
    compact-by false e xs' l s = record {
      few = omega (arith, n.few);
      listed = rw (s, add-one j, add-one c) (take-suc-set xs c j l ∙ ap (λ x. x ++ (j ∷ [])) n.listed ∙ sym (more-kept j e));
    }

    pub compact-more : (b : Bool) → f j ≡ not b → (xs' : List ℕ) (r : ℕ) → c < length xs → xs' ≡ set xs c j
        → r ≡ cond b c (c + 1) → Compacted f xs' (j + 1) r
    compact-more b e xs' r l s g = subst (λ r. Compacted f xs' (j + 1) r) (sym g) (compact-by b e xs' l s)

    -- numbers that fail
    pub compact-skip : (s : ℕ) → ((k : ℕ) → k < s → f (j + k) ≡ false) → Compacted f xs (j + s) c
    compact-skip s none = record { few = omega (arith, n.few); listed = n.listed ∙ sym (filter-skip j s none) }

    module _ (room : c ≤ length xs) where
      -- what is listed is below the bound
      pub compact-below : (k : ℕ) → k < c → get_or xs k 0 < j
      compact-below k l =
          let m = rw (get_or-take c xs k 0 l) at (get_or-member (take c xs) k 0 (rw (length-take-le c xs room) l)) in
          up_to-to (filter-to f (up_to j) (subst (λ l. Memᴰ (get_or xs k 0) l) n.listed m)).0

      -- a test of what is listed is one of all, where it passes at each number that is not listed
      pub compact-all : (g : ℕ → Bool) → ((i : ℕ) → i < j → f i ≡ false → T (g i))
          → all (λ k. g (get_or xs k 0)) (up_to c) ≡ all g (up_to j)
      compact-all g others =
          reflects-same (all-below-reflects (λ k. g (get_or xs k 0)) c)
          (reflects-iff (λ t k l. t (get_or xs k 0) (compact-below k l)) (λ t i l. go t i l (f i) refl) (all-below-reflects g j))
        where
          go : ((k : ℕ) → k < c → T (g (get_or xs k 0))) → (i : ℕ) → i < j → (b : Bool) → f i ≡ b → T (g i)
          go t i l false e = others i l e
          go t i l true e =
              let s : c - 0 ≡ c = omega arith in
              let every : Every (λ x. T (g x)) (take c xs) =
              rw s at (part-every xs 0 c (omega arith) room (λ x. T (g x)) 0 (λ k u v. t k v)) in
              every i (subst (λ l. Memᴰ i l) (sym n.listed) (filter-from f (up_to j) (up_to-from l) (rw e tt)))
