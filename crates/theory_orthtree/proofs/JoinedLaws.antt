-- Lists of entries that are cut at one key: what is listed together, and what meets, does so before the key or from it on.
-- The idea: a cell that ends at or before the key and one that starts at it or after it have no key in common.
-- Assumes nothing.
use mathlib.Core.Path.{◌≡◌, refl, ◌∙◌, ap, ap₂}
use mathlib.Core.Bool.{Bool, true, false, ◌||◌}
use mathlib.Core.List.Memᴰ
use mathlib.Core.List.{List, [], ◌∷◌, ◌++◌, Memᴰ}
use mathlib.Core.Logic.{◌⊎◌, inl, inr}
use Prim.Native.Nat.{ℕ, ◌+◌, ◌≤◌, ◌<◌}
use native.Mathlib.Omega.{arith}
use Rattle.theory_lists.specs.Lists.{sum_of}
use Rattle.theory_lists.proofs.Reflects.{reflects-and, reflects-or, reflects-iff, reflects-ltb, reflects-false}
use Rattle.theory_lists.proofs.ListsLaws.{Every, every-uncons}
use Rattle.theory_lists.proofs.SumLaws.{sum-append}
use Rattle.theory_lists.proofs.IndexLaws.{reflects-same}
use Rattle.theory_lists.proofs.SumLaws.{sum-agree}
use Rattle.theory_orthtree.specs.Entries.{Entry, same_cell, cell_heads, cell_heads_after, range_end, overlaps, meetings, listed_together}
use Rattle.theory_orthtree.proofs.EntriesLaws.{span-positive}
use Rattle.theory_orthtree.proofs.ChainLaws.{SameCell}
use Rattle.theory_orthtree.proofs.ChainHeadsLaws.{heads-next, heads-members}
use Rattle.theory_orthtree.proofs.TogetherLaws.{ListedTogether, listed_together-reflects}

-- a sum of nothing but 0
sum-zero : {A : Type 0} (f : A → ℕ) (l : List A) → Every (λ x. f x ≡ 0) l → sum_of f l ≡ 0
unfolding sum_of
sum-zero f [] h = refl
sum-zero f (x ∷ xs) h = let g = every-uncons h in omega (arith, g.0, sum-zero f xs g.1)

heads-choice : (b : Bool) (f : Entry) (xs ys : List Entry) {zs : List Entry} → zs ≡ xs ++ ys
    → elim b [ true ↦ zs | false ↦ f ∷ zs ] ≡ elim b [ true ↦ xs | false ↦ f ∷ xs ] ++ ys
heads-choice true f xs ys h = h
heads-choice false f xs ys h = ap (λ l. f ∷ l) h

-- the entries are of no cell in common
abbrev Apart : List Entry → List Entry → Type 0
Apart es gs = Every (λ e. Every (λ g. SameCell e g → ⊥) gs) es

heads-after-joined : (e : Entry) (es gs : List Entry) → Apart (e ∷ es) gs → cell_heads_after e (es ++ gs) ≡ cell_heads_after e es ++ cell_heads gs
unfolding cell_heads_after cell_heads
heads-after-joined e [] [] h = refl
heads-after-joined e [] (g ∷ gs) h = heads-next e g gs (every-uncons (every-uncons h).0).0
heads-after-joined e (f ∷ es) gs h = heads-choice (same_cell e f) f (cell_heads_after f es) (cell_heads gs) (heads-after-joined f es gs (every-uncons h).1)

-- the cells of two lists joined, where they have none in common
heads-joined : (es gs : List Entry) → Apart es gs → cell_heads (es ++ gs) ≡ cell_heads es ++ cell_heads gs
unfolding cell_heads
heads-joined [] gs h = refl
heads-joined (e ∷ es) gs h = ap (λ l. e ∷ l) (heads-after-joined e es gs h)

-- two entries that have the items and a key in common, in other lists
listed_in : {arity depth i j : ℕ} {es fs gs hs : List Entry} (t : ListedTogether arity depth es fs i j) → Memᴰ t.first gs
    → Memᴰ t.second hs → ListedTogether arity depth gs hs i j
listed_in t m n = record {
  first = t.first;
  second = t.second;
  first_listed = m;
  second_listed = n;
  first_item = t.first_item;
  second_item = t.second_item;
  common = t.common;
}

module _ (arity depth : ℕ) (pos : 0 < arity) (k : ℕ) where
  -- one that ends at or before the key, and one that starts at it or after it
  no-overlap : (e g : Entry) → range_end arity depth e ≤ k → k ≤ g.key → overlaps arity depth e g ≡ false
  unfolding overlaps
  no-overlap e g h l =
      reflects-false (reflects-and (reflects-ltb e.key (range_end arity depth g)) (reflects-ltb g.key (range_end arity depth e)))
      (λ t. omega (arith, t.1))

  no-overlap-back : (g e : Entry) → k ≤ g.key → range_end arity depth e ≤ k → overlaps arity depth g e ≡ false
  unfolding overlaps
  no-overlap-back g e l h =
      reflects-false (reflects-and (reflects-ltb g.key (range_end arity depth e)) (reflects-ltb e.key (range_end arity depth g)))
      (λ t. omega (arith, t.0))

  no_cell : (e g : Entry) → range_end arity depth e ≤ k → k ≤ g.key → SameCell e g → ⊥
  unfolding range_end
  no_cell e g h l s = let p = span-positive arity depth e.level pos in omega (arith, s.key)

  -- 1 where the two overlap
  abbrev one : Entry → Entry → ℕ
  one e f = elim (overlaps arity depth e f) [ true ↦ 1 | false ↦ 0 ]

  one_none : (e f : Entry) → overlaps arity depth e f ≡ false → one e f ≡ 0
  one_none e f h = rw (one, h)

  module _ {es fs gs hs : List Entry}
      (es-end : Every (λ e. range_end arity depth e ≤ k) es) (fs-end : Every (λ f. range_end arity depth f ≤ k) fs)
      (gs-start : Every (λ g. k ≤ g.key) gs) (hs-start : Every (λ h. k ≤ h.key) hs) where
    parted : {i j : ℕ} → ListedTogether arity depth (es ++ gs) (fs ++ hs) i j
        → ListedTogether arity depth es fs i j ⊎ ListedTogether arity depth gs hs i j
    parted {i} {j} t = go (Memᴰ.append_cases es t.first_listed) (Memᴰ.append_cases fs t.second_listed)
      where
        go : Memᴰ t.first es ⊎ Memᴰ t.first gs → Memᴰ t.second fs ⊎ Memᴰ t.second hs
            → ListedTogether arity depth es fs i j ⊎ ListedTogether arity depth gs hs i j
        go (inl a) (inl b) = inl (listed_in t a b)
        go (inr a) (inr b) = inr (listed_in t a b)
        go (inl a) (inr b) = absurd (omega (arith, es-end t.first a, hs-start t.second b, t.common.first.ends, t.common.second.starts))
        go (inr a) (inl b) = absurd (omega (arith, fs-end t.second b, gs-start t.first a, t.common.second.ends, t.common.first.starts))

    joined : {i j : ℕ} → ListedTogether arity depth es fs i j ⊎ ListedTogether arity depth gs hs i j
        → ListedTogether arity depth (es ++ gs) (fs ++ hs) i j
    joined (inl t) = listed_in t (Memᴰ.append_left gs t.first_listed) (Memᴰ.append_left hs t.second_listed)
    joined (inr t) = listed_in t (Memᴰ.append_right es t.first_listed) (Memᴰ.append_right fs t.second_listed)

    -- listed together before the key, or from it on
    pub together-joined : (i j : ℕ) → listed_together arity depth (es ++ gs) (fs ++ hs) i j
        ≡ listed_together arity depth es fs i j || listed_together arity depth gs hs i j
    together-joined i j =
        reflects-same (listed_together-reflects arity depth pos (es ++ gs) (fs ++ hs) i j)
        (reflects-iff joined parted
        (reflects-or (listed_together-reflects arity depth pos es fs i j) (listed_together-reflects arity depth pos gs hs i j)))

    first-meets : Every (λ e. sum_of (one e) (cell_heads fs ++ cell_heads hs) ≡ sum_of (one e) (cell_heads fs)) (cell_heads es)
    first-meets e m =
        let z = sum-zero (one e) (cell_heads hs) (λ h n. one_none e h (no-overlap e h (es-end e (heads-members es e m)) (hs-start h (heads-members hs h n)))) in
        omega (arith, sum-append (one e) (cell_heads fs) (cell_heads hs))

    second_meets : Every (λ g. sum_of (one g) (cell_heads fs ++ cell_heads hs) ≡ sum_of (one g) (cell_heads hs)) (cell_heads gs)
    second_meets g m =
        let z = sum-zero (one g) (cell_heads fs) (λ f n. one_none g f (no-overlap-back g f (gs-start g (heads-members gs g m)) (fs-end f (heads-members fs f n)))) in
        omega (arith, sum-append (one g) (cell_heads fs) (cell_heads hs))

    -- the meetings before the key, and those from it on
    pub meetings-joined : meetings arity depth (es ++ gs) (fs ++ hs) ≡ meetings arity depth es fs + meetings arity depth gs hs
    unfolding meetings
    meetings-joined =
        let all : Entry → ℕ = λ e. sum_of (one e) (cell_heads fs ++ cell_heads hs) in
        let p = heads-joined es gs (λ e m g n. no_cell e g (es-end e m) (gs-start g n)) in
        let q = heads-joined fs hs (λ f m h n. no_cell f h (fs-end f m) (hs-start h n)) in
        rw (p, q) (sum-append all (cell_heads es) (cell_heads gs)
        ∙ ap₂ ◌+◌ (sum-agree all (λ e. sum_of (one e) (cell_heads fs)) (cell_heads es) first-meets)
        (sum-agree all (λ g. sum_of (one g) (cell_heads hs)) (cell_heads gs) second_meets))
