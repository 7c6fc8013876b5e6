-- Lists of entries of which each of the one overlaps each of the other.
-- Assumes nothing.
use mathlib.Core.Path.{◌≡◌, ◌∙◌}
use mathlib.Core.Bool.{true, false, ◌&&◌}
use mathlib.Core.List.{List, [], ◌∷◌}
use Prim.Native.Nat.{ℕ, ◌*◌, ◌<◌}
use native.Mathlib.Omega.{arith}
use lib.Dec.{T, eqb}
use lib.ListN.{length}
use Rattle.theory_lists.specs.Lists.{any, sum_of}
use Rattle.theory_lists.proofs.Reflects.{reflects-and, reflects-iff, reflects-eqb, test-true}
use Rattle.theory_lists.proofs.ListsLaws.{Every, Some, any-reflects}
use Rattle.theory_lists.proofs.IndexLaws.{reflects-same}
use Rattle.theory_lists.proofs.SumLaws.{sum-agree, sum_ones}
use Rattle.theory_orthtree.specs.Entries.{Entry, cell_heads, overlaps, meetings, listed_together}
use Rattle.theory_orthtree.proofs.EntriesLaws.{overlaps-reflects}
use Rattle.theory_orthtree.proofs.ChainHeadsLaws.{heads-members}
use Rattle.theory_orthtree.proofs.TogetherLaws.{ListedTogether, listed_together-reflects}

-- a sum of the same number for each element
sum_same : {A : Type 0} (n : ℕ) (l : List A) → sum_of (λ x. n) l ≡ length l * n
unfolding sum_of
sum_same n [] = omega arith
sum_same n (x ∷ xs) = omega (arith, sum_same n xs)

module _ (arity depth : ℕ) (pos : 0 < arity) {gs hs : List Entry} (whole : Every (λ g. Every (λ h. T (overlaps arity depth g h)) hs) gs) where
  -- an entry of each that has the item
  abbrev Both : ℕ → ℕ → Type 0
  Both i j = Some (λ g. g.item ≡ i) gs × Some (λ h. h.item ≡ j) hs

  whole_to : {i j : ℕ} → ListedTogether arity depth gs hs i j → Both i j
  whole_to t = (
    record { value = t.first; member = t.first_listed; has = t.first_item },
    record { value = t.second; member = t.second_listed; has = t.second_item },
  )

  whole_from : {i j : ℕ} → Both i j → ListedTogether arity depth gs hs i j
  whole_from b = record {
    first = b.0.value;
    second = b.1.value;
    first_listed = b.0.member;
    second_listed = b.1.member;
    first_item = b.0.has;
    second_item = b.1.has;
    common = (overlaps-reflects arity depth pos b.0.value b.1.value).to (whole b.0.value b.0.member b.1.value b.1.member);
  }

  -- any two items that they list are listed together
  pub together-whole : (i j : ℕ) → listed_together arity depth gs hs i j ≡ any (λ g. eqb g.item i) gs && any (λ h. eqb h.item j) hs
  together-whole i j =
      reflects-same (listed_together-reflects arity depth pos gs hs i j)
      (reflects-iff whole_from whole_to
      (reflects-and (any-reflects _ (λ g. reflects-eqb g.item i) gs) (any-reflects _ (λ h. reflects-eqb h.item j) hs)))

  -- 1 where the two overlap
  abbrev one : Entry → Entry → ℕ
  one g h = elim (overlaps arity depth g h) [ true ↦ 1 | false ↦ 0 ]

  one-whole : Every (λ g. sum_of (one g) (cell_heads hs) ≡ length (cell_heads hs)) (cell_heads gs)
  one-whole g m =
      sum-agree (one g) (λ h. 1) (cell_heads hs) (λ h n.
      rw (one, test-true {b = overlaps arity depth g h} (whole g (heads-members gs g m) h (heads-members hs h n))))
      ∙ sum_ones (cell_heads hs)

  -- any two cells meet
  pub meetings-whole : meetings arity depth gs hs ≡ length (cell_heads gs) * length (cell_heads hs)
  unfolding meetings
  meetings-whole =
      sum-agree (λ g. sum_of (one g) (cell_heads hs)) (λ g. length (cell_heads hs)) (cell_heads gs) one-whole
      ∙ sum_same (length (cell_heads hs)) (cell_heads gs)
