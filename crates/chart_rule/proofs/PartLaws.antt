-- The chain rule from its parts: the tests of levels, items and neighbours that code makes list by list, and of the two ends.
-- Assumes nothing.
use mathlib.Core.Path.{◌≡◌, sym, ◌∙◌, ap, ap₂, subst}
use mathlib.Core.Bool.{Bool, true, false, ◌&&◌}
use mathlib.Core.List.{List}
use Prim.Native.Nat.{ℕ, zero, suc, ◌≤◌, ◌<◌}
use native.Mathlib.Decide.{dec_le}
use native.Mathlib.Omega.{arith}
use native.Mathlib.Numerals.{one-add}
use lib.Dec.{T, leb, eqb}
use lib.ListN.{length, get_or, take, drop}
use lib.Seq.{get_or-take, get_or-drop, length-take-le}
use Rattle.theory_lists.specs.Lists.{all, up_to}
use Rattle.theory_lists.proofs.Reflects.{Reflects, reflects-and, reflects-iff, reflects-eqb, reflects-test}
use Rattle.theory_lists.proofs.IndexLaws.{reflects-same, all-below-none, all-below-more, all-below-reflects}
use Rattle.theory_orthtree.specs.Entries.{Entry, is_mark, span, range_end, entry_fits, follows, chain}
use Rattle.spec_squares.specs.Square.{arity, depth}
use Rattle.spec_calls.specs.Buffers.{Roomy, zip_entries}
use Rattle.chart_links.specs.Links.{entry_at, item_fits, aligned, linked, linked_at, ends_tree}
use Rattle.theory_orthtree.proofs.ChainPlaceLaws.{Chained}
use Rattle.chart_rule.proofs.ChainLaws.{lists-reflect}

-- two tests pass together
both : (a b : Bool) → Reflects (a && b) (T a × T b)
both a b = reflects-and (reflects-test a) (reflects-test b)

-- the entry at place i of the rest of three lists is the one after it
rest_at : (l : List ℕ) (m i : ℕ) → i < m → get_or (take m (drop 1 l)) i 0 ≡ get_or l (suc i) 0
rest_at l m i h = get_or-take m (drop 1 l) i 0 h ∙ get_or-drop 1 l i 0 ∙ ap (λ k. get_or l k 0) (one-add i)

module _ (ks ls is : List ℕ) (m : ℕ) where
  rest-entry : (i : ℕ) → i < m → entry_at (take m (drop 1 ks)) (take m (drop 1 ls)) (take m (drop 1 is)) i ≡ entry_at ks ls is (suc i)
  unfolding entry_at
  rest-entry i h = λ j. record { key = rest_at ks m i h j; level = rest_at ls m i h j; item = rest_at is m i h j }

-- an entry fits by its level, its key and its item
fits-parts : (count : ℕ) (ks ls is : List ℕ) (i : ℕ)
    → Reflects (entry_fits arity depth count (entry_at ks ls is i))
    ((T (leb (get_or ls i 0) depth) × T (aligned (entry_at ks ls is i))) × T (item_fits count (get_or is i 0)))
unfolding entry_fits aligned entry_at item_fits is_mark
fits-parts count ks ls is i =
    reflects-and (both (leb (get_or ls i 0) depth) (aligned (entry_at ks ls is i))) (reflects-test (item_fits count (get_or is i 0)))

module _ (count : ℕ) (ks ls is : List ℕ) (n m : ℕ) (e : n ≡ suc m) where
  abbrev at : ℕ → Entry
  at i = entry_at ks ls is i

  abbrev level_test : ℕ → Bool
  level_test i = leb (get_or ls i 0) depth

  abbrev item_test : ℕ → Bool
  item_test i = item_fits count (get_or is i 0)

  abbrev link_test : ℕ → Bool
  link_test i = linked_at ks ls is (take m (drop 1 ks)) (take m (drop 1 ls)) (take m (drop 1 is)) i

  -- what the loops find
  record Found : Type 0 where
    levels : (i : ℕ) → i < n → T (level_test i)
    first : get_or ks 0 0 ≡ 0
    items : (i : ℕ) → i < n → T (item_test i)
    links : (i : ℕ) → i < m → T (link_test i)
    end : T (ends_tree (at m))

  found-reflects : Reflects
      (all level_test (up_to n) && (eqb (get_or ks 0 0) 0 && all item_test (up_to n) && all link_test (up_to m) && ends_tree (at m))) Found
  found-reflects =
      reflects-iff
      (λ h. record { levels = h.0; first = h.1.0.0.0; items = h.1.0.0.1; links = h.1.0.1; end = h.1.1 })
      (λ f. (f.levels, (((f.first, f.items), f.links), f.end)))
      (reflects-and (all-below-reflects level_test n)
      (reflects-and
      (reflects-and (reflects-and (reflects-eqb (get_or ks 0 0) 0) (all-below-reflects item_test n)) (all-below-reflects link_test m))
      (reflects-test (ends_tree (at m)))))

  -- a link is an aligned entry and the one that follows it
  link-parts : (i : ℕ) → i < m → Reflects (link_test i) (T (aligned (at i)) × T (follows arity depth (at i) (at (suc i))))
  unfolding linked
  link-parts i h =
      subst (λ d. Reflects (aligned (at i) && follows arity depth (at i) d) (T (aligned (at i)) × T (follows arity depth (at i) (at (suc i)))))
      (sym (rest-entry ks ls is m i h)) (both (aligned (at i)) (follows arity depth (at i) (at (suc i))))

  end-parts : Reflects (ends_tree (at m)) (T (aligned (at m)) × T (eqb (range_end arity depth (at m)) (span arity depth 0)))
  unfolding ends_tree
  end-parts = both (aligned (at m)) (eqb (range_end arity depth (at m)) (span arity depth 0))

  found-aligned : Found → (i : ℕ) → i < suc m → T (aligned (at i))
  found-aligned f i h = elim (dec_le (suc i) m) [
    | yes l ↦ ((link-parts i l).to (f.links i l)).0
    | no l ↦ let q : m ≡ i = omega arith in subst (λ k. T (aligned (at k))) q (end-parts.to f.end).0
  ]

  found-chained : Found → Chained arity depth count at m
  unfolding entry_at
  found-chained f = record {
    first = f.first;
    fits = λ i l. (fits-parts count ks ls is i).from ((f.levels i (omega arith), found-aligned f i l), f.items i (omega arith));
    next = λ i l. ((link-parts i l).to (f.links i l)).1;
    end = (end-parts.to f.end).1;
  }

  chained-fits : Chained arity depth count at m → (i : ℕ) → i < suc m → (T (level_test i) × T (aligned (at i))) × T (item_test i)
  chained-fits c i l = (fits-parts count ks ls is i).to (c.fits i l)

  chained-found : Chained arity depth count at m → Found
  unfolding entry_at
  chained-found c = record {
    levels = λ i l. (chained-fits c i (omega arith)).0.0;
    first = c.first;
    items = λ i l. (chained-fits c i (omega arith)).1;
    links = λ i l. (link-parts i l).from ((chained-fits c i (omega arith)).0.1, c.next i l);
    end = end-parts.from ((chained-fits c m (omega arith)).0.1, c.end);
  }

  module _ (r : Roomy n ks ls is) where
    -- the chain rule on the first n entries, as the loops find it
    chain-parts : chain arity depth count (take n (zip_entries ks ls is))
        ≡ all level_test (up_to n) && (eqb (get_or ks 0 0) 0 && all item_test (up_to n) && all link_test (up_to m) && ends_tree (at m))
    chain-parts =
        reflects-same (lists-reflect arity depth count ks ls is n m e r)
        (reflects-iff found-chained chained-found found-reflects)

    pub chain-stopped : all level_test (up_to n) ≡ false → false ≡ chain arity depth count (take n (zip_entries ks ls is))
    chain-stopped l = rw (chain-parts, l)

    pub chain-joined : all level_test (up_to n) ≡ true → {i f d : Bool}
        → i ≡ all item_test (up_to n) → f ≡ all link_test (up_to m) → d ≡ ends_tree (at m)
        → eqb (get_or ks 0 0) 0 && i && f && d ≡ chain arity depth count (take n (zip_entries ks ls is))
    chain-joined l p q s = rw (chain-parts, l, p, q, s)

-- two tests that agree below n agree on all numbers below n
all-same : (f g : ℕ → Bool) (n : ℕ) → ((i : ℕ) → i < n → f i ≡ g i) → all f (up_to n) ≡ all g (up_to n)
all-same f g zero h = all-below-none f ∙ sym (all-below-none g)
all-same f g (suc n) h =
    all-below-more f n ∙ ap₂ ◌&&◌ (all-same f g n (λ i l. h i (omega arith))) (h n (omega arith)) ∙ sym (all-below-more g n)

-- the first n numbers of a list that has so many pass a test exactly if they pass it where they stand in the list
pub first-all : (f : ℕ → Bool) (l : List ℕ) {n : ℕ} → n ≤ length l → all (λ i. f (get_or (take n l) i 0)) (up_to (length (take n l))) ≡ all (λ i. f (get_or l i 0)) (up_to n)
first-all f l {n} h =
    ap (λ m. all (λ i. f (get_or (take n l) i 0)) (up_to m)) (length-take-le n l h)
    ∙ all-same (λ i. f (get_or (take n l) i 0)) (λ i. f (get_or l i 0)) n (λ i k. ap f (get_or-take n l i 0 k))

-- there is at least one entry
pub no-entries : (count : ℕ) (es : List Entry) {n : ℕ} → n ≡ 0 → false ≡ chain arity depth count (take n es)
unfolding chain
no-entries count es h = rw h
