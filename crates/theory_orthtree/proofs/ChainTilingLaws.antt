-- The entries of nodes that tile the whole key range satisfy the chain rule.
-- The idea: from the back. If the entries of the nodes after n go on from where n ends, then with n's own entries in front they
-- go on from where n starts.
-- Assumes nothing.
use mathlib.Core.Path.{◌≡◌, refl, ◌∙◌}
use mathlib.Core.List.{List, [], ◌∷◌, ◌++◌, map, flat_map}
use mathlib.Core.Logic.{inl, inr}
use Prim.Native.Nat.{ℕ, suc, ◌+◌, ◌%◌, ◌≤◌, ◌<◌}
use native.Mathlib.Omega.{arith}
use lib.Dec.{T}
use Rattle.theory_lists.proofs.ListsLaws.{Every, every-uncons}
use Rattle.theory_lists.proofs.Order.{Rising, rising_none, rising-more}
use Rattle.theory_orthtree.specs.Entries.{Entry, empty_mark, span, range_end, chain, entry}
use Rattle.theory_orthtree.proofs.TilingLaws.{Tiles, done, next}
use Rattle.theory_orthtree.proofs.ChainLaws.{ChainAfter, last, link, ChainFrom, end, start, chain-reflects}

-- the items of a cell: at least one, strictly ascending and below the count, or the mark alone
pub data Listing (count : ℕ) : List ℕ → Type 0 where
  marked : Listing count (empty_mark ∷ [])
  listed : {i : ℕ} {is : List ℕ} → Rising 0 count (i ∷ is) → Listing count (i ∷ is)

-- the entries of nodes, one for each item of each
abbrev pub entries_from : {Node : Type 0} → (Node → ℕ) → (Node → ℕ) → (Node → List ℕ) → List Node → List Entry
entries_from key level items ns = flat_map (λ n. map (λ i. entry (key n) (level n) i) (items n)) ns

-- a node that a tree of this depth may have, with items that a cell may have
pub record Cell {Node : Type 0} (arity depth count : ℕ) (key level : Node → ℕ) (items : Node → List ℕ) (n : Node) : Type 0 where
  pub deep : level n ≤ depth
  pub aligned : key n % span arity depth (level n) ≡ 0
  pub listing : Listing count (items n)

module _ (arity depth count : ℕ) (few : count ≤ empty_mark) where
  -- entries that go on from where e's cell ends may stand after e
  go_on : (e : Entry) {es : List Entry} → ChainFrom arity depth count (range_end arity depth e) es → ChainAfter arity depth count e es
  go_on e (end h) = last h
  go_on e (start h fit c) = link fit (inr h) c

  module _ (k l : ℕ) (deep : l ≤ depth) (aligned : k % span arity depth l ≡ 0) {es : List Entry}
      (rest : ChainFrom arity depth count (k + span arity depth l) es) where
    after-item : (i : ℕ) → ChainAfter arity depth count (entry k l i) es
    unfolding range_end
    after-item i = go_on (entry k l i) rest

    items-chain : {i : ℕ} {is : List ℕ} → i < count → Rising (suc i) count is
        → ChainAfter arity depth count (entry k l i) (map (entry k l) is ++ es)
    items-chain {i} h rising_none = after-item i
    items-chain {i} h (rising-more {i = j} a b r) =
        link (record { level = deep; aligned = aligned; item = inl b })
        (inl (record {
          cell = record { key = refl; level = refl };
          higher = a;
          first_item = λ e. omega arith;
          second_item = λ e. omega arith;
        }))
        (items-chain b r)

    cell-chain : {is : List ℕ} → Listing count is → ChainFrom arity depth count k (map (entry k l) is ++ es)
    cell-chain marked = start refl (record { level = deep; aligned = aligned; item = inr refl }) (after-item empty_mark)
    cell-chain (listed (rising-more a b r)) = start refl (record { level = deep; aligned = aligned; item = inl b }) (items-chain b r)

  module _ {Node : Type 0} (key level : Node → ℕ) (items : Node → List ℕ) where
    tiling-induct : {a b : ℕ} {ns : List Node} → Tiles key (λ n. span arity depth (level n)) a ns b → b ≡ span arity depth 0
        → Every (λ n. Cell arity depth count key level items n) ns → ChainFrom arity depth count a (entries_from key level items ns)
    unfolding flat_map
    tiling-induct (done e) h g = end (e ∙ h)
    tiling-induct (next {a = a} {n = n} {ns = ns} e t) h g =
        let c = every-uncons g in
        let rest = rw (← e) at (tiling-induct t h c.1) in
        rw (← e) (cell-chain (key n) (level n) c.0.deep c.0.aligned rest c.0.listing)

    -- nodes that tile the whole range satisfy the chain rule
    pub tiling-chain : 0 < arity → (ns : List Node) → Tiles key (λ n. span arity depth (level n)) 0 ns (span arity depth 0)
        → Every (λ n. Cell arity depth count key level items n) ns → T (chain arity depth count (entries_from key level items ns))
    tiling-chain pos ns t g = (chain-reflects arity depth pos count (entries_from key level items ns)).from (tiling-induct t refl g)
