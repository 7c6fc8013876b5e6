-- A list that satisfies the chain rule, by places: what stands at the next place, and where the last cell ends.
-- Assumes nothing.
use mathlib.Core.Path.{◌≡◌}
use mathlib.Core.List.{List, [], ◌∷◌}
use Prim.Native.Nat.{ℕ, suc, ◌-◌, ◌≤◌, ◌<◌}
use native.Mathlib.Decide.{dec_le}
use native.Mathlib.Omega.{arith}
use lib.Dec.{T}
use lib.ListN.{length, get_or}
use Rattle.theory_lists.proofs.Reflects.{reflects-eqb}
use Rattle.theory_lists.proofs.Order.{ordered_at}
use Rattle.theory_orthtree.specs.Entries.{Entry, span, range_end, chain}
use Rattle.theory_orthtree.proofs.ChainLaws.{Follows, follows-reflects}
use Rattle.theory_orthtree.proofs.ChainPlaceLaws.{Chained, places-reflect}
use Rattle.theory_orthtree.proofs.ChainOrderLaws.{Before, before-end, chain-ordered}

module _ (arity depth : ℕ) (d : Entry) where
  module _ (count : ℕ) (pos : 0 < arity) (es : List Entry) (rule : T (chain arity depth count es)) where
    chained : (m : ℕ) → length es ≡ suc m → Chained arity depth count (λ i. get_or es i d) m
    chained m h = (places-reflect arity depth count d es m h).to rule

    -- the next entry is a further item of the same cell, or starts where the cell ends
    pub chain-step : (i : ℕ) → suc i < length es → Follows arity depth (get_or es i d) (get_or es (suc i) d)
    chain-step i l =
        (follows-reflects arity depth (get_or es i d) (get_or es (suc i) d)).to ((chained (length es - 1) (omega arith)).next i (omega arith))

    -- the last ends where the tree does
    pub chain-last : (i : ℕ) → suc i ≡ length es → range_end arity depth (get_or es i d) ≡ span arity depth 0
    chain-last i l = (reflects-eqb (range_end arity depth (get_or es i d)) (span arity depth 0)).to (chained i (omega arith)).end

    -- the first starts at 0
    pub chain_first : 0 < length es → (get_or es 0 d).key ≡ 0
    chain_first l = (chained (length es - 1) (omega arith)).first

    -- the list is not empty
    pub chain-none : 0 ≡ length es → 0 ≡ span arity depth 0
    unfolding chain
    chain-none l = go es rule l
      where
        go : (es : List Entry) → T (chain arity depth count es) → 0 ≡ length es → 0 ≡ span arity depth 0
        go [] r l = absurd r
        go (e ∷ es) r l = absurd (omega arith)

    -- of two places the later one has a further item of the same cell, or a cell that starts where the other ends or after that
    pub chain-places : (i j : ℕ) → i < j → j < length es → Before arity depth (get_or es i d) (get_or es j d)
    chain-places i j h l = ordered_at i j d (chain-ordered arity depth count pos es rule) h l

    -- none ends after the tree
    pub chain-within : (i : ℕ) → i < length es → range_end arity depth (get_or es i d) ≤ span arity depth 0
    chain-within i l =
        let z : suc (length es - 1) ≡ length es = omega arith in
        let e = chain-last (length es - 1) z in
        elim (dec_le (length es) (suc i)) [
          | yes h ↦ let s : suc i ≡ length es = omega arith in let f = chain-last i s in omega arith
          | no h ↦ let b = before-end arity depth (chain-places i (length es - 1) (omega arith) (omega arith)) in omega arith
        ]
