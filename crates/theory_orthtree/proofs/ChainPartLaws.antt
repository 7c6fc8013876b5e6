-- The entries of the cell that has a key stand together in a list that satisfies the chain rule: they are those after the cells
-- that end at or before the key, and of cells that start at or before it.
-- The idea: keys and ends never fall along the list, so both tests hold up to some place and not after it.
-- Assumes nothing.
use mathlib.Core.Path.{◌≡◌}
use mathlib.Core.Bool.{Bool}
use mathlib.Core.List.{List}
use Prim.Native.Nat.{ℕ, ◌-◌, ◌<◌}
use native.Mathlib.Nat.{lt_of_not-le}
use native.Mathlib.Omega.{arith}
use lib.Dec.{T, leb, leb→le, le→leb}
use lib.ListN.{take, drop}
use Rattle.theory_lists.specs.Lists.{filter, prefix_length}
use Rattle.theory_lists.proofs.Reflects.{Reflects, reflects-iff}
use Rattle.theory_lists.proofs.Order.{ordered-imp}
use Rattle.theory_lists.proofs.Prefixes.{filter-part, part-some}
use Rattle.theory_orthtree.specs.Entries.{Entry, span, range_end, covers, chain}
use Rattle.theory_orthtree.proofs.EntriesLaws.{InRange, covers-reflects}
use Rattle.theory_orthtree.proofs.ChainOrderLaws.{Before, before-key, before-end, chain-ordered, chain-cover}

-- the entry's cell ends at or before the key k
abbrev pub ended_at : ℕ → ℕ → ℕ → Entry → Bool
ended_at arity depth k e = leb (range_end arity depth e) k

-- the entry's cell starts at or before the key k
abbrev pub started_at : ℕ → Entry → Bool
started_at k e = leb e.key k

-- how many entries at the start of the list are of cells that end at or before the key
abbrev pub ended_by : ℕ → ℕ → ℕ → List Entry → ℕ
ended_by arity depth k es = prefix_length (ended_at arity depth k) es

-- how many are of cells that start at or before it
abbrev pub started_by : ℕ → List Entry → ℕ
started_by k es = prefix_length (started_at k) es

module _ (arity depth k : ℕ) where
  abbrev ended : Entry → Bool
  ended e = ended_at arity depth k e

  abbrev started : Entry → Bool
  started e = started_at k e

  ended-started : (e : Entry) → T (ended e) → T (started e)
  unfolding range_end
  ended-started e t = omega (arith, leb→le, le→leb)

  -- the range has the key when it has started and not ended
  range-to : {e : Entry} → InRange arity depth k e → T (started e) × (T (ended e) → ⊥)
  range-to {e} h = (le→leb e.key k h.starts, λ t. let g = leb→le (range_end arity depth e) k t in omega (arith, h.ends))

  range-from : {e : Entry} → T (started e) × (T (ended e) → ⊥) → InRange arity depth k e
  range-from {e} h = record { starts = leb→le e.key k h.0; ends = lt_of_not-le (λ g. h.1 (le→leb (range_end arity depth e) k g)) }

  in-range : (e : Entry) → Reflects (covers arity depth k e) (T (started e) × (T (ended e) → ⊥))
  in-range e = reflects-iff range-to range-from (covers-reflects arity depth k e)

  started-falls : {e f : Entry} → Before arity depth e f → T (started f) → T (started e)
  started-falls b t = let h = before-key arity depth b in omega (arith, leb→le, le→leb)

  ended-falls : {e f : Entry} → Before arity depth e f → T (ended f) → T (ended e)
  ended-falls b t = let h = before-end arity depth b in omega (arith, leb→le, le→leb)

  module _ (count : ℕ) (pos : 0 < arity) (es : List Entry) (rule : T (chain arity depth count es)) where
    -- the entries of the cell that has the key are one part of the list
    pub chain-part : filter (λ e. covers arity depth k e) es
        ≡ take (started_by k es - ended_by arity depth k es) (drop (ended_by arity depth k es) es)
    chain-part =
        let o = chain-ordered arity depth count pos es rule in
        filter-part ended started (λ e. covers arity depth k e) ended-started in-range es
        (ordered-imp (λ e f b. ended-falls b) o) (ordered-imp (λ e f b. started-falls b) o)

    -- which is not empty if the key is one of the tree's
    pub chain-part-some : k < span arity depth 0 → ended_by arity depth k es < started_by k es
    chain-part-some l =
        let s = chain-cover arity depth count pos es rule k l in
        part-some ended started (λ e. covers arity depth k e) ended-started in-range es
        (ordered-imp (λ e f b. started-falls b) (chain-ordered arity depth count pos es rule))
        (record { value = s.value; member = s.member; has = range-to s.has })
