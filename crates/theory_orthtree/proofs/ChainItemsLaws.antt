-- In a list that satisfies the chain rule the items of the cell that has a key ascend strictly, and are below the count.
-- The idea: of two entries of one cell the later one is a further item (`chain-ordered`), and each item is below the count or the
-- mark (`chain_fits`).
-- Assumes nothing.
use mathlib.Core.Path.{◌≡◌}
use mathlib.Core.Bool.{Bool, not}
use mathlib.Core.List.{List, map}
use mathlib.Core.Logic.{◌⊎◌, inl, inr}
use Prim.Native.Nat.{ℕ, ◌≤◌, ◌<◌}
use native.Mathlib.Omega.{arith}
use lib.Dec.{T, T_not}
use Rattle.theory_lists.specs.Lists.{filter}
use Rattle.theory_lists.proofs.EveryLaws.{every-imp, every_map}
use Rattle.theory_lists.proofs.FilterLaws.{every-filter}
use Rattle.theory_lists.proofs.Order.{Ordered, Rising, ordered-imp, ordered-map, ordered-filter, ordered-rising}
use Rattle.theory_orthtree.specs.Entries.{Entry, empty_mark, is_mark, covers, chain}
use Rattle.theory_orthtree.proofs.EntriesLaws.{covers-reflects}
use Rattle.theory_orthtree.proofs.ChainLaws.{NextItem, is_mark-reflects}
use Rattle.theory_orthtree.proofs.ChainOrderLaws.{before-common, chain-ordered, chain_fits}

-- an item that is below the count or the mark, and not the mark
unmarked-below : {count : ℕ} (e : Entry) → (e.item < count) ⊎ (e.item ≡ empty_mark) → T (not (is_mark e)) → e.item < count
unmarked-below e (inl h) t = h
unmarked-below e (inr h) t = absurd (T_not (is_mark e) t ((is_mark-reflects e).from h))

module _ (arity depth count : ℕ) (pos : 0 < arity) (es : List Entry) (rule : T (chain arity depth count es)) (k : ℕ) where
  -- the entry's cell has the key
  abbrev has : Entry → Bool
  has e = covers arity depth k e

  -- the entry is an item
  abbrev item : Entry → Bool
  item e = not (is_mark e)

  -- of the entries of the cell that has the key, each later one is a further item of it
  pub cell-ordered : Ordered (λ e f. NextItem e f) (filter has es)
  cell-ordered =
      ordered-imp (λ e f h.
      before-common arity depth k h.0 ((covers-reflects arity depth k e).to h.1.0) ((covers-reflects arity depth k f).to h.1.1))
      (ordered-filter has (chain-ordered arity depth count pos es rule))

  -- so the items ascend strictly
  pub cell-items-ascend : Ordered (λ e f. e.item < f.item) (filter has es)
  cell-items-ascend = ordered-imp (λ e f n. n.higher) cell-ordered

  -- without the mark they are below the count, and ascend strictly
  pub cell-items-rising : Rising 0 count (map (λ e. e.item) (filter item (filter has es)))
  cell-items-rising =
      ordered-rising
      (ordered-map {R = λ i j. i < j} (λ e. e.item) (ordered-imp (λ e f h. h.0) (ordered-filter item cell-items-ascend)))
      (every_map (λ i. (0 ≤ i) × (i < count)) (λ e. e.item) (filter item (filter has es))
      (every-imp (λ e h. (omega arith, unmarked-below e h.0.0.item h.1))
      (every-filter item (filter has es) (every-filter has es (chain_fits arity depth count pos es rule)))))
