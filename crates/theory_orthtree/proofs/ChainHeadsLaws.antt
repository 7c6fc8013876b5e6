-- The cells of a list that satisfies the chain rule tile the whole key range.
-- The idea: along the chain an entry either stays in the cell, and is not counted, or starts where the cell before it ends.
-- Assumes nothing.
use mathlib.Core.Path.{◌≡◌, refl, subst}
use mathlib.Core.Bool.{Bool, true, false}
use mathlib.Core.List.{List, [], ◌∷◌, Memᴰ}
use mathlib.Core.Logic.{inl, inr}
use Prim.Native.Nat.{ℕ, ◌+◌, ◌<◌}
use native.Mathlib.Omega.{arith}
use lib.Dec.{T}
use Rattle.theory_lists.proofs.Reflects.{test-true, test-false}
use Rattle.theory_lists.proofs.ListsLaws.{Every, every-cons}
use Rattle.theory_lists.proofs.EveryLaws.{every-nil, every-imp}
use Rattle.theory_orthtree.specs.Entries.{Entry, same_cell, cell_heads, cell_heads_after, span, range_end, chain}
use Rattle.theory_orthtree.proofs.EntriesLaws.{span-positive}
use Rattle.theory_orthtree.proofs.TilingLaws.{Tiles, done, next}
use Rattle.theory_orthtree.proofs.ChainLaws.{SameCell, same_cell-reflects, same_end, ChainAfter, last, link, ChainFrom, end, start, chain-reflects}

-- an entry of the same cell is passed over
pub heads-same : (e f : Entry) (es : List Entry) → SameCell e f → cell_heads_after e (f ∷ es) ≡ cell_heads_after f es
unfolding cell_heads_after
heads-same e f es s = rw (cell_heads_after, test-true {b = same_cell e f} ((same_cell-reflects e f).from s))

-- one of another cell is its first entry
pub heads-next : (e f : Entry) (es : List Entry) → (SameCell e f → ⊥) → cell_heads_after e (f ∷ es) ≡ f ∷ cell_heads_after f es
unfolding cell_heads_after
heads-next e f es n = rw (cell_heads_after, test-false {b = same_cell e f} (λ t. n ((same_cell-reflects e f).to t)))

module _ (arity depth count : ℕ) (pos : 0 < arity) where
  abbrev cell_key : Entry → ℕ
  cell_key e = e.key

  abbrev cell_size : Entry → ℕ
  cell_size e = span arity depth e.level

  tile-head : (f : Entry) {k b : ℕ} {fs : List Entry} → f.key ≡ k → Tiles cell_key cell_size (range_end arity depth f) fs b
      → Tiles cell_key cell_size k (f ∷ fs) b
  unfolding range_end
  tile-head f {b = b} {fs = fs} h t = next h (subst (λ x. Tiles cell_key cell_size (x + cell_size f) fs b) h t)

  not_same : (e f : Entry) → f.key ≡ range_end arity depth e → SameCell e f → ⊥
  unfolding range_end
  not_same e f h s = let p = span-positive arity depth e.level pos in omega (arith, s.key)

  -- the cells after e's tile what is after e's cell
  after-tile : {e : Entry} {es : List Entry} → ChainAfter arity depth count e es
      → Tiles cell_key cell_size (range_end arity depth e) (cell_heads_after e es) (span arity depth 0)
  unfolding cell_heads_after
  after-tile (last h) = done h
  after-tile (link {e = e} {f = f} {es = es} fit (inl n) c) =
      rw (heads-same e f es n.cell, same_end arity depth n.cell) (after-tile c)
  after-tile (link {e = e} {f = f} {es = es} fit (inr h) c) =
      rw (heads-next e f es (not_same e f h)) (tile-head f h (after-tile c))

  from-tile : {k : ℕ} {es : List Entry} → ChainFrom arity depth count k es → Tiles cell_key cell_size k (cell_heads es) (span arity depth 0)
  unfolding cell_heads
  from-tile (end h) = done h
  from-tile (start {e = e} h fit c) = tile-head e h (after-tile c)

  -- the cells of a list that satisfies the chain rule tile the whole range
  pub heads-tile : (es : List Entry) → T (chain arity depth count es)
      → Tiles (λ e. e.key) (λ e. span arity depth e.level) 0 (cell_heads es) (span arity depth 0)
  heads-tile es rule = from-tile ((chain-reflects arity depth pos count es).to rule)

heads-choice : (b : Bool) {f : Entry} {es hs : List Entry} → Every (λ h. Memᴰ h es) hs
    → Every (λ h. Memᴰ h (f ∷ es)) (elim b [ true ↦ hs | false ↦ f ∷ hs ])
heads-choice true m = every-imp (λ h c. Memᴰ.tail c) m
heads-choice false m = every-cons (Memᴰ.head refl, every-imp (λ h c. Memᴰ.tail c) m)

heads-after-members : (e : Entry) (es : List Entry) → Every (λ h. Memᴰ h es) (cell_heads_after e es)
unfolding cell_heads_after
heads-after-members e [] = every-nil (λ h. Memᴰ h [])
heads-after-members e (f ∷ es) = heads-choice (same_cell e f) (heads-after-members f es)

-- the first entries of the cells are entries of the list
pub heads-members : (es : List Entry) → Every (λ h. Memᴰ h es) (cell_heads es)
unfolding cell_heads
heads-members [] = every-nil (λ h. Memᴰ h [])
heads-members (e ∷ es) = every-cons (Memᴰ.head refl, every-imp (λ h c. Memᴰ.tail c) (heads-after-members e es))
