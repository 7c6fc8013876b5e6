-- In a list that satisfies the chain rule equal keys beside each other are of one cell, so a part of it has as many cells as its keys
-- tell.
-- Assumes nothing.
use mathlib.Core.Path.{◌≡◌, refl, ap}
use mathlib.Core.List.{List, [], ◌∷◌, map}
use mathlib.Core.Logic.{inl, inr}
use Prim.Native.Nat.{ℕ, zero, suc, ◌-◌, ◌≤◌, ◌<◌}
use native.Mathlib.Omega.{arith}
use lib.Dec.{T}
use lib.ListN.{length, take, drop}
use Rattle.theory_lists.proofs.ListsLaws.{every-uncons}
use Rattle.theory_lists.proofs.Order.{Ordered, ordered-none, ordered-more}
use Rattle.theory_orthtree.specs.Entries.{Entry, cell_heads, cell_heads_after, range_end, chain}
use Rattle.theory_orthtree.proofs.EntriesLaws.{span-positive}
use Rattle.theory_orthtree.proofs.ChainHeadsLaws.{heads-same, heads-next}
use Rattle.theory_orthtree.proofs.ChainOrderLaws.{Before, chain-ordered}
use Rattle.theory_orthtree.specs.KeyCells.{changes_after, key_cells}
use Rattle.theory_orthtree.proofs.PlaceLaws.{take-member}
use Rattle.theory_orthtree.proofs.KeyCellsLaws.{changes-same, changes-other}

-- an ordered list without its first elements, and without its last
ordered-drop : {A : Type 0} {R : A → A → Type 0} (n : ℕ) {l : List A} → Ordered R l → Ordered R (drop n l)
ordered-drop zero o = o
ordered-drop (suc n) ordered-none = ordered-none
ordered-drop (suc n) (ordered-more r o) = ordered-drop n o

ordered-take : {A : Type 0} {R : A → A → Type 0} (n : ℕ) {l : List A} → Ordered R l → Ordered R (take n l)
ordered-take zero o = ordered-none
ordered-take (suc n) ordered-none = ordered-none
ordered-take (suc n) (ordered-more {xs = xs} r o) = ordered-more (λ y m. r y (take-member n xs m)) (ordered-take n o)

module _ (arity depth : ℕ) (pos : 0 < arity) where
  -- the keys of entries
  abbrev keys : List Entry → List ℕ
  keys es = map (λ e. e.key) es

  later-key : (e f : Entry) → range_end arity depth e ≤ f.key → e.key ≡ f.key → ⊥
  unfolding range_end
  later-key e f h q = let p = span-positive arity depth e.level pos in omega arith

  heads-step : (e f : Entry) (es : List Entry) → Before arity depth e f → length (cell_heads_after f es) ≡ changes_after f.key (keys es)
      → length (cell_heads_after e (f ∷ es)) ≡ changes_after e.key (keys (f ∷ es))
  heads-step e f es (inl n) r =
      rw (heads-same e f es n.cell, changes-same e.key f.key (keys es) n.cell.key) r
  heads-step e f es (inr h) r =
      rw (heads-next e f es (λ s. later-key e f h s.key), changes-other e.key f.key (keys es) (later-key e f h)) (ap suc r)

  heads-after-keys : (e : Entry) (es : List Entry) → Ordered (λ e f. Before arity depth e f) (e ∷ es)
      → length (cell_heads_after e es) ≡ changes_after e.key (keys es)
  unfolding cell_heads_after changes_after
  heads-after-keys e [] o = refl
  heads-after-keys e (f ∷ es) (ordered-more r o) = heads-step e f es (every-uncons r).0 (heads-after-keys f es o)

  heads-keys : (es : List Entry) → Ordered (λ e f. Before arity depth e f) es → length (cell_heads es) ≡ key_cells (keys es)
  unfolding cell_heads key_cells
  heads-keys [] o = refl
  heads-keys (e ∷ es) o = ap suc (heads-after-keys e es o)

-- a part of a list that satisfies the chain rule has as many cells as its keys tell
pub heads-by-keys : (arity depth count : ℕ) → 0 < arity → (es : List Entry) → T (chain arity depth count es) → (a r : ℕ)
    → length (cell_heads (take (r - a) (drop a es))) ≡ key_cells (map (λ e. e.key) (take (r - a) (drop a es)))
heads-by-keys arity depth count pos es rule a r =
    heads-keys arity depth pos (take (r - a) (drop a es)) (ordered-take (r - a) (ordered-drop a (chain-ordered arity depth count pos es rule)))
