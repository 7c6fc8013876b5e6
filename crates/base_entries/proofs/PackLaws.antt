-- Packed entries: an entry's parts are read off its number, and entries with equal numbers are equal.
-- Assumes nothing.
use mathlib.Core.Path.{◌≡◌, refl, ap₂}
use mathlib.Core.List.{List, [], ◌∷◌, map}
use Prim.Native.Nat.{ℕ, ◌+◌, ◌<◌}
use native.Mathlib.Omega.{arith}
use Rattle.theory_lists.proofs.ListsLaws.{Every, every-uncons}
use Rattle.theory_orthtree.specs.Entries.{Entry}
use Rattle.base_entries.specs.Packed.{level_weight, level_places, head_of, packed, key_of, level_of, item_of}

-- level and item are within their places of a packed entry
pub record Packable (e : Entry) : Type 0 where
  pub level : e.level < level_places
  pub item : e.item < level_weight

-- ---- the parts of a packed entry

module _ (k l i : ℕ) (a : l < level_places) (b : i < level_weight) where
  key-number : key_of (head_of k l + i) ≡ k
  key-number = omega arith

  level-number : level_of (head_of k l + i) ≡ l
  level-number = omega arith

  item-number : item_of (head_of k l + i) ≡ i
  item-number = omega arith

-- a function that gives back a part of each packed entry gives back those of a list
map-packed : (g : ℕ → ℕ) (f : Entry → ℕ) → ((e : Entry) → Packable e → g (packed e) ≡ f e)
    → (es : List Entry) → Every (λ e. Packable e) es → map g (map (λ e. packed e) es) ≡ map f es
map-packed g f r [] p = refl
map-packed g f r (e ∷ es) p = let h = every-uncons p in ap₂ ◌∷◌ (r e h.0) (map-packed g f r es h.1)

module _ (es : List Entry) (p : Every (λ e. Packable e) es) where
  pub keys-packed : map key_of (map (λ e. packed e) es) ≡ map (λ e. e.key) es
  unfolding packed
  keys-packed = map-packed key_of (λ e. e.key) (λ e h. key-number e.key e.level e.item h.level h.item) es p

  pub levels-packed : map level_of (map (λ e. packed e) es) ≡ map (λ e. e.level) es
  unfolding packed
  levels-packed = map-packed level_of (λ e. e.level) (λ e h. level-number e.key e.level e.item h.level h.item) es p

  pub items-packed : map item_of (map (λ e. packed e) es) ≡ map (λ e. e.item) es
  unfolding packed
  items-packed = map-packed item_of (λ e. e.item) (λ e h. item-number e.key e.level e.item h.level h.item) es p

-- ---- packable entries with equal numbers are equal

same_parts : (k l i m n j : ℕ) → l < level_places → i < level_weight → n < level_places → j < level_weight
    → head_of k l + i ≡ head_of m n + j → (k ≡ m) × ((l ≡ n) × (i ≡ j))
same_parts k l i m n j a b c d e = (omega arith, (omega arith, omega arith))

pub packed-injective : (e f : Entry) → Packable e → Packable f → packed e ≡ packed f → e ≡ f
unfolding packed
packed-injective e f p q h =
    let s = same_parts e.key e.level e.item f.key f.level f.item p.level p.item q.level q.item h in
    λ i. record { key = s.0 i; level = s.1.0 i; item = s.1.1 i }
