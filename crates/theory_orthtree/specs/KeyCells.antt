-- Cells by their keys alone, as equal keys beside each other: how many they are, and where a cell and a run of cells end, in a list
-- of keys (document 01, "Overlay": meetings).
-- Assumes nothing.
use Rattle.std.specs.Prelude.{◌≡◌, cond, List, [], ◌∷◌, ℕ, suc, ◌≤◌, ◌<◌, ltb, eqb, get_or}

-- place r is the first after a, up to n, whose key is another than that at a
pub record CellEnd (ks : List ℕ) (n a r : ℕ) : Type 0 where
  pub after : a < r
  pub within : r ≤ n
  pub same : (i : ℕ) → a ≤ i → i < r → get_or ks i 0 ≡ get_or ks a 0
  pub other : r < n → get_or ks r 0 ≡ get_or ks a 0 → ⊥

-- place r is the first from a on, up to n, whose key reaches the bound
pub record RunEnd (ks : List ℕ) (n a bound r : ℕ) : Type 0 where
  pub from : a ≤ r
  pub within : r ≤ n
  pub below : (i : ℕ) → a ≤ i → i < r → get_or ks i 0 < bound
  pub reached : r < n → bound ≤ get_or ks r 0

-- how many keys differ from the one before them, after a first key
unfoldable pub changes_after : ℕ → List ℕ → ℕ
changes_after k [] = 0
changes_after k (l ∷ ls) = cond (eqb k l) (changes_after l ls) (suc (changes_after l ls))

-- how many cells: the first key, and each that differs from the one before it, starts one
unfoldable pub key_cells : List ℕ → ℕ
key_cells [] = 0
key_cells (k ∷ ks) = suc (changes_after k ks)

-- the key at place i of the first n, or the end of all keys after them
unfoldable pub key_from : List ℕ → ℕ → ℕ → ℕ → ℕ
key_from ks n end i = cond (ltb i n) (get_or ks i 0) end
