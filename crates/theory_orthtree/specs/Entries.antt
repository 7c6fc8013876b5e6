-- Entries of a tree, key ranges and the chain rule (document 01, "Cells and entries", "Chart buffers", "Overlay"),
-- over any arity and depth.
-- Assumes nothing.
use Rattle.std.specs.Prelude.{Bool, true, false, not, ◌&&◌, ◌||◌, List, [], ◌∷◌, ℕ, ◌+◌, ◌-◌, ◌%◌, ◌^◌, leb, ltb, eqb}
use Rattle.theory_lists.specs.Lists.{any, filter, sum_of}

-- "An entry is key, level, triangle"; the third is the number of whatever the tree holds, an item
pub record Entry : Type 0 where
  pub key : ℕ
  pub level : ℕ
  pub item : ℕ

-- the entry with this key, level and item
abbrev pub entry : ℕ → ℕ → ℕ → Entry
entry key level item = record { key = key; level = level; item = item }

-- "the mark 65,535": the one entry of a cell with no item
unfoldable pub empty_mark : ℕ
empty_mark = 65535

-- the entry is that of a cell with no item
unfoldable pub is_mark : Entry → Bool
is_mark e = eqb e.item empty_mark

-- the two entries are of one cell: the same key and level
unfoldable pub same_cell : Entry → Entry → Bool
same_cell e f = eqb e.key f.key && eqb e.level f.level

-- the first entry of each cell, where the entries of a cell stand together: one for each cell, in order
unfoldable pub cell_heads_after : Entry → List Entry → List Entry
cell_heads_after e [] = []
cell_heads_after e (f ∷ es) = elim (same_cell e f) [ true ↦ cell_heads_after f es | false ↦ f ∷ cell_heads_after f es ]

unfoldable pub cell_heads : List Entry → List Entry
cell_heads [] = []
cell_heads (e ∷ es) = e ∷ cell_heads_after e es

module _ (arity depth : ℕ) where
  -- "it covers 4^(16 − level) keys": how many keys a node of this level covers
  unfoldable pub span : ℕ → ℕ
  span level = arity ^ (depth - level)

  -- where the key range of the entry's cell ends, exclusive
  unfoldable pub range_end : Entry → ℕ
  range_end e = e.key + span e.level

  -- the key range of the entry's cell has the key
  unfoldable pub covers : ℕ → Entry → Bool
  covers k e = leb e.key k && ltb k (range_end e)

  -- "whose key ranges overlap, that is, have a key in common"
  unfoldable pub overlaps : Entry → Entry → Bool
  overlaps e f = ltb e.key (range_end f) && ltb f.key (range_end e)

  -- "the meetings, the number of pairs of cells (one from each chart) whose key ranges overlap"
  unfoldable pub meetings : List Entry → List Entry → ℕ
  meetings es fs = sum_of (λ e. sum_of (λ f. elim (overlaps e f) [ true ↦ 1 | false ↦ 0 ]) (cell_heads fs)) (cell_heads es)

  -- "a cell listing i and a cell listing j overlap so"
  unfoldable pub listed_together : List Entry → List Entry → ℕ → ℕ → Bool
  listed_together es fs i j =
      any (λ e. any (λ f. overlaps e f) (filter (λ f. eqb f.item j) fs)) (filter (λ e. eqb e.item i) es)

  -- "levels ≤ 16; keys multiples of 4^(16 − level)", "triangle numbers below the count, or 65,535"
  unfoldable pub entry_fits : ℕ → Entry → Bool
  entry_fits count e =
      leb e.level depth && eqb (e.key % span e.level) 0 && (ltb e.item count || is_mark e)

  -- "each next entry has the same key and level and a higher triangle number, or starts where the previous square ends";
  -- "65,535 alone in its cell"
  unfoldable pub follows : Entry → Entry → Bool
  follows e f =
      same_cell e f && ltb e.item f.item && not (is_mark e) && not (is_mark f) || eqb f.key (range_end e)

  -- the entries after e go on from it, and "the last ends at 2^32", the whole tree's end
  unfoldable pub chain_after : ℕ → Entry → List Entry → Bool
  chain_after count e [] = eqb (range_end e) (span 0)
  chain_after count e (f ∷ es) = elim (entry_fits count f && follows e f) [ true ↦ chain_after count f es | false ↦ false ]

  -- the chain rule on the entries, of which there is at least one; "first key 0"
  unfoldable pub chain : ℕ → List Entry → Bool
  chain count [] = false
  chain count (e ∷ es) = eqb e.key 0 && entry_fits count e && chain_after count e es
