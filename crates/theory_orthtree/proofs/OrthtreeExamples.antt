-- Examples of the definitions: keys of unlike coordinates, a small tree, and entry lists that break one part of the chain
-- rule each.
-- Assumes nothing.
use mathlib.Core.Path.{◌≡◌, refl}
use mathlib.Core.Bool.{true, false}
use mathlib.Core.List.{List, [], ◌∷◌, ◌++◌, map, flat_map}
use Prim.Native.Nat.{ℕ, ◌+◌, ◌*◌}
use lib.Dec.{ltb}
use Rattle.theory_lists.specs.Lists.{any, filter, sum_of, prefix_length}
use Rattle.theory_orthtree.specs.Morton.{lowest_bits, morton_key, key_coordinate}
use Rattle.theory_orthtree.specs.Leaves.{leaves_below}
use Rattle.theory_orthtree.specs.Entries.{Entry, empty_mark, is_mark, same_cell, cell_heads, cell_heads_after, span, range_end, covers, overlaps, meetings, listed_together, entry_fits, follows, chain_after, chain}
use Rattle.theory_orthtree.proofs.MortonChildLaws.{child_corner}
use Rattle.theory_orthtree.proofs.ChainPartLaws.{ended_by, started_by}

-- 5 = 101, 3 = 011 in binary: 011011 for x = 5, y = 3; for three coordinates 1 0 0 from the highest bits, and so on
morton-example : morton_key 16 (5 ∷ 3 ∷ []) ∷ morton_key 16 (3 ∷ 5 ∷ []) ∷ morton_key 10 (5 ∷ 3 ∷ 0 ∷ []) ∷ morton_key 10 (0 ∷ 6 ∷ 1 ∷ []) ∷ morton_key 1 (2 ∷ 3 ∷ []) ∷ []
    ≡ 27 ∷ 39 ∷ 83 ∷ 148 ∷ 2 ∷ []
unfolding morton_key lowest_bits
morton-example = refl

-- and back: 27 = 011011 and 39 = 100111 in binary, two coordinates; 83 and 148, three; bits beyond those asked do not count, in the key
-- or in a coordinate
coordinate-example :
    map (λ j. key_coordinate 2 j 16 27) (0 ∷ 1 ∷ [])
    ++ (map (λ j. key_coordinate 2 j 16 39) (0 ∷ 1 ∷ [])
    ++ (map (λ j. key_coordinate 3 j 10 83) (0 ∷ 1 ∷ 2 ∷ [])
    ++ (map (λ j. key_coordinate 3 j 10 148) (0 ∷ 1 ∷ 2 ∷ [])
    ++ (map (λ n. key_coordinate 2 0 n 39) (0 ∷ 1 ∷ 2 ∷ 3 ∷ [])
    ++ (key_coordinate 2 0 16 3390698070 ∷ key_coordinate 2 1 16 3390698070 ∷ [])))))
    ≡ 5 ∷ 3 ∷ 3 ∷ 5 ∷ 5 ∷ 3 ∷ 0 ∷ 0 ∷ 6 ∷ 1 ∷ 0 ∷ 1 ∷ 3 ∷ 3 ∷ 34254 ∷ 45777 ∷ []
unfolding key_coordinate
coordinate-example = refl

-- a binary tree: node n has the children 2 n and 2 n + 1
abbrev halves : ℕ → List ℕ
halves n = (2 * n) ∷ (2 * n + 1) ∷ []

-- its leaves below 1 where nodes above 2 are stopped, and at most 2 levels down where none is
leaves-example : leaves_below halves (λ n. ltb 2 n) 9 1 ++ leaves_below halves (λ n. false) 2 1 ≡ 4 ∷ 5 ∷ 3 ∷ 4 ∷ 5 ∷ 6 ∷ 7 ∷ []
unfolding leaves_below flat_map
leaves-example = refl

abbrev e : ℕ → ℕ → ℕ → Entry
e k l i = record { key = k; level = l; item = i }

-- another item, another level, another key, and key and level exchanged
same_cell-example : map (λ f. same_cell (e 4 1 9) f) (e 4 1 7 ∷ e 4 2 9 ∷ e 5 1 9 ∷ e 1 4 9 ∷ []) ≡ true ∷ false ∷ false ∷ false ∷ []
unfolding same_cell
same_cell-example = refl

-- arity 4 and depth 2: sixteen keys
span-example : span 4 2 0 ∷ span 4 2 1 ∷ span 4 2 2 ∷ range_end 4 2 (e 4 1 9) ∷ [] ≡ 16 ∷ 4 ∷ 1 ∷ 8 ∷ []
unfolding span range_end
span-example = refl

covers-example : map (λ k. covers 4 2 k (e 4 1 9)) (3 ∷ 4 ∷ 7 ∷ 8 ∷ []) ≡ false ∷ true ∷ true ∷ false ∷ []
unfolding covers span range_end
covers-example = refl

overlaps-example : map (λ f. overlaps 4 2 (e 4 1 9) f) (e 0 1 9 ∷ e 3 2 9 ∷ e 4 2 9 ∷ e 7 2 9 ∷ e 8 2 9 ∷ e 0 0 9 ∷ [])
    ≡ false ∷ false ∷ true ∷ true ∷ false ∷ true ∷ []
unfolding overlaps span range_end
overlaps-example = refl

-- seven cells and nine entries; two cells have no item
abbrev indexed : List Entry
indexed = e 0 1 0 ∷ e 0 1 2 ∷ e 4 2 65535 ∷ e 5 2 1 ∷ e 6 2 0 ∷ e 6 2 1 ∷ e 7 2 2 ∷ e 8 1 65535 ∷ e 12 1 2 ∷ []

cells-example : map (λ c. c.key) (cell_heads indexed) ≡ 0 ∷ 4 ∷ 5 ∷ 6 ∷ 7 ∷ 8 ∷ 12 ∷ []
unfolding cell_heads cell_heads_after same_cell
cells-example = refl

abbrev other : List Entry
other = e 0 2 0 ∷ e 1 2 1 ∷ e 2 2 0 ∷ e 3 2 1 ∷ e 4 1 0 ∷ e 8 1 1 ∷ e 12 1 0 ∷ e 12 1 1 ∷ []

meetings-example : meetings 4 2 indexed other ∷ meetings 4 2 indexed (e 0 0 65535 ∷ []) ∷ [] ≡ 10 ∷ 7 ∷ []
unfolding meetings cell_heads cell_heads_after same_cell overlaps span range_end sum_of
meetings-example = refl

together-example : listed_together 4 2 indexed other 0 1 ∷ listed_together 4 2 indexed other 1 0 ∷ listed_together 4 2 indexed other 1 1 ∷ listed_together 4 2 other indexed 0 1 ∷ listed_together 4 2 other indexed 1 1 ∷ []
    ≡ true ∷ true ∷ false ∷ true ∷ false ∷ []
unfolding listed_together overlaps span range_end any filter
together-example = refl

-- after item 3 of the cell with keys 4 to 7: a higher item of it, the same, a lower one, the mark, the next cell, small and
-- large, a gap, a cell within it, another level; after the mark only the next cell
follows-example : map (λ f. follows 4 2 (e 4 1 3) f) (e 4 1 5 ∷ e 4 1 3 ∷ e 4 1 2 ∷ e 4 1 65535 ∷ e 8 2 0 ∷ e 8 1 0 ∷ e 9 1 7 ∷ e 5 1 7 ∷ e 4 2 7 ∷ [])
    ++ map (λ f. follows 4 2 (e 4 1 65535) f) (e 4 1 65536 ∷ e 8 1 65535 ∷ [])
    ≡ true ∷ false ∷ false ∷ false ∷ true ∷ true ∷ false ∷ false ∷ false ∷ false ∷ true ∷ []
unfolding follows is_mark empty_mark same_cell span range_end
follows-example = refl

-- the chain rule holds of the two lists, and of each list below all but one part of it
chain_example : map (λ es. chain 4 2 3 es) (indexed ∷ other ∷ (e 0 0 65535 ∷ []) ∷ (e 0 0 2 ∷ []) ∷ []) ≡ true ∷ true ∷ true ∷ true ∷ []
unfolding chain chain_after entry_fits follows is_mark empty_mark same_cell span range_end
chain_example = refl

broken-example : map (λ es. chain 4 2 3 es)
    ([]
    -- the first key is not 0
    ∷ (e 4 1 0 ∷ e 8 1 0 ∷ e 12 1 0 ∷ [])
    -- a level that is too deep
    ∷ (e 0 1 0 ∷ e 4 1 0 ∷ e 8 1 0 ∷ e 12 2 0 ∷ e 13 2 0 ∷ e 14 2 0 ∷ e 15 3 0 ∷ [])
    -- a key that is no multiple of its cell's size
    ∷ (e 0 2 0 ∷ e 1 1 0 ∷ e 5 2 0 ∷ e 6 2 0 ∷ e 7 2 0 ∷ e 8 1 0 ∷ e 12 1 0 ∷ [])
    -- an item that is not below the count
    ∷ (e 0 0 3 ∷ [])
    ∷ (e 0 1 0 ∷ e 4 1 3 ∷ e 8 1 0 ∷ e 12 1 0 ∷ [])
    ∷ (e 0 1 0 ∷ e 4 1 0 ∷ e 8 1 3 ∷ e 12 1 0 ∷ [])
    -- the same item twice, and descending items
    ∷ (e 0 0 1 ∷ e 0 0 1 ∷ [])
    ∷ (e 0 0 2 ∷ e 0 0 1 ∷ [])
    -- the mark after an item, and before one
    ∷ (e 0 0 1 ∷ e 0 0 65535 ∷ [])
    ∷ (e 0 0 65535 ∷ e 0 0 1 ∷ [])
    -- a gap, and a cell within the one before it
    ∷ (e 0 1 0 ∷ e 8 1 0 ∷ e 12 1 0 ∷ [])
    ∷ (e 0 1 0 ∷ e 4 1 0 ∷ e 4 2 1 ∷ e 8 1 0 ∷ e 12 1 0 ∷ [])
    -- the last ends too early, and too late
    ∷ (e 0 1 0 ∷ e 4 1 0 ∷ e 8 1 0 ∷ [])
    ∷ (e 0 1 0 ∷ e 4 1 0 ∷ e 8 1 0 ∷ e 12 1 0 ∷ e 16 1 0 ∷ [])
    ∷ [])
    ≡ false ∷ false ∷ false ∷ false ∷ false ∷ false ∷ false ∷ false ∷ false ∷ false ∷ false ∷ false ∷ false ∷ false ∷ false ∷ []
unfolding chain chain_after entry_fits follows is_mark empty_mark same_cell span range_end
broken-example = refl

-- child 5 of a node in three dimensions moves the first and the third coordinate; its key goes up by 5 children of 8 keys
child-example : child_corner 2 5 (4 ∷ 0 ∷ 8 ∷ []) ∷ [] ≡ (6 ∷ 0 ∷ 10 ∷ []) ∷ []
unfolding child_corner
child-example = refl

child-key-example : morton_key 4 (6 ∷ 0 ∷ 10 ∷ []) ≡ morton_key 4 (4 ∷ 0 ∷ 8 ∷ []) + 5 * 8
unfolding morton_key lowest_bits
child-key-example = refl

-- of the entries above, those of the cell that has key 6 are at places 4 and 5, and of the cell that has key 11 at place 7
part-example : ended_by 4 2 6 indexed ∷ started_by 6 indexed ∷ ended_by 4 2 11 indexed ∷ started_by 11 indexed ∷ [] ≡ 4 ∷ 6 ∷ 7 ∷ 8 ∷ []
unfolding prefix_length span range_end
part-example = refl
