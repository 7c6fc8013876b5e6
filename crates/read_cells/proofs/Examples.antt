-- Examples of Place.antt: the places of a cell's entries, a part that lies at its own place, and the items of a cell by its places.
-- Assumes nothing.
use mathlib.Core.Path.{◌≡◌, refl}
use mathlib.Core.List.{List, [], ◌∷◌, map}
use Prim.Native.Nat.{ℕ}
use native.Mathlib.Omega.{arith}
use Rattle.theory_lists.specs.Lists.{places_from, count_from}
use Rattle.theory_orthtree.specs.Morton.{lowest_bits, morton_key}
use Rattle.theory_orthtree.specs.Entries.{Entry, empty_mark, is_mark, span, range_end, covers}
use Rattle.spec_squares.specs.Square.{z_order}
use Rattle.read_cells.specs.Place.{listed_places, OwnPart, cell_items, cell_places}

abbrev e : ℕ → ℕ → Entry
e k i = record { key = k; level = 1; item = i }

-- four cells of level 1: two entries, the mark, one entry, two entries
abbrev es : List Entry
es = e 0 0 ∷ e 0 2 ∷ e 1073741824 65535 ∷ e 2147483648 1 ∷ e 3221225472 0 ∷ e 3221225472 1 ∷ []

places-example : map (λ p. listed_places es p) (record { x = 9; y = 7 } ∷ record { x = 40000; y = 9 } ∷ record { x = 9; y = 40000 } ∷ record { x = 40000; y = 50000 } ∷ [])
    ≡ (0 ∷ 1 ∷ []) ∷ [] ∷ (3 ∷ []) ∷ (4 ∷ 5 ∷ []) ∷ []
unfolding listed_places places_from covers span range_end is_mark empty_mark z_order morton_key lowest_bits
places-example = refl

-- the last two of four numbers, which lie from byte 100 on: they lie from byte 104 on
own-part-example :
    OwnPart (record { ref_ptr = (1, 100); now = 5 ∷ 6 ∷ 7 ∷ 8 ∷ [] }) (record { ref_ptr = (1, 104); now = 7 ∷ 8 ∷ [] }) (2 ∷ 3 ∷ [])
unfolding count_from
own-part-example = record { from = 2; memory = refl; byte = refl; within = omega arith; numbers = refl }

-- the items at places 1 and 2 of four, and none where the first of them is the mark
items-example : cell_items (5 ∷ 6 ∷ 7 ∷ 8 ∷ []) 1 3 ∷ cell_items (5 ∷ 65535 ∷ 8 ∷ []) 1 2 ∷ [] ≡ (6 ∷ 7 ∷ []) ∷ [] ∷ []
unfolding cell_items empty_mark
items-example = refl

cell-places-example : cell_places (5 ∷ 6 ∷ 7 ∷ 8 ∷ []) 1 3 ∷ cell_places (5 ∷ 65535 ∷ 8 ∷ []) 1 2 ∷ [] ≡ (1 ∷ 2 ∷ []) ∷ [] ∷ []
unfolding cell_places empty_mark count_from
cell-places-example = refl
