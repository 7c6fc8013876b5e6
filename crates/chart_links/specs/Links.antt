-- The chain rule of document 01 ("Chart buffers") taken apart: an item, an entry and the next, the last entry.
-- Assumes nothing.
use Rattle.std.specs.Prelude.{Bool, ◌&&◌, ◌||◌, List, ℕ, ◌%◌, ltb, eqb, get_or}
use Rattle.theory_orthtree.specs.Entries.{Entry, empty_mark, span, range_end, follows, entry}
use Rattle.spec_squares.specs.Square.{arity, depth}

-- the entry at place i of three lists
unfoldable pub entry_at : List ℕ → List ℕ → List ℕ → ℕ → Entry
entry_at keys levels items i = entry (get_or keys i 0) (get_or levels i 0) (get_or items i 0)

-- "triangle numbers below the count, or 65,535"
unfoldable pub item_fits : ℕ → ℕ → Bool
item_fits count i = ltb i count || eqb i empty_mark

-- "keys multiples of 4^(16 − level)"
unfoldable pub aligned : Entry → Bool
aligned e = eqb (e.key % span arity depth e.level) 0

-- e is aligned, and f may come next
unfoldable pub linked : Entry → Entry → Bool
linked e f = aligned e && follows arity depth e f

-- the entry at place i of three lists is linked to that of three others
abbrev pub linked_at : List ℕ → List ℕ → List ℕ → List ℕ → List ℕ → List ℕ → ℕ → Bool
linked_at keys levels items next_keys next_levels next_items i =
    linked (entry_at keys levels items i) (entry_at next_keys next_levels next_items i)

-- e is aligned, and "the last ends at 2^32"
unfoldable pub ends_tree : Entry → Bool
ends_tree e = aligned e && eqb (range_end arity depth e) (span arity depth 0)
