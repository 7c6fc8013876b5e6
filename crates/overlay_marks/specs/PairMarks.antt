-- Pairs of items in rows of bits.
-- Assumes nothing.
use Rattle.std.specs.Prelude.{◌≡◌, Bool, ◌&&◌, ◌||◌, List, ℕ, ◌+◌, ◌*◌, ◌<◌, min, eqb, length}
use Rattle.theory_lists.specs.Lists.{any}
use Rattle.spec_charts.specs.Table.{max_triangles}
use Rattle.overlay_marks.specs.Bits.{has_bit}

-- the words of a row, which has a bit for each triangle
abbrev pub row_words : ℕ
row_words = 8

-- the words of the rows: one row for each triangle, and one for the mark
abbrev pub rows_length : ℕ
rows_length = row_words * (max_triangles + 1)

-- an item's row, and its bit in a row: its own number, or for the mark the one after all triangles
abbrev pub place_of : ℕ → ℕ
place_of t = min t max_triangles

-- some item has this row, or bit
unfoldable pub some_at : List ℕ → ℕ → Bool
some_at is i = any (λ t. eqb (place_of t) i) is

-- the set with the items
pub record ItemsInserted (before is after : List ℕ) : Type 0 where
  pub bits : (j : ℕ) → has_bit after j ≡ has_bit before j || some_at is j
  pub kept : length after ≡ length before

-- the rows with the set's bits in those of the items
pub record SetJoined (before is set after : List ℕ) : Type 0 where
  pub bits : (i j : ℕ) → j < max_triangles → has_bit after (max_triangles * i + j) ≡ has_bit before (max_triangles * i + j) || some_at is i && has_bit set j
  pub kept : length after ≡ length before

-- the rows with each item of the one list marked with each item of the other
pub record PartsMarked (before is js after : List ℕ) : Type 0 where
  pub bits : (i j : ℕ) → j < max_triangles → has_bit after (max_triangles * i + j) ≡ has_bit before (max_triangles * i + j) || some_at is i && some_at js j
  pub kept : length after ≡ length before
