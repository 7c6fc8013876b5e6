-- Marks of the items that are listed in cells which a window touches.
-- Assumes nothing.
use Rattle.std.specs.Prelude.{◌≡◌, Bool, false, ◌&&◌, List, ℕ, ◌+◌, ◌%◌, ◌≤◌, ◌<◌, eqb, length, get_or, take}
use Rattle.theory_lists.specs.Lists.{any}
use Rattle.theory_orthtree.specs.Entries.{Entry, span}
use Rattle.spec_plane.specs.Box.{Box}
use Rattle.spec_squares.specs.Square.{arity, depth}
use Rattle.spec_charts.specs.Table.{max_triangles}
use Rattle.spec_calls.specs.Buffers.{Roomy, zip_entries}
use Rattle.spec_window.specs.Window.{cell_touches}
use Rattle.overlay_marks.specs.PairMarks.{place_of}

-- how many entries are tested at a time
abbrev pub lanes : ℕ
lanes = 16

-- a mark for each triangle, and one for the mark of empty cells
abbrev pub marks_length : ℕ
marks_length = max_triangles + 1

-- three lists have n entries, and those are of squares of the tree: what the chain rule gives
pub record Markable (keys levels items : List ℕ) (n : ℕ) : Type 0 where
  pub room : Roomy n keys levels items
  pub small : (k : ℕ) → k < n → get_or keys k 0 < span arity depth 0
  pub deep : (k : ℕ) → k < n → get_or levels k 0 ≤ depth
  pub aligned : (k : ℕ) → k < n → get_or keys k 0 % span arity depth (get_or levels k 0) ≡ 0

-- an entry whose item has this place is of a cell that the window touches
abbrev pub place_near : Box → List Entry → ℕ → Bool
place_near w es p = any (λ e. eqb (place_of e.item) p && cell_touches w e) es

-- the marks say it of each place, by the first n entries of three lists
pub record Marked (w : Box) (keys levels items : List ℕ) (n : ℕ) (near : List Bool) : Type 0 where
  pub length : length near ≡ marks_length
  pub marks : (p : ℕ) → p < marks_length → get_or near p false ≡ place_near w (take n (zip_entries keys levels items)) p
