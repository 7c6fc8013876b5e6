-- The marked places of a row whose boxes overlap.
-- Assumes nothing.
use Rattle.std.specs.Prelude.{◌≡◌, Bool, ◌&&◌, List, ℕ, ◌+◌, ◌*◌, ◌≤◌, ltb, length}
use Rattle.theory_lists.specs.Lists.{Compacted}
use Rattle.spec_plane.specs.Box.{Box}
use Rattle.spec_charts.specs.Table.{max_triangles}
use Rattle.base_boxes.specs.Boxes.{boxes_overlap}
use Rattle.overlay_marks.specs.Bits.{has_bit}
use Rattle.overlay_marks.specs.PairMarks.{rows_length}

-- triangles i and j are marked
abbrev pub marked_at : List ℕ → ℕ → ℕ → Bool
marked_at rows i j = has_bit rows (max_triangles * i + j)

-- triangle j may have a common interior point with triangle i, whose box is b: it is marked, its box overlaps b, and it is one of m
abbrev pub is_near : Box → (ℕ → Box) → List ℕ → ℕ → ℕ → ℕ → Bool
is_near b box rows m i j = marked_at rows i j && boxes_overlap b box j && ltb j m

-- the first c numbers of a list are those below j, of row i
abbrev pub NearInRow : Box → (ℕ → Box) → List ℕ → ℕ → ℕ → List ℕ → ℕ → ℕ → Type 0
NearInRow b box rows m i near j c = Compacted (λ k. is_near b box rows m i k) near j c

-- where candidates are found and listed: rows of marks and a list, with places for all triangles
pub record RowPlaces (rows near : List ℕ) : Type 0 where
  pub marks : rows_length ≤ length rows
  pub room : max_triangles ≤ length near

-- the first c numbers of a list that is as long as it was are the candidates below j, of row i
pub record Collected (b : Box) (box : ℕ → Box) (rows : List ℕ) (m i : ℕ) (before after : List ℕ) (j c : ℕ) : Type 0 where
  pub near : NearInRow b box rows m i after j c
  pub kept : length after ≡ length before
