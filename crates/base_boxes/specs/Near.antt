-- Boxes that overlap a box, and their places on a list.
-- Assumes nothing.
use Rattle.std.specs.Prelude.{◌≡◌, List, ℕ, ◌+◌, ◌*◌, ◌≤◌, ◌<◌, length, get_or}
use Rattle.theory_lists.specs.Lists.{Compacted}
use Rattle.spec_plane.specs.Box.{Box}
use Rattle.spec_charts.specs.Table.{max_triangles, numbers_per_triangle}
use Rattle.base_boxes.specs.Boxes.{boxes_overlap}

-- how many boxes are tested at a time
abbrev pub lanes : ℕ
lanes = 16

-- the first c numbers of a list are the places below j whose boxes overlap b
abbrev pub Near : Box → (ℕ → Box) → List ℕ → ℕ → ℕ → Type 0
Near b box near j c = Compacted (λ k. boxes_overlap b box k) near j c

-- there are boxes at the places below j, and a list has room for so many places
pub record Collectable (near : List ℕ) (j : ℕ) : Type 0 where
  pub places : j ≤ max_triangles
  pub room : j ≤ length near

-- a list whose first c numbers are now the places below j whose boxes overlap b, and which is as long as before
pub record Collected (b : Box) (box : ℕ → Box) (list₀ list : List ℕ) (j c : ℕ) : Type 0 where
  pub near : Near b box list j c
  pub same : length list ≡ length list₀

-- the numbers of a list are below i
abbrev pub EachBelow : List ℕ → ℕ → Type 0
EachBelow near i = (k : ℕ) → k < length near → get_or near k 0 < i

-- row i of a table is there, and so is each that the numbers of a list say, which come before it
pub record ListedRows (table near : List ℕ) (i : ℕ) : Type 0 where
  pub row : numbers_per_triangle * (i + 1) ≤ length table
  pub below : EachBelow near i
