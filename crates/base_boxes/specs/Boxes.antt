-- Bounding boxes, one place for each triangle of a table, and when two boxes are separate.
-- Assumes nothing.
use Rattle.std.specs.Prelude.{◌≡◌, Bool, true, not, ◌||◌, List, ℕ, ◌*◌, ◌≤◌, ◌<◌, leb, length, get_or}
use Rattle.std.specs.Borrow.{Bor}
use denote.Triple.Both.{Both}
use Rattle.theory_lists.specs.Lists.{all}
use Rattle.spec_plane.specs.Triangle.{proper}
use Rattle.spec_plane.specs.Box.{Box, triangle_box}
use Rattle.spec_charts.specs.Table.{max_triangles, numbers_per_triangle, triangle_at, table_of}
use Rattle.base_boxes.specs.declared.boxes.BoxTable.{BoxTable}

-- two boxes have no more than a border in common
abbrev pub separate : Box → Box → Bool
separate b d =
    leb b.right d.left || leb d.right b.left || leb b.bottom d.top || leb d.bottom b.top

-- the box at place i of four lists
abbrev pub box_of : List ℕ → List ℕ → List ℕ → List ℕ → ℕ → Box
box_of lefts tops rights bottoms i =
    record { left = get_or lefts i 0; top = get_or tops i 0; right = get_or rights i 0; bottom = get_or bottoms i 0 }

-- the boxes of four lists that a caller lends, at one moment
abbrev pub boxes_held : Bor (List ℕ) → Bor (List ℕ) → Bor (List ℕ) → Bor (List ℕ) → ℕ → Box
boxes_held lefts tops rights bottoms = box_of lefts.now tops.now rights.now bottoms.now

-- and at entry
abbrev pub boxes_given : Both (Bor (List ℕ)) (Bor (List ℕ)) → Both (Bor (List ℕ)) (Bor (List ℕ)) → Both (Bor (List ℕ)) (Bor (List ℕ)) → Both (Bor (List ℕ)) (Bor (List ℕ)) → ℕ → Box
boxes_given lefts tops rights bottoms = boxes_held lefts.entry tops.entry rights.entry bottoms.entry

-- four lists have at least n places
pub record Places (lefts tops rights bottoms : List ℕ) (n : ℕ) : Type 0 where
  pub left : n ≤ length lefts
  pub top : n ≤ length tops
  pub right : n ≤ length rights
  pub bottom : n ≤ length bottoms

-- the box at place i
abbrev pub box_at : BoxTable → ℕ → Box
box_at boxes i =
    record { left = get_or boxes.lefts i 0; top = get_or boxes.tops i 0; right = get_or boxes.rights i 0; bottom = get_or boxes.bottoms i 0 }

-- a box and the one at place j overlap
abbrev pub boxes_overlap : Box → (ℕ → Box) → ℕ → Bool
boxes_overlap b box j = not (separate b (box j))

-- the first n triangles of a table are there, and there are places for their boxes
pub record Boxable (table : List ℕ) (n : ℕ) : Type 0 where
  pub rows : numbers_per_triangle * n ≤ length table
  pub places : n ≤ max_triangles

-- boxes, and then the same with the box d at place i
pub record Stored (d : Box) (i : ℕ) (before after : BoxTable) : Type 0 where
  pub here : box_at after i ≡ d
  pub others : (k : ℕ) → (k ≡ i → ⊥) → box_at after k ≡ box_at before k

-- the first n boxes are those of a table's triangles
abbrev pub Boxes : List ℕ → BoxTable → ℕ → Type 0
Boxes table boxes n = (i : ℕ) → i < n → box_at boxes i ≡ triangle_box (triangle_at table i)

-- the first n triangles of a table have D > 0, and their boxes are there
pub record BoxedTable (table : List ℕ) (held : BoxTable) (n : ℕ) : Type 0 where
  pub rows : numbers_per_triangle * n ≤ length table
  pub places : n ≤ max_triangles
  pub oriented : all (λ t. proper t) (table_of table n) ≡ true
  pub boxes : Boxes table held n
