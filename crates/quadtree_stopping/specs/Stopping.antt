-- The stopping test in code: the sides of candidates, the states of its loops, and what its functions ask.
-- Assumes nothing.
use Rattle.std.specs.Prelude.{◌≡◌, Bool, ◌&&◌, ◌||◌, ℕ, ◌/◌, ◌<◌, eqb, length, get_or, take}
use mathlib.Core.List.{List, [], flat_map}
use Rattle.theory_lists.specs.Lists.{all}
use Rattle.theory_lists.specs.Masks.{mask_of, masked}
use Rattle.spec_plane.specs.declared.Point.{Point}
use Rattle.spec_plane.specs.Triangle.{Side, sides}
use Rattle.spec_plane.specs.Box.{Box, Framed}
use Rattle.spec_squares.specs.declared.Square.{Square}
use Rattle.spec_squares.specs.Square.{Aligned}
use Rattle.spec_charts.specs.Table.{Table, triangle_at, table_of}
use Rattle.spec_charts.specs.Cells.{is_end, triangles_meeting}
use Rattle.quadtree_shapes.specs.declared.shapes.Frame.{Frame}
use Rattle.quadtree_shapes.specs.Shape.{triangle_corners, coordinates}
use Rattle.quadtree_shapes.specs.Masks.{side_masks, sides_met}
use Rattle.quadtree_cells.specs.Stack.{Rows, Fits, Ready, Prepared}
use Rattle.quadtree_cells.specs.Quarters.{FrameOf}
use Rattle.quadtree_stopping.specs.declared.Shapes.{Shapes}

-- how many triangles have their corners in a list
abbrev pub triangle_total : List ℕ → ℕ
triangle_total corners = length corners / triangle_corners

-- the table of these triangles
abbrev pub corner_table : List ℕ → Table
corner_table corners = table_of (coordinates corners) (triangle_total corners)

-- the sides of triangle i that meet the box, where the triangle does
unfoldable pub sides_at : List ℕ → List ℕ → List ℕ → Box → ℕ → List Side
sides_at table s o b i = masked (mask_of (sides_met s o b i)) (sides (triangle_at table i))

-- such sides of the candidates
abbrev pub sides_of : Shapes → Box → List ℕ → List Side
sides_of v b candidates = flat_map (λ i. sides_at (coordinates v.corners.now) v.shape.now v.offsets.now b i) candidates

-- p is an end of every side and x is 0, or q is an end of every side and y is 0
unfoldable pub either_end : Point → Point → ℕ → ℕ → List Side → Bool
either_end p q x y ds = (eqb x 0 && all (λ d. is_end p d) ds) || (eqb y 0 && all (λ d. is_end q d) ds)

-- the first k candidates are tested against p and q, from x and y on: a number is 0 if the one before was and the point is an end of
-- every side of theirs
pub record Tested (S : ℕ → List Side) (candidates : List ℕ) (p q : Point) (x y k x' y' : ℕ) : Type 0 where
  pub first : eqb x' 0 ≡ (eqb x 0 && all (is_end p) (flat_map S (take k candidates)))
  pub second : eqb y' 0 ≡ (eqb y 0 && all (is_end q) (flat_map S (take k candidates)))

-- ---- what the functions ask and leave

-- the candidates have their numbers in the two lists, and the box is one of the grid
pub record Scannable (v : Shapes) (candidates : List ℕ) (b : Box) : Type 0 where
  pub fits : Fits 0 (length candidates) v.shape.now v.offsets.now candidates
  pub framed : Framed b

-- and their corners in a third
pub record Readable (v : Shapes) (candidates : List ℕ) (b : Box) : Type 0 where
  pub scannable : Scannable v candidates b
  pub points : Rows triangle_corners 0 (length candidates) v.corners.now candidates

-- no candidate has a side that meets the box
abbrev pub NoneMet : Shapes → List ℕ → Box → Type 0
NoneMet v candidates b = sides_of v b candidates ≡ []

-- candidate k is the first of which some side meets the box, and m is the mask of its sides that do
pub record FirstMet (v : Shapes) (candidates : List ℕ) (b : Box) (k m : ℕ) : Type 0 where
  pub place : k < length candidates
  pub none : sides_of v b (take k candidates) ≡ []
  pub mask : m ≡ mask_of (sides_met v.shape.now v.offsets.now b (get_or candidates k 0))
  pub some : 0 < m
  pub below : m < side_masks

-- what the stopping test asks: the candidates are the triangles of the table that meet the square, whose frame is given
pub record Stoppable (v : Shapes) (candidates : List ℕ) (s : Square) (frame : Frame) : Type 0 where
  pub ready : Ready (triangle_total v.corners.now) 0 (length candidates) (coordinates v.corners.now) v.shape.now v.offsets.now candidates
  pub prepared : Prepared (triangle_total v.corners.now) (coordinates v.corners.now) v.shape.now v.offsets.now
  pub aligned : Aligned s
  pub border : FrameOf s frame
  pub triangles : candidates ≡ triangles_meeting (corner_table v.corners.now) s
