-- What depends on a triangle alone, as the numbers that code keeps of it, and the tests of a box by these numbers.
-- Assumes nothing.
use Rattle.std.specs.Prelude.{◌≡◌, Bool, cond, ◌&&◌, ℕ, ◌+◌, ◌*◌, ◌-◌, ◌/◌, ◌%◌, ◌≤◌, leb, eqb, length, get_or, take}
use mathlib.Core.List.{List, [], ◌∷◌, ◌++◌, flat_map}
use Rattle.spec_plane.specs.declared.Point.{Point}
use Rattle.spec_plane.specs.Point.{distance}
use Rattle.spec_plane.specs.Triangle.{Triangle}
use Rattle.spec_plane.specs.Box.{Box, Framed, side_box, triangle_box}
use Rattle.spec_charts.specs.Table.{Table}
use Rattle.quadtree_shapes.specs.declared.shapes.Frame.{Frame}

-- ---- how many numbers there are of what, and where they start

-- a triangle has so many sides, and an offset for each of them
abbrev pub triangle_sides : ℕ
triangle_sides = 3

-- and so many corners
abbrev pub triangle_corners : ℕ
triangle_corners = 3

-- the line of a side: two sizes and two flags
abbrev pub line_numbers : ℕ
line_numbers = 4

-- a bounding box: left, top, right and bottom
abbrev pub box_numbers : ℕ
box_numbers = 4

-- a side: its line, then its box
abbrev pub side_numbers : ℕ
side_numbers = line_numbers + box_numbers

-- a triangle: its sides, then its box
abbrev pub shape_numbers : ℕ
shape_numbers = triangle_sides * side_numbers + box_numbers

-- where the second side of a triangle starts among its numbers
abbrev pub second_side : ℕ
second_side = side_numbers

-- where its third side starts
abbrev pub third_side : ℕ
third_side = 2 * side_numbers

-- where its box starts
abbrev pub whole_box : ℕ
whole_box = triangle_sides * side_numbers

-- ---- the numbers

-- 1 where m ≤ n, otherwise 0
abbrev pub at_most : ℕ → ℕ → ℕ
at_most m n = cond (leb m n) 1 0

-- one of two numbers, by a flag
abbrev pub chosen : ℕ → ℕ → ℕ → ℕ
chosen f low high = cond (eqb f 0) low high

-- a box: left, top, right, bottom
abbrev pub box_shape : Box → List ℕ
box_shape b = b.left ∷ b.top ∷ b.right ∷ b.bottom ∷ []

-- the line of the side from p to q: |py − qy| and |qx − px|, then flags that D never falls with x and with y
unfoldable pub line_shape : Point → Point → List ℕ
line_shape p q =
    distance p.y q.y ∷ distance q.x p.x ∷ at_most q.y p.y ∷ at_most p.x q.x ∷ []

-- the side from p to q: its line, then its bounding box
unfoldable pub side_shape : Point → Point → List ℕ
side_shape p q = line_shape p q ++ box_shape (side_box (record { start = p; end = q }))

-- the numbers of a triangle: its three sides, then its box
unfoldable pub shape_of : Triangle → List ℕ
shape_of t = side_shape t.a t.b ++ (side_shape t.b t.c ++ (side_shape t.c t.a ++ box_shape (triangle_box t)))

-- V of a point (x, y) from the numbers of a line, with mx and my for 65,536 less x and y
abbrev pub value_of : ℕ → ℕ → ℕ → ℕ → ℕ → ℕ → ℕ → ℕ → ℕ
value_of dy dx fx fy mx x my y = dy * chosen fx mx x + dx * chosen fy my y

-- V(p) of the side from p to q
unfoldable pub side_offset : Point → Point → ℕ
side_offset p q =
    value_of (distance p.y q.y) (distance q.x p.x) (at_most q.y p.y) (at_most p.x q.x)
    (65536 - p.x) p.x (65536 - p.y) p.y

-- the offsets of a triangle's sides
unfoldable pub offsets_of : Triangle → List ℕ
offsets_of t = side_offset t.a t.b ∷ side_offset t.b t.c ∷ side_offset t.c t.a ∷ []

-- a point as one number, y above the 16 bits of x
abbrev pub packed_point : Point → ℕ
packed_point p = p.x + 65536 * p.y

-- the corners of a triangle as such numbers
unfoldable pub corners_of : Triangle → List ℕ
corners_of t = packed_point t.a ∷ packed_point t.b ∷ packed_point t.c ∷ []

-- the coordinates of points that are given as such numbers, two for each
unfoldable pub coordinates : List ℕ → List ℕ
coordinates [] = []
coordinates (p ∷ ps) = p % 65536 ∷ p / 65536 ∷ coordinates ps

-- ---- the tests

-- the two lists begin with the numbers of the table's triangles
pub record Shaped (table : Table) (shape offsets : List ℕ) : Type 0 where
  pub shapes : take (shape_numbers * length table) shape ≡ flat_map (λ t. shape_of t) table
  pub offs : take (triangle_sides * length table) offsets ≡ flat_map (λ t. offsets_of t) table

-- the box that a frame is
abbrev pub frame_box : Frame → Box
frame_box f = record { left = f.left; top = f.top; right = f.right; bottom = f.bottom }

-- the numbers of triangle i are in the two lists, and the box is one of the grid: what a test of the two asks
pub record Testable (i : ℕ) (shape offsets : List ℕ) (b : Box) : Type 0 where
  pub numbers : shape_numbers * i + shape_numbers ≤ length shape
  pub offs : triangle_sides * i + triangle_sides ≤ length offsets
  pub framed : Framed b

-- V at the corner of the box where it is largest, for the side whose numbers start at k
unfoldable pub largest_at : List ℕ → ℕ → Box → ℕ
largest_at s k b =
    value_of (get_or s k 0) (get_or s (k + 1) 0) (get_or s (k + 2) 0) (get_or s (k + 3) 0) (65536 - b.left) b.right (65536 - b.top) b.bottom

-- V at the corner where it is smallest
unfoldable pub smallest_at : List ℕ → ℕ → Box → ℕ
smallest_at s k b =
    value_of (get_or s k 0) (get_or s (k + 1) 0) (get_or s (k + 2) 0) (get_or s (k + 3) 0) (65536 - b.right) b.left (65536 - b.bottom) b.top

-- the box whose left, top, right and bottom start at k is not strictly apart from the given one
unfoldable pub touches_at : List ℕ → ℕ → Box → Bool
touches_at s k b =
    leb b.left (get_or s (k + 2) 0) && leb (get_or s k 0) b.right && leb b.top (get_or s (k + 3) 0) && leb (get_or s (k + 1) 0) b.bottom

-- triangle i meets the box
unfoldable pub triangle_meets_at : List ℕ → List ℕ → ℕ → Box → Bool
triangle_meets_at s o i b =
    touches_at s (shape_numbers * i + whole_box) b
    && leb (get_or o (triangle_sides * i) 0) (largest_at s (shape_numbers * i) b)
    && leb (get_or o (triangle_sides * i + 1) 0) (largest_at s (shape_numbers * i + second_side) b)
    && leb (get_or o (triangle_sides * i + 2) 0) (largest_at s (shape_numbers * i + third_side) b)

-- the side whose numbers start at k, with the offset v, meets the box, where its triangle does: the largest V is at least v then
unfoldable pub side_meets_at : List ℕ → ℕ → ℕ → Box → Bool
side_meets_at s k v b = touches_at s (k + line_numbers) b && leb (smallest_at s k b) v
