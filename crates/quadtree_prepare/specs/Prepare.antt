-- What working out the numbers of a table's triangles asks, and what it leaves.
-- Assumes nothing.
use Rattle.std.specs.Prelude.{◌≡◌, ℕ, ◌*◌, ◌≤◌, length}
use mathlib.Core.List.{List, flat_map}
use Rattle.std.proofs.lemmas.List.Edits.{sets}
use Rattle.spec_plane.specs.Triangle.{Triangle}
use Rattle.spec_charts.specs.Table.{Table, numbers_per_triangle}
use Rattle.quadtree_shapes.specs.Shape.{triangle_sides, triangle_corners, shape_numbers, shape_of, offsets_of, corners_of}

-- three lists have room for the numbers of n triangles
pub record ShapeRoom (n : ℕ) (shape offsets corners : List ℕ) : Type 0 where
  pub shapes : shape_numbers * n ≤ length shape
  pub offs : triangle_sides * n ≤ length offsets
  pub points : triangle_corners * n ≤ length corners

-- n triangles are there, and there is room for their numbers
pub record Preparable (n : ℕ) (table shape offsets corners : List ℕ) : Type 0 where
  pub rows : numbers_per_triangle * n ≤ length table
  pub room : ShapeRoom n shape offsets corners

-- three lists, and then the same with the numbers of a triangle at the places of triangle i
pub record StoredShape (t : Triangle) (i : ℕ) (shape offsets corners shape' offsets' corners' : List ℕ) : Type 0 where
  pub shapes : shape' ≡ sets shape (shape_numbers * i) (shape_of t)
  pub offs : offsets' ≡ sets offsets (triangle_sides * i) (offsets_of t)
  pub points : corners' ≡ sets corners (triangle_corners * i) (corners_of t)

-- and with the numbers of a table's triangles from the start on
pub record StoredShapes (table : Table) (shape offsets corners shape' offsets' corners' : List ℕ) : Type 0 where
  pub shapes : shape' ≡ sets shape 0 (flat_map (λ t. shape_of t) table)
  pub offs : offsets' ≡ sets offsets 0 (flat_map (λ t. offsets_of t) table)
  pub points : corners' ≡ sets corners 0 (flat_map (λ t. corners_of t) table)
