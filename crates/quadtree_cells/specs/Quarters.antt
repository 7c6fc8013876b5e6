-- The square of a cell as code has it: with its key, and as a frame.
-- Assumes nothing.
use Rattle.std.specs.Prelude.{◌≡◌, ℕ, ◌<◌}
use Rattle.spec_plane.specs.Box.{Framed}
use Rattle.spec_squares.specs.declared.Square.{Square}
use Rattle.spec_squares.specs.Square.{arity, depth, square_key, square_box, Aligned}
use Rattle.quadtree_shapes.specs.declared.shapes.Frame.{Frame}
use Rattle.quadtree_shapes.specs.Shape.{frame_box}
use Rattle.quadtree_cells.specs.declared.quarters.KeyedSquare.{KeyedSquare}

-- a square of the tree with its key
pub record Keyed (s : KeyedSquare) : Type 0 where
  pub aligned : Aligned s.square
  pub key : s.key ≡ square_key s.square

-- a square of the tree has a quarter k
pub record HasQuarter (s : Square) (k : ℕ) : Type 0 where
  pub aligned : Aligned s
  pub level : s.level < depth
  pub number : k < arity

-- the frame is the square with its whole border
pub record FrameOf (s : Square) (f : Frame) : Type 0 where
  pub box : frame_box f ≡ square_box s
  pub framed : Framed (frame_box f)
