-- Document 01, "Squares and Z-order": squares, quarters, Z and keys, and the square of a key. When a side or a triangle meets a square is in the
-- crate spec_plane, Box.
-- Assumes nothing.
use Rattle.std.specs.Prelude.{◌≡◌, List, [], ◌∷◌, ℕ, suc, ◌+◌, ◌-◌, ◌%◌, ◌^◌, ◌≤◌}
use Rattle.theory_orthtree.specs.Morton.{morton_key, key_coordinate}
use Rattle.spec_plane.specs.declared.Point.{Point}
use Rattle.spec_plane.specs.Box.{Box}
use Rattle.spec_squares.specs.declared.Square.{Square}

-- "a level 0 to 16": the deepest level, which is also the number of bits of a coordinate
abbrev pub depth : ℕ
depth = 16

-- the number of quarters of a square
abbrev pub arity : ℕ
arity = 4

-- the side of a square of this level: "side 2^(16 − level)"
unfoldable pub side_at : ℕ → ℕ
side_at level = 2 ^ (depth - level)

-- "The whole square is level 0, corner (0, 0)"
unfoldable pub whole_square : Square
whole_square = record { x = 0; y = 0; level = 0 }

unfoldable pub top_left : Square → Square
top_left s = record { x = s.x; y = s.y; level = suc s.level }

unfoldable pub top_right : Square → Square
top_right s = record { x = s.x + side_at (suc s.level); y = s.y; level = suc s.level }

unfoldable pub bottom_left : Square → Square
bottom_left s = record { x = s.x; y = s.y + side_at (suc s.level); level = suc s.level }

unfoldable pub bottom_right : Square → Square
bottom_right s = record {
  x = s.x + side_at (suc s.level);
  y = s.y + side_at (suc s.level);
  level = suc s.level;
}

-- "Its quarters come top left, top right, bottom left, bottom right"
unfoldable pub quarters : Square → List Square
quarters s = top_left s ∷ top_right s ∷ bottom_left s ∷ bottom_right s ∷ []

-- "Z(x,y) has bit k of x at place 2k and bit k of y at place 2k + 1"
unfoldable pub z_order : Point → ℕ
z_order p = morton_key depth (p.x ∷ p.y ∷ [])

-- "A square's key is Z of its top left corner"
unfoldable pub square_key : Square → ℕ
square_key s = z_order (record { x = s.x; y = s.y })

-- the square of this level whose key is the given one: its corner is the inverse of Z
unfoldable pub square_of_key : ℕ → ℕ → Square
square_of_key key level = record { x = key_coordinate 2 0 depth key; y = key_coordinate 2 1 depth key; level = level }

-- "For meeting, a square counts with its whole border"
unfoldable pub square_box : Square → Box
square_box s = record {
  left = s.x;
  top = s.y;
  right = s.x + side_at s.level;
  bottom = s.y + side_at s.level;
}

-- a square of the tree: its corner is a multiple of its side, and it lies in the grid
pub record Aligned (s : Square) : Type 0 where
  pub deep : s.level ≤ depth
  pub across : s.x % side_at s.level ≡ 0
  pub down : s.y % side_at s.level ≡ 0
  pub right : s.x + side_at s.level ≤ 65536
  pub bottom : s.y + side_at s.level ≤ 65536
