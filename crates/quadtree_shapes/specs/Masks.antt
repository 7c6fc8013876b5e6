-- The sides of a triangle as masks of three bits, and points packed into numbers.
-- Assumes nothing.
use Rattle.std.specs.Prelude.{Bool, cond, List, [], ◌∷◌, ℕ, ◌+◌, ◌*◌, ◌/◌, ◌%◌, ◌^◌, eqb, get_or}
use Rattle.spec_plane.specs.declared.Point.{Point}
use Rattle.spec_plane.specs.Triangle.{Triangle}
use Rattle.spec_plane.specs.Box.{Box}
use Rattle.quadtree_shapes.specs.Shape.{triangle_sides, shape_numbers, second_side, third_side, side_meets_at}

-- how many masks of a triangle's sides there are
abbrev pub side_masks : ℕ
side_masks = 2 ^ triangle_sides

-- the point that a number stands for, y above the 16 bits of x
unfoldable pub unpacked : ℕ → Point
unpacked p = record { x = p % 65536; y = p / 65536 }

-- the triangle of three such points
unfoldable pub unpacked_triangle : ℕ → ℕ → ℕ → Triangle
unpacked_triangle a b c = record { a = unpacked a; b = unpacked b; c = unpacked c }

-- the corner where the first of the sides ab, bc, ca that the mask has starts
abbrev pub start_of : ℕ → ℕ → ℕ → ℕ → ℕ
start_of m a b c = cond (eqb (m % 2) 1) a (cond (eqb (m / 2 % 2) 1) b c)

-- which of the sides of triangle i meet the box, where the triangle does
unfoldable pub sides_met : List ℕ → List ℕ → Box → ℕ → List Bool
sides_met s o b i =
    side_meets_at s (shape_numbers * i) (get_or o (triangle_sides * i) 0) b
    ∷ side_meets_at s (shape_numbers * i + second_side) (get_or o (triangle_sides * i + 1) 0) b
    ∷ side_meets_at s (shape_numbers * i + third_side) (get_or o (triangle_sides * i + 2) 0) b
    ∷ []
