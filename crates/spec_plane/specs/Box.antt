-- Document 01, "Squares and Z-order": bounding boxes, and when a side or a triangle meets a square. Stated for any
-- rectangle with upright sides, of which a square with its whole border is one.
-- Assumes nothing.
use Rattle.std.specs.Prelude.{Bool, not, ◌&&◌, ◌||◌, ℕ, ◌≤◌, min, max, ltb, pos}
use Rattle.std.specs.Int.Signed.{lt_z}
use Rattle.spec_plane.specs.declared.Point.{Point}
use Rattle.spec_plane.specs.Point.{orient}
use Rattle.spec_plane.specs.Triangle.{Triangle, Side}

-- a closed rectangle with upright sides
pub record Box : Type 0 where
  pub left : ℕ
  pub top : ℕ
  pub right : ℕ
  pub bottom : ℕ

-- a box of the grid that has points
pub record Framed (b : Box) : Type 0 where
  pub wide : b.left ≤ b.right
  pub tall : b.top ≤ b.bottom
  pub right : b.right ≤ 65536
  pub bottom : b.bottom ≤ 65536

-- "bounding boxes are strictly apart": even their borders have no point in common
unfoldable pub apart : Box → Box → Bool
apart b d =
    ltb b.right d.left
    || ltb d.right b.left
    || ltb b.bottom d.top
    || ltb d.bottom b.top

-- the bounding box of a side
unfoldable pub side_box : Side → Box
side_box s = record {
  left = min s.start.x s.end.x;
  top = min s.start.y s.end.y;
  right = max s.start.x s.end.x;
  bottom = max s.start.y s.end.y;
}

-- the bounding box of a triangle
unfoldable pub triangle_box : Triangle → Box
triangle_box t = record {
  left = min t.a.x (min t.b.x t.c.x);
  top = min t.a.y (min t.b.y t.c.y);
  right = max t.a.x (max t.b.x t.c.x);
  bottom = max t.a.y (max t.b.y t.c.y);
}

-- a test passes at all four corners of a box
unfoldable pub all_corners : (Point → Bool) → Box → Bool
all_corners f b =
    f (record { x = b.left; y = b.top })
    && f (record { x = b.right; y = b.top })
    && f (record { x = b.left; y = b.bottom })
    && f (record { x = b.right; y = b.bottom })

-- all four corners lie on the inner side of p to q, where D > 0
unfoldable pub all_inner : Point → Point → Box → Bool
all_inner p q = all_corners (λ c. lt_z (pos 0) (orient p q c))

-- all four corners lie on the outer side of p to q, where D < 0
unfoldable pub all_outer : Point → Point → Box → Bool
all_outer p q = all_corners (λ c. lt_z (orient p q c) (pos 0))

-- "A side meets a square unless their bounding boxes are strictly apart, or all four corners of the square lie strictly on
-- the same side of its line"
unfoldable pub side_meets : Side → Box → Bool
side_meets s b = not (apart (side_box s) b || all_inner s.start s.end b || all_outer s.start s.end b)

-- "A triangle meets a square unless the bounding boxes are strictly apart, or for one of its sides p to q all four corners
-- have D < 0"
unfoldable pub triangle_meets : Triangle → Box → Bool
triangle_meets t b =
    not (apart (triangle_box t) b || all_outer t.a t.b b || all_outer t.b t.c b || all_outer t.c t.a b)
