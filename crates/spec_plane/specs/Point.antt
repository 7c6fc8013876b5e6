-- Document 01, "Grid, points, triangles": points and D.
-- A grid point is the record `Point` of src/lib.rt, x to the right and y downward. Here its coordinates are any naturals,
-- since the corners of squares reach 65,536.
-- Assumes nothing.
use Rattle.std.specs.Prelude.{Bool, ◌&&◌, ℕ, ◌+◌, ◌*◌, ◌-◌, eqb, ℤ, pos, ◌-ℤ◌, ◌*ℤ◌}
use Rattle.spec_plane.specs.declared.Point.{Point}

-- "D(p,q,r) = (qx − px) × (ry − py) − (qy − py) × (rx − px)": D, the orientation determinant, twice the signed area
unfoldable pub orient : Point → Point → Point → ℤ
orient p q r =
    (pos q.x -ℤ pos p.x) *ℤ (pos r.y -ℤ pos p.y)
    -ℤ (pos q.y -ℤ pos p.y) *ℤ (pos r.x -ℤ pos p.x)

-- the same point: equal x and equal y
unfoldable pub same_point : Point → Point → Bool
same_point p q = eqb p.x q.x && eqb p.y q.y

-- |m − n|, how far apart two coordinates are
abbrev pub distance : ℕ → ℕ → ℕ
distance m n = (m - n) + (n - m)

-- "A point in a statement may be fractional: whole X, Y, W with W > 0, meaning X/W, Y/W"; statements add W > 0
pub record FracPoint : Type 0 where
  pub X : ℤ
  pub Y : ℤ
  pub W : ℕ

-- W × D(p,q,r) at the fractional point r = (X/W, Y/W); as W > 0, its sign is that of D(p,q,r)
unfoldable pub orient_at : Point → Point → FracPoint → ℤ
orient_at p q r =
    (pos q.x -ℤ pos p.x) *ℤ (r.Y -ℤ pos (r.W * p.y))
    -ℤ (pos q.y -ℤ pos p.y) *ℤ (r.X -ℤ pos (r.W * p.x))

-- a grid point as a fractional one
unfoldable pub whole : Point → FracPoint
whole p = record { X = pos p.x; Y = pos p.y; W = 1 }
