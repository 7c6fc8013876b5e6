-- Document 01, "Grid, points, triangles": triangles, their sides and areas, and the points that they hold.
-- Assumes nothing.
use Rattle.std.specs.Prelude.{Bool, ◌&&◌, List, [], ◌∷◌, ℕ, ◌+◌, ◌%◌, pos, nat_abs, get_or}
use Rattle.std.specs.Int.Signed.{lt_z, le_z}
use Rattle.spec_plane.specs.declared.Point.{Point}
use Rattle.spec_plane.specs.Point.{orient, orient_at, FracPoint}

-- "A triangle is an array of three corners a, b, c"; that D(a,b,c) > 0 is `proper`, below
pub record Triangle : Type 0 where
  pub a : Point
  pub b : Point
  pub c : Point

-- a triangle as the array of its corners, which is how code holds it
abbrev pub corners : Triangle → List Point
corners t = t.a ∷ t.b ∷ t.c ∷ []

-- corner i of an array of three, counted from 0 and modulo 3
unfoldable pub corner_at : List Point → ℕ → Point
corner_at t i = get_or t (i % 3) (record { x = 0; y = 0 })

-- an array of three corners, rotated so that corner i comes first
unfoldable pub rotated : List Point → ℕ → List Point
rotated t i = corner_at t i ∷ corner_at t (i + 1) ∷ corner_at t (i + 2) ∷ []

-- the triangle that an array of three corners is
unfoldable pub triangle_of : List Point → Triangle
triangle_of t = record { a = corner_at t 0; b = corner_at t 1; c = corner_at t 2 }

-- "D(a,b,c) > 0"
unfoldable pub proper : Triangle → Bool
proper t = lt_z (pos 0) (orient t.a t.b t.c)

-- "It holds p when D(a,b,p), D(b,c,p), D(c,a,p) are all ≥ 0": the closed triangle
unfoldable pub holds : Triangle → Point → Bool
holds t p =
    le_z (pos 0) (orient t.a t.b p)
    && le_z (pos 0) (orient t.b t.c p)
    && le_z (pos 0) (orient t.c t.a p)

-- "p is strictly inside when all are > 0": the interior
unfoldable pub strictly_inside : Triangle → Point → Bool
strictly_inside t p =
    lt_z (pos 0) (orient t.a t.b p)
    && lt_z (pos 0) (orient t.b t.c p)
    && lt_z (pos 0) (orient t.c t.a p)

-- "holds" at a fractional point
unfoldable pub holds_at : Triangle → FracPoint → Bool
holds_at t p =
    le_z (pos 0) (orient_at t.a t.b p)
    && le_z (pos 0) (orient_at t.b t.c p)
    && le_z (pos 0) (orient_at t.c t.a p)

-- "strictly inside" at a fractional point
unfoldable pub strictly_inside_at : Triangle → FracPoint → Bool
strictly_inside_at t p =
    lt_z (pos 0) (orient_at t.a t.b p)
    && lt_z (pos 0) (orient_at t.b t.c p)
    && lt_z (pos 0) (orient_at t.c t.a p)

-- a side, from one end to the other
pub record Side : Type 0 where
  pub start : Point
  pub end : Point

-- "Its sides are ab, bc, ca"
abbrev pub sides : Triangle → List Side
sides t =
    record { start = t.a; end = t.b }
    ∷ record { start = t.b; end = t.c }
    ∷ record { start = t.c; end = t.a }
    ∷ []

-- "Doubled area is D(a,b,c)", which is positive: as a natural number
unfoldable pub doubled_area : Triangle → ℕ
doubled_area t = nat_abs (orient t.a t.b t.c)
