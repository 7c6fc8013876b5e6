-- When two triangles share ground (document 01, "Overlay" and "Reading", and the demands): some point, which may be
-- fractional, is strictly inside both. The meaning is `CommonInterior`; the test that computes it is `interiors_meet`.
-- That the two agree on triangles with D > 0 is the separation theorem, `interiors-meet-iff` of the crate laws_separation.
-- Assumes nothing.
use Rattle.std.specs.Prelude.{Bool, ◌&&◌, ◌||◌, ◌<◌, T, pos}
use Rattle.std.specs.Int.Signed.{lt_z}
use Rattle.spec_plane.specs.declared.Point.{Point}
use Rattle.spec_plane.specs.Point.{orient, FracPoint}
use Rattle.spec_plane.specs.Triangle.{Triangle, strictly_inside_at}

-- "some point is strictly inside both triangles"
pub record CommonInterior (s t : Triangle) : Type 0 where
  pub point : FracPoint
  pub above : 0 < point.W
  pub first : T (strictly_inside_at s point)
  pub second : T (strictly_inside_at t point)

-- some corner of t lies on the inner side of p to q, where D > 0
unfoldable pub some_corner_inner : Point → Point → Triangle → Bool
some_corner_inner p q t =
    lt_z (pos 0) (orient p q t.a) || lt_z (pos 0) (orient p q t.b) || lt_z (pos 0) (orient p q t.c)

-- no side of s separates it from t: for every side of s some corner of t has D > 0
unfoldable pub no_side_separates : Triangle → Triangle → Bool
no_side_separates s t =
    some_corner_inner s.a s.b t && some_corner_inner s.b s.c t && some_corner_inner s.c s.a t

-- a common interior point, computed: no side of either separates the two
unfoldable pub interiors_meet : Triangle → Triangle → Bool
interiors_meet s t = no_side_separates s t && no_side_separates t s
