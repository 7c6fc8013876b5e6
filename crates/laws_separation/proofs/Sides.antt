-- The sides of a triangle as forms, its inside as three open half-planes and the closed triangle as three closed ones,
-- tied to the integer formulas and to the tests of the crate spec_plane.
-- Assumes nothing.
use mathlib.Core.Path.{◌≡◌, refl}
use mathlib.Core.Logic.{◌⊎◌}
use Prim.Native.Nat.{◌+◌, ◌*◌}
use native.Mathlib.Nat.{add-zero}
use native.Mathlib.Numerals.{add-one}
use native.Mathlib.Omega.{arith}
use lib.IntN.{pos}
use lib.Signed.{lt_z, le_z}
use Rattle.spec_plane.specs.declared.Point.{Point}
use Rattle.spec_plane.specs.Point.{orient, orient_at, whole, FracPoint}
use Rattle.spec_plane.specs.Triangle.{Triangle, proper, strictly_inside_at, holds_at}
use Rattle.spec_plane.specs.Interior.{some_corner_inner}
use Rattle.spec_plane.proofs.Difference.{Diff, diff-pos, diff-shift, diff-above, diff-nonneg}
use Rattle.spec_plane.proofs.OrientLaws.{orient_at-difference, orient_at-whole}
use Rattle.theory_lists.proofs.Reflects.{Reflects, reflects-le, reflects-and₃, reflects-or}
use Rattle.laws_separation.proofs.Radon.{Triple}
use Rattle.laws_separation.proofs.Cone.{Cone, Form, ◌∩◌, half, half_closed, ◌•◌}

-- a grid point as a triple, and a triple as a fractional point
abbrev pub at : Point → Triple
at p = record { x = p.x; y = p.y; w = 1 }

abbrev pub fraction : Triple → FracPoint
fraction t = record { X = pos t.x; Y = pos t.y; W = t.w }

-- D(p,q,·) as a form
unfoldable pub side : Point → Point → Form
side p q = record {
  low = record { x = q.y; y = p.x; w = q.x * p.y };
  high = record { x = p.y; y = q.x; w = q.y * p.x };
}

pub side-low : (p q : Point) (t : Triple) → (side p q).low • t ≡ q.y * t.x + p.x * t.y + q.x * p.y * t.w
unfolding side ◌•◌
side-low p q t = refl

pub side-high : (p q : Point) (t : Triple) → (side p q).high • t ≡ p.y * t.x + q.x * t.y + q.y * p.x * t.w
unfolding side ◌•◌
side-high p q t = refl

pub side-difference : (p q : Point) (t : Triple)
    → Diff (orient_at p q (fraction t)) ((side p q).high • t) ((side p q).low • t)
unfolding side ◌•◌
side-difference p q t =
    diff-shift _ _ (orient_at-difference p q (fraction t) (diff-pos t.x) (diff-pos t.y)) (omega arith)

-- D > 0 and D ≥ 0 at a triple
pub positive-reflects : (p q : Point) (t : Triple)
    → Reflects (lt_z (pos 0) (orient_at p q (fraction t))) ((half (side p q)).Has t)
positive-reflects p q t = rw add-one (reflects-le (diff-above (side-difference p q t)))

pub nonneg-reflects : (p q : Point) (t : Triple)
    → Reflects (le_z (pos 0) (orient_at p q (fraction t))) ((half_closed (side p q)).Has t)
nonneg-reflects p q t = rw add-zero (reflects-le (diff-nonneg (side-difference p q t)))

-- the same at a grid point
pub corner-difference : (p q r : Point) → Diff (orient p q r) ((side p q).high • at r) ((side p q).low • at r)
unfolding whole
corner-difference p q r = rw (← orient_at-whole p q r) (side-difference p q (at r))

pub corner-reflects : (p q r : Point) → Reflects (lt_z (pos 0) (orient p q r)) ((half (side p q)).Has (at r))
corner-reflects p q r = rw add-one (reflects-le (diff-above (corner-difference p q r)))

pub corner-nonneg-reflects : (p q r : Point) → Reflects (le_z (pos 0) (orient p q r)) ((half_closed (side p q)).Has (at r))
corner-nonneg-reflects p q r = rw add-zero (reflects-le (diff-nonneg (corner-difference p q r)))

-- the inside of a triangle, and the triangle with its border
abbrev pub inside : Triangle → Cone
inside t = half (side t.a t.b) ∩ half (side t.b t.c) ∩ half (side t.c t.a)

abbrev pub closed : Triangle → Cone
closed t = half_closed (side t.a t.b) ∩ half_closed (side t.b t.c) ∩ half_closed (side t.c t.a)

pub inside-reflects : (t : Triangle) (z : Triple) → Reflects (strictly_inside_at t (fraction z)) ((inside t).Has z)
unfolding strictly_inside_at
inside-reflects t z = reflects-and₃ (positive-reflects _ _ z) (positive-reflects _ _ z) (positive-reflects _ _ z)

pub closed-reflects : (t : Triangle) (z : Triple) → Reflects (holds_at t (fraction z)) ((closed t).Has z)
unfolding holds_at
closed-reflects t z = reflects-and₃ (nonneg-reflects _ _ z) (nonneg-reflects _ _ z) (nonneg-reflects _ _ z)

-- "D(a,b,c) > 0"
abbrev pub Proper : Triangle → Type 0
Proper t = (half (side t.a t.b)).Has (at t.c)

pub proper-reflects : (t : Triangle) → Reflects (proper t) (Proper t)
unfolding proper
proper-reflects t = corner-reflects _ _ _

pub corners-closed : (t : Triangle) → Proper t
    → (closed t).Has (at t.a) × (closed t).Has (at t.b) × (closed t).Has (at t.c)
unfolding side ◌•◌
corners-closed t h = omega arith

-- some corner of t in a cone
abbrev pub SomeCorner : Cone → Triangle → Type 0
SomeCorner c t = (c.Has (at t.a) ⊎ c.Has (at t.b)) ⊎ c.Has (at t.c)

pub some_corner-reflects : (p q : Point) (t : Triangle) → Reflects (some_corner_inner p q t) (SomeCorner (half (side p q)) t)
unfolding some_corner_inner
some_corner-reflects p q t =
    reflects-or (reflects-or (corner-reflects p q t.a) (corner-reflects p q t.b)) (corner-reflects p q t.c)
