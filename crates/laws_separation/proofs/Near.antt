-- The base of the theorem. Where some corner of a proper triangle lies in an open half-plane, the half-plane has a point
-- that is strictly inside: go from the sum of the corners far enough toward that corner. The inside is never left on the
-- way, and in the end the half-plane is reached.
-- Assumes nothing.
use mathlib.Core.Logic.{inl, inr}
use Prim.Native.Nat.{ℕ, suc, ◌+◌, ◌*◌}
use native.Mathlib.Nat.{mul-le-mul_left}
use native.Mathlib.Omega.{arith}
use Rattle.spec_plane.specs.Triangle.{Triangle}
use Rattle.laws_separation.proofs.Radon.{Triple}
use Rattle.laws_separation.proofs.Cone.{Cone, Mixed, Inhabited, Form, ◌∩◌, half, half_closed, ◌•◌, •-mixed}
use Rattle.laws_separation.proofs.Sides.{side, at, inside, closed, Proper, corners-closed, SomeCorner}

-- a corner is a point of the closed triangle
pub corner-in : (t : Triangle) (c : Cone) → Proper t → SomeCorner c t → Inhabited (closed t ∩ c)
corner-in t c h (inl (inl i)) = record { point = at t.a; above = omega arith; has = ((corners-closed t h).0, i) }
corner-in t c h (inl (inr i)) = record { point = at t.b; above = omega arith; has = ((corners-closed t h).1, i) }
corner-in t c h (inr i) = record { point = at t.c; above = omega arith; has = ((corners-closed t h).2, i) }

-- the sum of the corners, which is the triangle's middle
abbrev middle : Triangle → Triple
middle t = record { x = t.a.x + t.b.x + t.c.x; y = t.a.y + t.b.y + t.c.y; w = 3 }

middle-inside : (t : Triangle) → Proper t → (inside t).Has (middle t)
unfolding side ◌•◌
middle-inside t h = omega arith

pub some-inside : (t : Triangle) → Proper t → Inhabited (inside t)
some-inside t h = record { point = middle t; above = omega arith; has = middle-inside t h }

-- k steps from m toward r
abbrev toward : ℕ → Triple → Triple → Triple
toward k m r = record { x = m.x + k * r.x; y = m.y + k * r.y; w = m.w + k * r.w }

toward-mixed : (k : ℕ) (m r : Triple) → Mixed 1 k 0 m r r (toward k m r)
toward-mixed k m r = omega arith

stays : (f : Form) (k : ℕ) (m r : Triple) → (half f).Has m → (half_closed f).Has r → (half f).Has (toward k m r)
stays f k m r hm hr =
    omega (arith, •-mixed f.low (toward-mixed k m r), •-mixed f.high (toward-mixed k m r), mul-le-mul_left k hr)

reaches : (f : Form) (m r : Triple) → (half f).Has r → (half f).Has (toward (suc (f.low • m)) m r)
reaches f m r h =
    let k = suc (f.low • m) in
    omega (arith, •-mixed f.low (toward-mixed k m r), •-mixed f.high (toward-mixed k m r), mul-le-mul_left k h)

pub near-corner : (t : Triangle) (f : Form) → Proper t → SomeCorner (half f) t → Inhabited (inside t ∩ half f)
near-corner t f h s =
    let c = corner-in t (half f) h s in
    let r = c.point in
    let m = middle t in
    let k = suc (f.low • m) in
    let i = middle-inside t h in
    let e = c.has.0 in
    record {
      point = toward k m r;
      above = omega arith;
      has = (
        (stays _ k m r i.0 e.0, (stays _ k m r i.1.0 e.1.0, stays _ k m r i.1.1 e.1.1)),
        reaches f m r c.has.1,
      );
    }
