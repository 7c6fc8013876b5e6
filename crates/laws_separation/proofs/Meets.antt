-- When a triangle meets a box: the test `triangle_meets` passes exactly where some point is held by the triangle and lies
-- in the box, the borders included. It is the separation theorem once more, with closed half-planes. A common point is an
-- average of the triangle's corners, so for each side of the box some corner is on its inner side or on it, and for each
-- side of the triangle the largest corner of the box is. The other way, these corners are the base of Helly's theorem.
-- Assumes nothing.
use mathlib.Core.Path.{subst}
use mathlib.Core.Logic.{◌↔◌}
use Prim.Native.Nat.{◌≤◌, ◌<◌}
use native.Mathlib.Omega.{arith}
use lib.Dec.{T, le→leb}
use Rattle.spec_plane.specs.declared.Point.{Point}
use Rattle.spec_plane.specs.Point.{FracPoint, whole}
use Rattle.spec_plane.specs.Triangle.{Triangle, proper, holds, holds_at}
use Rattle.spec_plane.specs.Box.{Box, triangle_meets}
use Rattle.spec_plane.proofs.OrientLaws.{orient_at-whole}
use Rattle.laws_separation.proofs.Cone.{Form, Inhabited, ◌∩◌, half_closed}
use Rattle.laws_separation.proofs.Helly.{families-meet}
use Rattle.laws_separation.proofs.Sides.{at, fraction, closed, closed-reflects, Proper, proper-reflects, corners-closed}
use Rattle.laws_separation.proofs.Near.{corner-in}
use Rattle.laws_separation.proofs.Weights.{Average, weights}
use Rattle.laws_separation.proofs.Averages.{some-corner}
use Rattle.laws_separation.proofs.Boxes.{InBox, in_box-iff, NotEmpty, not-empty, rectangle, others, from_left, largest, at-largest, corners-in, corners-largest}
use Rattle.laws_separation.proofs.Touch.{Touch, touch-reflects}

touches : (t : Triangle) (b : Box) {p : FracPoint} (v : Average t p)
    → (closed t).Has v.point → (rectangle b).Has v.point → Touch t b
touches t b v h r =
    let corner = some-corner 0 (omega arith) v in
    let reaches = at-largest b v.point v.above r in (
      (
        ((((corner _ r.0, corner _ r.1.0), corner _ r.1.1.0), corner _ r.1.1.1), reaches _ h.0),
        reaches _ h.1.0,
      ),
      reaches _ h.1.1,
    )

-- A triangle with D > 0 that holds a point of a box, the borders included, meets the box.
pub holds_at-meets : (t : Triangle) (b : Box) (p : FracPoint) → T (proper t) → 0 < p.W → T (holds_at t p) → InBox b p
    → T (triangle_meets t b)
holds_at-meets t b p d above h i =
    let v = weights t p d above h in
    let r = (in_box-iff b v.point).0 (subst (InBox b) v.is i) in
    let c = (closed-reflects t v.point).to (subst (λ q. T (holds_at t q)) v.is h) in
    (touch-reflects t b (not-empty b v.point v.above r)).from (touches t b v c r)

-- A triangle with D > 0 that holds a grid point of a box, the borders included, meets the box.
pub holds-meets : (t : Triangle) (b : Box) (p : Point) → T (proper t) → T (holds t p)
    → b.left ≤ p.x → p.x ≤ b.right → b.top ≤ p.y → p.y ≤ b.bottom → T (triangle_meets t b)
unfolding holds holds_at whole
holds-meets t b p d h l r u m =
    let k : T (holds_at t (whole p)) = simp orient_at-whole h in
    holds_at-meets t b (whole p) d (omega arith) k (omega (arith, le→leb))

-- the largest corner as a common point of a half-plane and the box
pub largest-in : (f : Form) (b : Box) → NotEmpty b → (half_closed f).Has (at (largest f b)) → Inhabited (half_closed f ∩ rectangle b)
largest-in f b h i = record {
  point = at (largest f b);
  above = omega arith;
  has = (i, corners-largest (rectangle b) f b (corners-in b h));
}

meets : (t : Triangle) (b : Box) → Proper t → NotEmpty b → Touch t b → Inhabited (closed t ∩ rectangle b)
meets t b p h i =
    let e = i.0.0.0 in
    families-meet _ _ _ (half_closed (from_left b.left)) (others b)
    (record { point = at t.a; above = omega arith; has = (corners-closed t p).0 })
    (corner-in t _ p e.0.0.0, (corner-in t _ p e.0.0.1, (corner-in t _ p e.0.1, corner-in t _ p e.1)))
    (largest-in _ b h i.0.0.1)
    (largest-in _ b h i.0.1)
    (largest-in _ b h i.1)

-- a point that the triangle holds and that lies in the box
pub record CommonPoint (t : Triangle) (b : Box) : Type 0 where
  pub point : FracPoint
  pub above : 0 < point.W
  pub held : T (holds_at t point)
  pub in_box : InBox b point

common : (t : Triangle) (b : Box) → Inhabited (closed t ∩ rectangle b) → CommonPoint t b
common t b z = record {
  point = fraction z.point;
  above = z.above;
  held = (closed-reflects t z.point).from z.has.0;
  in_box = (in_box-iff b z.point).1 z.has.1;
}

-- A triangle with D > 0 and a box that has points have a common point, which may be fractional and may lie on either
-- border, exactly where the test `triangle_meets` passes.
pub triangle-meets-iff : (t : Triangle) (b : Box) → T (proper t) → NotEmpty b → CommonPoint t b ↔ T (triangle_meets t b)
triangle-meets-iff t b d h = (
  λ c. holds_at-meets t b c.point d c.above c.held c.in_box,
  λ m. common t b (meets t b ((proper-reflects t).to d) h ((touch-reflects t b h).to m)),
)
