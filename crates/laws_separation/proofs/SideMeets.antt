-- When a side meets a box: the test `side_meets` passes exactly where some point of the side, which may be fractional, lies
-- in the box, the borders included. That point is an average of the side's ends, so a triangle that holds the ends holds it:
-- a side that meets a box makes its triangle meet it.
-- Assumes nothing.
use mathlib.Core.Path.{◌≡◌, subst}
use mathlib.Core.List.Memᴰ
use mathlib.Core.List.{Memᴰ}
use mathlib.Core.Logic.{◌↔◌}
use Prim.Native.Nat.{◌<◌}
use native.Mathlib.Omega.{arith}
use lib.Dec.{T}
use lib.IntN.{pos}
use Rattle.spec_plane.specs.declared.Point.{Point}
use Rattle.spec_plane.specs.Point.{orient_at, FracPoint}
use Rattle.spec_plane.specs.Triangle.{Triangle, Side, sides, proper}
use Rattle.spec_plane.specs.Box.{Box, side_box, side_meets, triangle_meets}
use Rattle.spec_plane.proofs.Difference.{diff-unique}
use Rattle.theory_lists.proofs.ListsLaws.{every-cons}
use Rattle.laws_separation.proofs.Radon.{Triple}
use Rattle.laws_separation.proofs.Cone.{Inhabited, ◌∩◌, half_closed, ◌•◌}
use Rattle.laws_separation.proofs.Sides.{side, side-difference, at, fraction, closed, closed-reflects, proper-reflects, corners-closed}
use Rattle.laws_separation.proofs.Boxes.{InBox, in_box-iff, triple_of, in_box-fraction, NotEmpty, rectangle}
use Rattle.laws_separation.proofs.Meets.{holds_at-meets}
use Rattle.laws_separation.proofs.Segment.{segment, at-point}
use Rattle.laws_separation.proofs.SideTouch.{side-touch-iff}

-- a point of the side, on its line and in its bounding box, that lies in the box
pub record SidePoint (d : Side) (b : Box) : Type 0 where
  pub point : FracPoint
  pub above : 0 < point.W
  pub on_line : orient_at d.start d.end point ≡ pos 0
  pub on_side : InBox (side_box d) point
  pub in_box : InBox b point

-- D(p,q,·) is zero where it is at least zero both ways
zero-iff : (p q : Point) (z : Triple)
    → orient_at p q (fraction z) ≡ pos 0 ↔ ((half_closed (side p q)).Has z × (half_closed (side q p)).Has z)
unfolding side ◌•◌
zero-iff p q z =
    let d = side-difference p q z in (
      λ e. let h = rw e at d in omega arith,
      λ h. diff-unique d (record { at = omega arith }),
    )

side_point : (d : Side) (b : Box) → Inhabited (segment d ∩ rectangle b) → SidePoint d b
side_point d b s =
    let z = s.point in
    let g = s.has.0 in
    record {
      point = fraction z;
      above = s.above;
      on_line = (zero-iff d.start d.end z).1 (g.0, g.1.0);
      on_side = (in_box-iff (side_box d) z).1 g.1.1;
      in_box = (in_box-iff b z).1 s.has.1;
    }

common : (d : Side) (b : Box) → SidePoint d b → Inhabited (segment d ∩ rectangle b)
common d b c =
    let z = triple_of c.point in
    let is = in_box-fraction c.in_box in
    let line = (zero-iff d.start d.end z).0 (subst (λ q. orient_at d.start d.end q ≡ pos 0) is c.on_line) in
    record {
      point = z;
      above = c.above;
      has = (
        (line.0, (line.1, (in_box-iff (side_box d) z).0 (subst (InBox (side_box d)) is c.on_side))),
        (in_box-iff b z).0 (subst (InBox b) is c.in_box),
      );
    }

-- ---- the laws

-- A side and a box that has points have a common point, which may be fractional, exactly where the test `side_meets` passes.
pub side-meets-iff : (d : Side) (b : Box) → NotEmpty b → SidePoint d b ↔ T (side_meets d b)
side-meets-iff d b h =
    let t = side-touch-iff d b h in (λ c. t.0 (common d b c), λ m. side_point d b (t.1 m))

held : (t : Triangle) (d : Side) (z : Triple) → 0 < z.w → (segment d).Has z
    → (closed t).Has (at d.start) → (closed t).Has (at d.end) → (closed t).Has z
held t d z above h p q =
    let k = at-point d z above h in
    (k _ p.0 q.0, (k _ p.1.0 q.1.0, k _ p.1.1 q.1.1))

inner_meets : (t : Triangle) (b : Box) (d : Side) → T (proper t) → NotEmpty b
    → (closed t).Has (at d.start) → (closed t).Has (at d.end) → T (side_meets d b) → T (triangle_meets t b)
inner_meets t b d k h p q m =
    let s = (side-touch-iff d b h).1 m in
    let z = s.point in
    holds_at-meets t b (fraction z) k s.above
    ((closed-reflects t z).from (held t d z s.above s.has.0 p q)) ((in_box-iff b z).1 s.has.1)

-- A side that meets a box makes its triangle meet it.
pub side-triangle-meets : (t : Triangle) (b : Box) (d : Side) → T (proper t) → NotEmpty b → Memᴰ d (sides t)
    → T (side_meets d b) → T (triangle_meets t b)
side-triangle-meets t b d k h i m =
    let c = corners-closed t ((proper-reflects t).to k) in
    let P : Side → Type 0 = λ e. T (side_meets e b) → T (triangle_meets t b) in
    let ab = inner_meets t b (record { start = t.a; end = t.b }) k h c.0 c.1 in
    let bc = inner_meets t b (record { start = t.b; end = t.c }) k h c.1 c.2 in
    let ca = inner_meets t b (record { start = t.c; end = t.a }) k h c.2 c.0 in
    every-cons {P = P} (ab, every-cons {P = P} (bc, every-cons {P = P} (ca, λ x n. absurd (Memᴰ.not-nil n)))) d i m
