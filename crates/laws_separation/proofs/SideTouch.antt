-- The test `side_meets` passes exactly where a side and a box have a common point, the borders included, as a triple.
-- The side is where three cones meet: the two closed half-planes of its line, and its bounding box. Each of the three meets
-- the box, and each side of the box has an end of the side on its inner side or on it; so all meet, by Helly's theorem.
-- The other way, a common point is an average of the side's ends, so one end is on the inner side of each side of the box.
-- Assumes nothing.
use mathlib.Core.Logic.{inl, inr, ◌↔◌}
use Prim.Native.Nat.{◌≤◌}
use native.Mathlib.Omega.{arith}
use lib.Dec.{T}
use Rattle.spec_plane.specs.declared.Point.{Point}
use Rattle.spec_plane.specs.Triangle.{Side}
use Rattle.spec_plane.specs.Box.{Box, side_box, side_meets}
use Rattle.laws_separation.proofs.Cone.{Cone, Inhabited, ◌∩◌, half_closed, ◌•◌}
use Rattle.laws_separation.proofs.Helly.{families-meet}
use Rattle.laws_separation.proofs.Sides.{side, at, SomeCorner}
use Rattle.laws_separation.proofs.Boxes.{NotEmpty, rectangle, overlap-meets, others, from_left, to_right, from_top, to_bottom, at-largest}
use Rattle.laws_separation.proofs.Touch.{Touch, touch-reflects}
use Rattle.laws_separation.proofs.Meets.{largest-in}
use Rattle.laws_separation.proofs.FlatSides.{flat, side_meets-flat}
use Rattle.laws_separation.proofs.Segment.{segment, ends-in, some_end}

-- ---- from the test to a point

-- what follows from either end in a cone
either_end : (d : Side) (c : Cone) (P : Type 0) → ((p : Point) → (segment d).Has (at p) → c.Has (at p) → P)
    → SomeCorner c (flat d) → P
either_end d c P f (inl (inl i)) = f d.end (ends-in d).1 i
either_end d c P f (inl (inr i)) = f d.start (ends-in d).0 i
either_end d c P f (inr i) = f d.end (ends-in d).1 i

end-in : (d : Side) (c : Cone) → SomeCorner c (flat d) → Inhabited (segment d ∩ c)
end-in d c = either_end d c _ (λ p i j. record { point = at p; above = omega arith; has = (i, j) })

boxes-meet : (d : Side) (b : Box) → NotEmpty b → Touch (flat d) b → Inhabited (rectangle (side_box d) ∩ rectangle b)
unfolding side_box ◌•◌
boxes-meet d b h i =
    let e = i.0.0.0 in
    let s = side_box d in
    let l = either_end d (half_closed (from_left b.left)) (b.left ≤ s.right) (λ p i j. omega arith) e.0.0.0 in
    let r = either_end d (half_closed (to_right b.right)) (s.left ≤ b.right) (λ p i j. omega arith) e.0.0.1 in
    let t = either_end d (half_closed (from_top b.top)) (b.top ≤ s.bottom) (λ p i j. omega arith) e.0.1 in
    let m = either_end d (half_closed (to_bottom b.bottom)) (s.top ≤ b.bottom) (λ p i j. omega arith) e.1 in
    overlap-meets s b (omega arith) h (((l, r), t), m)

meets : (d : Side) (b : Box) → NotEmpty b → Touch (flat d) b → Inhabited (segment d ∩ rectangle b)
meets d b h i =
    let e = i.0.0.0 in
    families-meet _ _ _ (half_closed (from_left b.left)) (others b)
    (record { point = at d.start; above = omega arith; has = (ends-in d).0 })
    (end-in d _ e.0.0.0, (end-in d _ e.0.0.1, (end-in d _ e.0.1, end-in d _ e.1)))
    (largest-in _ b h i.0.1)
    (largest-in _ b h i.0.0.1)
    (boxes-meet d b h i)

-- ---- from a point to the test

touches : (d : Side) (b : Box) (s : Inhabited (segment d ∩ rectangle b)) → Touch (flat d) b
unfolding side ◌•◌
touches d b s =
    let z = s.point in
    let g = s.has.0 in
    let r = s.has.1 in
    let corner = some_end d z s.above g in
    let reaches = at-largest b z s.above r in (
      (
        ((((corner _ r.0, corner _ r.1.0), corner _ r.1.1.0), corner _ r.1.1.1), reaches _ g.1.0),
        reaches _ g.0,
      ),
      reaches (side d.end d.end) (omega arith),
    )

-- A side and a box that has points have a common point exactly where the test `side_meets` passes.
pub side-touch-iff : (d : Side) (b : Box) → NotEmpty b → Inhabited (segment d ∩ rectangle b) ↔ T (side_meets d b)
side-touch-iff d b h =
    let r = touch-reflects (flat d) b h in
    rw (← side_meets-flat d b) (λ s. r.from (touches d b s), λ m. meets d b h (r.to m))
