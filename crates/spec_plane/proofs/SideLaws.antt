-- A side and the same side from its other end: "sides with the same two end points are one side". Whether it meets a box
-- does not depend on the direction, since D changes its sign and the bounding box stays.
-- Assumes nothing.
use mathlib.Core.Path.{◌≡◌, refl, sym, ◌∙◌, ap, ap₂}
use mathlib.Core.Bool.{Bool, true, false, not, ◌||◌, or_comm}
use Prim.Native.Nat.{min, max}
use native.Mathlib.Omega.{arith}
use lib.IntN.{pos}
use lib.Signed.{lt_z}
use Rattle.spec_plane.specs.declared.Point.{Point}
use Rattle.spec_plane.specs.Point.{orient}
use Rattle.spec_plane.specs.Triangle.{Side}
use Rattle.spec_plane.specs.Box.{Box, apart, side_box, all_corners, all_inner, all_outer, side_meets}
use Rattle.spec_plane.proofs.OrientLaws.{orient-difference, orient-swap}
use Rattle.spec_plane.proofs.Difference.{diff-neg, diff-above, diff-below}

-- the side from its other end
abbrev pub reversed : Side → Side
reversed d = record { start = d.end; end = d.start }

inner-swap : (p q c : Point) → lt_z (pos 0) (orient q p c) ≡ lt_z (orient p q c) (pos 0)
inner-swap p q c =
    let d = orient-difference p q c in
    ap (lt_z (pos 0)) (orient-swap p q c) ∙ diff-above (diff-neg d) ∙ sym (diff-below d)

outer-swap : (p q c : Point) → lt_z (orient q p c) (pos 0) ≡ lt_z (pos 0) (orient p q c)
outer-swap p q c =
    let d = orient-difference p q c in
    ap (λ z. lt_z z (pos 0)) (orient-swap p q c) ∙ diff-below (diff-neg d) ∙ sym (diff-above d)

all-inner-swap : (p q : Point) (b : Box) → all_inner q p b ≡ all_outer p q b
unfolding all_inner all_outer all_corners
all-inner-swap p q b = simp (inner-swap p q)

all-outer-swap : (p q : Point) (b : Box) → all_outer q p b ≡ all_inner p q b
unfolding all_inner all_outer all_corners
all-outer-swap p q b = simp (outer-swap p q)

box-reversed : (d : Side) → side_box (reversed d) ≡ side_box d
unfolding side_box
box-reversed d =
    let l : min d.end.x d.start.x ≡ min d.start.x d.end.x = omega arith in
    let t : min d.end.y d.start.y ≡ min d.start.y d.end.y = omega arith in
    let r : max d.end.x d.start.x ≡ max d.start.x d.end.x = omega arith in
    let b : max d.end.y d.start.y ≡ max d.start.y d.end.y = omega arith in
    λ i. record { left = l i; top = t i; right = r i; bottom = b i }

last-two : (x y z : Bool) → (x || y || z) ≡ (x || z || y)
last-two true y z = refl
last-two false y z = or_comm y z

-- a side meets a box from either end
pub side_meets-reversed : (d : Side) (b : Box) → side_meets (reversed d) b ≡ side_meets d b
unfolding side_meets
side_meets-reversed d b =
    let p = d.start in
    let q = d.end in
    ap not
    (ap₂ ◌||◌ (ap₂ ◌||◌ (ap (λ x. apart x b) (box-reversed d)) (all-inner-swap p q b)) (all-outer-swap p q b)
    ∙ last-two (apart (side_box d) b) (all_outer p q b) (all_inner p q b))
