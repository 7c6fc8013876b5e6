-- A side as a flat triangle, there and back: it meets a box exactly where that triangle does. For the bounding boxes are
-- the same, D(q,p,·) is −D(p,q,·), and D(p,p,·) is zero and separates nothing. So what holds of every triangle, flat ones
-- too, holds of sides.
-- Assumes nothing.
use mathlib.Core.Path.{◌≡◌, sym, ◌∙◌}
use mathlib.Core.Bool.{false, and-false, or-false}
use native.Mathlib.Omega.{arith}
use lib.IntN.{pos}
use lib.Signed.{lt_z}
use Rattle.spec_plane.specs.declared.Point.{Point}
use Rattle.spec_plane.specs.Point.{orient}
use Rattle.spec_plane.specs.Triangle.{Triangle, Side}
use Rattle.spec_plane.specs.Box.{Box, side_box, triangle_box, all_corners, all_inner, all_outer, side_meets, triangle_meets}
use Rattle.spec_plane.proofs.Difference.{diff-shift, diff-neg, diff-above, diff-below}
use Rattle.spec_plane.proofs.OrientLaws.{orient-difference, orient-swap}

-- from the end to the start and back
abbrev pub flat : Side → Triangle
flat d = record { a = d.end; b = d.start; c = d.end }

same-box : {b d : Box} → b.left ≡ d.left → b.top ≡ d.top → b.right ≡ d.right → b.bottom ≡ d.bottom → b ≡ d
same-box l t r m = λ i. record { left = l i; top = t i; right = r i; bottom = m i }

flat-box : (d : Side) → triangle_box (flat d) ≡ side_box d
unfolding triangle_box side_box
flat-box d = same-box (omega arith) (omega arith) (omega arith) (omega arith)

back : (p q r : Point) → lt_z (orient q p r) (pos 0) ≡ lt_z (pos 0) (orient p q r)
back p q r = let d = orient-difference p q r in rw (orient-swap p q r) (diff-below (diff-neg d) ∙ sym (diff-above d))

all_outer-back : (p q : Point) (b : Box) → all_outer q p b ≡ all_inner p q b
unfolding all_outer all_inner all_corners
all_outer-back p q b = simp back

nowhere : (p r : Point) → lt_z (orient p p r) (pos 0) ≡ false
nowhere p r = diff-below (diff-shift 0 0 (orient-difference p p r) (omega arith))

all_outer-none : (p : Point) (b : Box) → all_outer p p b ≡ false
unfolding all_outer all_corners
all_outer-none p b = simp (nowhere, and-false)

-- A side meets a box exactly where it does as a flat triangle.
pub side_meets-flat : (d : Side) (b : Box) → triangle_meets (flat d) b ≡ side_meets d b
unfolding triangle_meets side_meets
side_meets-flat d b = simp (flat-box d, all_outer-none, all_outer-back d.start d.end b, or-false)
