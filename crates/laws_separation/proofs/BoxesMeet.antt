-- When two boxes meet: the test `apart` fails exactly where some point, which may be fractional, lies in both, the borders included.
-- Boxes that are not apart have even a grid point in common, on the larger of their left sides and the larger of their top sides.
-- Assumes nothing.
use mathlib.Core.Path.{subst}
use mathlib.Core.Bool.{not}
use Prim.Native.Nat.{ℕ, ◌*◌, ◌≤◌, ◌<◌}
use native.Mathlib.Nat.{le_of_mul-le-mul_right}
use native.Mathlib.Omega.{arith}
use lib.Dec.{ltb, ltb→lt, lt→ltb}
use Rattle.spec_plane.specs.Point.{FracPoint}
use Rattle.spec_plane.specs.Box.{Box, apart}
use Rattle.theory_lists.proofs.Reflects.{Reflects, Refutes, reflects-iff, reflects-not, refutes-or}
use Rattle.laws_separation.proofs.Radon.{Triple}
use Rattle.laws_separation.proofs.Cone.{Inhabited, ◌∩◌, ◌•◌}
use Rattle.laws_separation.proofs.Sides.{fraction}
use Rattle.laws_separation.proofs.Boxes.{InBox, in_box-iff, triple_of, in_box-fraction, NotEmpty, rectangle, Overlap, overlap-meets}

-- a point that lies in both boxes
pub record BoxesMeet (b d : Box) : Type 0 where
  pub point : FracPoint
  pub above : 0 < point.W
  pub first : InBox b point
  pub second : InBox d point

-- ---- the test

less-refutes : (m n : ℕ) → Refutes (ltb m n) (n ≤ m)
less-refutes m n = record { to = λ f. let g : m < n → ⊥ = λ l. f (lt→ltb m n l) in omega arith; from = λ h t. let l = ltb→lt m n t in omega arith }

overlap-refutes : (b d : Box) → Refutes (apart b d) (Overlap b d)
unfolding apart
overlap-refutes b d =
    refutes-or (refutes-or (refutes-or (less-refutes b.right d.left) (less-refutes d.right b.left)) (less-refutes b.bottom d.top))
    (less-refutes d.bottom b.top)

-- ---- common points

meet : (b d : Box) → Inhabited (rectangle b ∩ rectangle d) → BoxesMeet b d
meet b d z = record {
  point = fraction z.point;
  above = z.above;
  first = (in_box-iff b z.point).1 z.has.0;
  second = (in_box-iff d z.point).1 z.has.1;
}

overlaps : (b d : Box) (z : Triple) → 0 < z.w → (rectangle b).Has z → (rectangle d).Has z → Overlap b d
unfolding ◌•◌
overlaps b d z above h k =
    let cancel : (m n : ℕ) → m * z.w ≤ n * z.w → m ≤ n = λ m n l. le_of_mul-le-mul_right {k = z.w} l above in
    (((cancel _ _ (omega arith), cancel _ _ (omega arith)), cancel _ _ (omega arith)), cancel _ _ (omega arith))

-- Two boxes that have points have a common one, which may be fractional and may lie on either border, exactly where they are not
-- apart.
pub boxes-touch : (b d : Box) → NotEmpty b → NotEmpty d → Reflects (not (apart b d)) (BoxesMeet b d)
boxes-touch b d h k =
    reflects-iff (λ o. meet b d (overlap-meets b d h k o)) (λ c.
    let z = triple_of c.point in
    let is = in_box-fraction c.first in
    overlaps b d z c.above ((in_box-iff b z).0 (subst (InBox b) is c.first)) ((in_box-iff d z).0 (subst (InBox d) is c.second)))
    (reflects-not (overlap-refutes b d))
