-- The test `triangle_meets`, read as claims on corners: no side of the box and no side of the triangle separates the two.
-- The bounding boxes are not apart where for each side of the box some corner of the triangle is on its inner side or on it;
-- and not all corners of the box have D < 0 for a side of the triangle where the corner with the largest D has not.
-- Assumes nothing.
use mathlib.Core.Logic.Dec
use mathlib.Core.Logic.{inl, inr, ◌↔◌}
use Prim.Native.Nat.{ℕ, ◌<◌}
use native.Mathlib.Decide.{dec_le}
use native.Mathlib.Numerals.{add-one}
use native.Mathlib.Omega.{arith}
use lib.Dec.{ltb, ltb→lt, lt→ltb}
use lib.IntN.{pos}
use lib.Signed.{lt_z}
use Rattle.spec_plane.specs.declared.Point.{Point}
use Rattle.spec_plane.specs.Point.{orient}
use Rattle.spec_plane.specs.Triangle.{Triangle}
use Rattle.spec_plane.specs.Box.{Box, apart, triangle_box, all_corners, all_outer, triangle_meets}
use Rattle.spec_plane.proofs.Difference.{diff-below}
use Rattle.theory_lists.proofs.Reflects.{Reflects, Refutes, reflects-le, reflects-and, reflects-not, refutes-or}
use Rattle.laws_separation.proofs.Cone.{Form, half, half_closed, flip, ◌•◌}
use Rattle.laws_separation.proofs.Sides.{side, at, corner-difference, SomeCorner}
use Rattle.laws_separation.proofs.Averages.{one_of_three}
use Rattle.laws_separation.proofs.Boxes.{NotEmpty, rectangle, from_left, to_right, from_top, to_bottom, largest, largest-most, AllCorners, corners-more, corners-in, corners-largest}

-- ---- the sides of the triangle

outer-reflects : (p q r : Point) → Reflects (lt_z (orient p q r) (pos 0)) ((half (flip (side p q))).Has (at r))
outer-reflects p q r = rw add-one (reflects-le (diff-below (corner-difference p q r)))

all_outer-reflects : (p q : Point) (b : Box) → Reflects (all_outer p q b) (AllCorners (half (flip (side p q))) b)
unfolding all_outer all_corners
all_outer-reflects p q b =
    reflects-and (reflects-and (reflects-and (outer-reflects p q _) (outer-reflects p q _)) (outer-reflects p q _))
    (outer-reflects p q _)

-- where the largest corner is on the outer side, all are
smaller : (f : Form) (b : Box) → ¬ ((half_closed f).Has (at (largest f b)))
    → (r : Point) → (rectangle b).Has (at r) → (half (flip f)).Has (at r)
smaller f b n r h = omega (arith, largest-most f b (at r) h)

outer-refutes : (p q : Point) (b : Box) → NotEmpty b
    → Refutes (all_outer p q b) ((half_closed (side p q)).Has (at (largest (side p q) b)))
outer-refutes p q b h =
    let f = side p q in
    let outer = half (flip f) in
    let r = all_outer-reflects p q b in
    record {
      to = λ n.
          (Dec.not-not (dec_le _ _)).0
          (λ i. n (r.from (corners-more (rectangle b) outer b (smaller f b i) (corners-in b h))));
      from = λ i t. let o = corners-largest outer f b (r.to t) in omega arith;
    }

-- ---- the sides of the box

edge-refutes : (f : Form) (t : Triangle) (m n : ℕ)
    → m < n ↔ (¬ ((half_closed f).Has (at t.a)) × ¬ ((half_closed f).Has (at t.b)) × ¬ ((half_closed f).Has (at t.c)))
    → Refutes (ltb m n) (SomeCorner (half_closed f) t)
edge-refutes f t m n e = record {
  to = λ o. one_of_three (dec_le _ _) (dec_le _ _) (dec_le _ _) (λ i j k. o (lt→ltb m n (e.1 (i, j, k))));
  from = λ s o.
      let h = e.0 (ltb→lt m n o) in
      elim s [ inl (inl i) ↦ h.0 i | inl (inr i) ↦ h.1 i | inr i ↦ h.2 i ];
}

-- for each side of the box some corner of the triangle is not on its outer side
abbrev Edges : Triangle → Box → Type 0
Edges t b =
    ((SomeCorner (half_closed (from_left b.left)) t × SomeCorner (half_closed (to_right b.right)) t)
    × SomeCorner (half_closed (from_top b.top)) t) × SomeCorner (half_closed (to_bottom b.bottom)) t

apart-refutes : (t : Triangle) (b : Box) → Refutes (apart (triangle_box t) b) (Edges t b)
unfolding apart triangle_box ◌•◌
apart-refutes t b =
    let d = triangle_box t in
    let left = edge-refutes (from_left b.left) t d.right b.left (omega arith) in
    let right = edge-refutes (to_right b.right) t b.right d.left (omega arith) in
    let top = edge-refutes (from_top b.top) t d.bottom b.top (omega arith) in
    let bottom = edge-refutes (to_bottom b.bottom) t b.bottom d.top (omega arith) in
    refutes-or (refutes-or (refutes-or left right) top) bottom

-- ---- both

-- the largest corner of a box is not on the outer side of p to q
abbrev pub Reaches : Point → Point → Box → Type 0
Reaches p q b = (half_closed (side p q)).Has (at (largest (side p q) b))

-- no side of either separates a triangle and a box
abbrev pub Touch : Triangle → Box → Type 0
Touch t b = ((Edges t b × Reaches t.a t.b b) × Reaches t.b t.c b) × Reaches t.c t.a b

pub touch-reflects : (t : Triangle) (b : Box) → NotEmpty b → Reflects (triangle_meets t b) (Touch t b)
unfolding triangle_meets
touch-reflects t b h =
    let ab = outer-refutes t.a t.b b h in
    let bc = outer-refutes t.b t.c b h in
    let ca = outer-refutes t.c t.a b h in
    reflects-not (refutes-or (refutes-or (refutes-or (apart-refutes t b) ab) bc) ca)
