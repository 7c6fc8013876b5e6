-- A triangle that meets a part of a box meets the whole box, flat triangles too. The part reaches
-- no further than the whole, so a box apart from the whole is apart from the part; and the corner of the part at which
-- D(p,q,·) is largest lies in the whole, so D is at least as large at the whole's.
-- Assumes nothing.
use mathlib.Core.Logic.{inl, inr}
use Prim.Native.Nat.{◌≤◌}
use native.Mathlib.Omega.{arith}
use lib.Dec.{T}
use Rattle.spec_plane.specs.declared.Point.{Point}
use Rattle.spec_plane.specs.Triangle.{Triangle}
use Rattle.spec_plane.specs.Box.{Box, triangle_meets}
use Rattle.laws_separation.proofs.Cone.{Form, half_closed, ◌•◌}
use Rattle.laws_separation.proofs.Sides.{side, at, SomeCorner}
use Rattle.laws_separation.proofs.Boxes.{rectangle, from_left, to_right, from_top, to_bottom, largest, at-largest, corners-in, corners-largest}
use Rattle.laws_separation.proofs.Touch.{Reaches, touch-reflects}

-- r is a part of q, and has points
pub record BoxWithin (r q : Box) : Type 0 where
  pub left : q.left ≤ r.left
  pub right : r.right ≤ q.right
  pub top : q.top ≤ r.top
  pub bottom : r.bottom ≤ q.bottom
  pub wide : r.left ≤ r.right
  pub tall : r.top ≤ r.bottom

corner-more : (f g : Form) (t : Triangle) → ((p : Point) → (half_closed f).Has (at p) → (half_closed g).Has (at p))
    → SomeCorner (half_closed f) t → SomeCorner (half_closed g) t
corner-more f g t k (inl (inl h)) = inl (inl (k _ h))
corner-more f g t k (inl (inr h)) = inl (inr (k _ h))
corner-more f g t k (inr h) = inr (k _ h)

in_whole : {r q : Box} → BoxWithin r q → (p : Point) → (rectangle r).Has (at p) → (rectangle q).Has (at p)
unfolding ◌•◌
in_whole w p h = omega arith

reaches-part : (a b : Point) {r q : Box} → BoxWithin r q → Reaches a b r → Reaches a b q
reaches-part a b {r} {q} w =
    let f = side a b in
    let corner = corners-largest (rectangle r) f r (corners-in r (w.wide, w.tall)) in
    at-largest q (at (largest f r)) (omega arith) (in_whole w _ corner) f

-- A triangle that meets a part of a box meets the box.
pub triangle_meets-part : (t : Triangle) {r q : Box} → BoxWithin r q → T (triangle_meets t r) → T (triangle_meets t q)
unfolding ◌•◌
triangle_meets-part t {r} {q} w m =
    let h = (touch-reflects t r (w.wide, w.tall)).to m in
    let e = h.0.0.0 in
    let left = corner-more (from_left r.left) (from_left q.left) t (λ p i. omega arith) e.0.0.0 in
    let right = corner-more (to_right r.right) (to_right q.right) t (λ p i. omega arith) e.0.0.1 in
    let top = corner-more (from_top r.top) (from_top q.top) t (λ p i. omega arith) e.0.1 in
    let bottom = corner-more (to_bottom r.bottom) (to_bottom q.bottom) t (λ p i. omega arith) e.1 in
    (touch-reflects t q (omega arith)).from (
      (((((left, right), top), bottom), reaches-part _ _ w h.0.0.1), reaches-part _ _ w h.0.1),
      reaches-part _ _ w h.1,
    )
