-- The points of a side: those on its line and in its bounding box. Each is an average of the two ends, with natural weights:
-- where the ends differ in x, the weights are the distances from the point to the ends in x, and so for y. So a form that is
-- at least zero at both ends is so at the point, and one that is at least zero at the point is so at one of the ends.
-- Assumes nothing.
use mathlib.Core.Path.{◌≡◌, ap}
use mathlib.Core.Logic.{◌⊎◌, inl, inr}
use Prim.Native.Nat.{ℕ, suc, ◌+◌, ◌*◌, ◌≤◌, ◌<◌, min, max}
use native.Mathlib.Decide.{dec_le}
use native.Mathlib.Nat.{le_dest, min_comm, max_comm, mul-le-mul_left, mul-pos, le_of_mul-le-mul_left}
use native.Mathlib.Omega.{arith}
use Rattle.spec_plane.specs.Triangle.{Side}
use Rattle.spec_plane.specs.Box.{side_box}
use Rattle.laws_separation.proofs.Radon.{Triple}
use Rattle.laws_separation.proofs.Cone.{Cone, Form, ◌∩◌, half_closed, ◌•◌}
use Rattle.laws_separation.proofs.Sides.{side, at, SomeCorner}
use Rattle.laws_separation.proofs.Averages.{one_of_three}
use Rattle.laws_separation.proofs.Boxes.{rectangle}
use Rattle.laws_separation.proofs.FlatSides.{flat}

-- the two closed half-planes of the line, and the bounding box
abbrev pub segment : Side → Cone
segment d = half_closed (side d.start d.end) ∩ half_closed (side d.end d.start) ∩ rectangle (side_box d)

-- Both ends of a side are points of it.
pub ends-in : (d : Side) → (segment d).Has (at d.start) × (segment d).Has (at d.end)
unfolding side side_box ◌•◌
ends-in d = omega arith

-- ---- its points are averages

-- k times a point is m times one end and n times the other: of the ends and the point one coordinate, then the other
pub record Weighed (a b z a' b' z' w : ℕ) : Type 0 where
  pub k : ℕ
  pub m : ℕ
  pub n : ℕ
  pub first : k * z ≡ m * a + n * b
  pub second : k * z' ≡ m * a' + n * b'
  pub whole : k * w ≡ m + n
  pub some : 0 < k

-- the same with the ends exchanged, or the coordinates
back : {a b z a' b' z' w : ℕ} → Weighed a b z a' b' z' w → Weighed b a z b' a' z' w
back e = record { k = e.k; m = e.n; n = e.m; first = omega arith; second = omega arith; whole = omega arith; some = e.some }

turn : {a b z a' b' z' w : ℕ} → Weighed a b z a' b' z' w → Weighed a' b' z' a b z w
turn e = record { k = e.k; m = e.m; n = e.n; first = e.second; second = e.first; whole = e.whole; some = e.some }

-- a point of the line
abbrev OnLine : (a b z a' b' z' w : ℕ) → Type 0
OnLine a b z a' b' z' w = b * z' + a * b' * w + a' * z ≡ a * z' + b * a' * w + b' * z

weigh : (a b z a' b' z' w k m n : ℕ) → 0 < k → a + k ≡ b → a * w + n ≡ z → z + m ≡ b * w → OnLine a b z a' b' z' w
    → Weighed a b z a' b' z' w
weigh a b z a' b' z' w k m n h u v r e =
    let whole : k * w ≡ m + n = omega (arith, ap (λ t. t * w) u) in
    record {
      k = k;
      m = m;
      n = n;
      first = omega (arith, ap (λ t. t * a) whole, ap (λ t. k * t) v, ap (λ t. n * t) u);
      second =
          omega
          (arith, ap (λ t. t * a') whole, ap (λ t. t * z') u, ap (λ t. t * a' * w) u, ap (λ t. a' * t) v, ap (λ t. b' * t) v);
      whole = whole;
      some = h;
    }

upward : (a b z a' b' z' w : ℕ) → a < b → min a b * w ≤ z → z ≤ max a b * w → OnLine a b z a' b' z' w → Weighed a b z a' b' z' w
upward a b z a' b' z' w h l r e =
    let low : min a b ≡ a = omega arith in
    let high : max a b ≡ b = omega arith in
    let k = le_dest h in
    let n = le_dest (rw low at l) in
    let m = le_dest (rw high at r) in
    weigh a b z a' b' z' w (suc k.0) m.0 n.0 (omega arith) (omega (arith, k.1)) n.1 m.1 e

level : (a b z w : ℕ) → a ≡ b → min a b * w ≤ z → z ≤ max a b * w → z ≡ w * a
level a b z w h l r =
    let low : min a b ≡ a = omega arith in
    let high : max a b ≡ a = omega arith in
    omega (arith, rw low at l, rw high at r)

either_way : (a b z a' b' z' w : ℕ) → min a b * w ≤ z → z ≤ max a b * w → OnLine a b z a' b' z' w
    → (z ≡ w * a) ⊎ Weighed a b z a' b' z' w
either_way a b z a' b' z' w l r e = elim (dec_le b a) [
  | no h ↦ inr (upward a b z a' b' z' w (omega arith) l r e)
  | yes h ↦ elim (dec_le a b) [
    | no i ↦ inr (back (upward b a z b' a' z' w (omega arith) (rw min_comm at l) (rw max_comm at r) (omega arith)))
    | yes i ↦ inl (level a b z w (omega arith) l r)
  ]
]

-- z is such an average of the ends of d
abbrev pub Between : Side → Triple → Type 0
Between d z = Weighed d.start.x d.end.x z.x d.start.y d.end.y z.y z.w

average : (d : Side) (z : Triple) → 0 < z.w → (segment d).Has z → Between d z
unfolding side_box side ◌•◌
average d z above h =
    let p = d.start in
    let q = d.end in
    elim (either_way p.x q.x z.x p.y q.y z.y z.w (omega arith) (omega arith) (omega arith)) [
      | inr e ↦ e
      | inl e ↦ elim (either_way p.y q.y z.y p.x q.x z.x z.w (omega arith) (omega arith) (omega arith)) [
        | inr i ↦ turn i
        | inl i ↦ record { k = 1; m = z.w; n = 0; first = omega arith; second = omega arith; whole = omega arith; some = omega arith }
      ]
    ]

-- ---- forms at its points

mixture : (u : Triple) (d : Side) (z : Triple) (e : Between d z)
    → e.k * (u • z) ≡ e.m * (u • at d.start) + e.n * (u • at d.end)
unfolding ◌•◌
mixture u d z e =
    omega (arith, ap (λ t. u.x * t) e.first, ap (λ t. u.y * t) e.second, ap (λ t. u.w * t) e.whole)

-- A form that is at least zero at both ends of a side is so at each average of them, and so at each point of the side.
pub at-between : (d : Side) (z : Triple) → Between d z
    → (f : Form) → (half_closed f).Has (at d.start) → (half_closed f).Has (at d.end) → (half_closed f).Has z
at-between d z e f p q =
    let l = mixture f.low d z e in
    let r = mixture f.high d z e in
    le_of_mul-le-mul_left {k = e.k} (omega (arith, mul-le-mul_left e.m p, mul-le-mul_left e.n q)) e.some

pub at-point : (d : Side) (z : Triple) → 0 < z.w → (segment d).Has z
    → (f : Form) → (half_closed f).Has (at d.start) → (half_closed f).Has (at d.end) → (half_closed f).Has z
at-point d z above h = at-between d z (average d z above h)

-- A form that is at least zero at a point of a side is so at one of its ends.
pub some_end : (d : Side) (z : Triple) → 0 < z.w → (segment d).Has z
    → (f : Form) → (half_closed f).Has z → SomeCorner (half_closed f) (flat d)
some_end d z above h f i =
    let e = average d z above h in
    let l = mixture f.low d z e in
    let r = mixture f.high d z e in
    one_of_three (dec_le _ _) (dec_le _ _) (dec_le _ _) λ p q o.
    let p : f.high • at d.end < f.low • at d.end = omega arith in
    let q : f.high • at d.start < f.low • at d.start = omega arith in
    omega
    (arith, mul-le-mul_left e.n p, mul-le-mul_left e.m q, mul-le-mul_left e.k i, mul-pos e.some above)
