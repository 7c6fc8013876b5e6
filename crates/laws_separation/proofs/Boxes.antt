-- A closed rectangle with upright sides as four closed half-planes, and its corner at which a form is largest: right or
-- left by the sign of the form's coefficient of x, bottom or top by that of y. A form that is at least zero somewhere in
-- the rectangle is so at that corner.
-- Assumes nothing.
use mathlib.Core.Path.{◌≡◌, refl, ap}
use mathlib.Core.List.{List, [], ◌∷◌}
use mathlib.Core.Logic.{◌⊎◌, inl, inr, ◌↔◌}
use Prim.Native.Nat.{ℕ, ◌+◌, ◌*◌, ◌≤◌, ◌<◌, max}
use native.Mathlib.Decide.{dec_le}
use native.Mathlib.Nat.{le_dest, mul-le-mul_left, le_of_mul-le-mul_left, le_of_mul-le-mul_right}
use native.Mathlib.Omega.{arith}
use lib.Dec.{leb→le, le→leb}
use lib.IntN.{ℤ, pos, negsuc, nat_abs}
use lib.Signed.{◌≤ℤ◌}
use Rattle.spec_plane.specs.declared.Point.{Point}
use Rattle.spec_plane.specs.Point.{FracPoint}
use Rattle.spec_plane.specs.Box.{Box}
use Rattle.laws_separation.proofs.Radon.{Triple}
use Rattle.laws_separation.proofs.Cone.{Cone, Form, Inhabited, ◌∩◌, flip, intersection, half_closed, ◌•◌}
use Rattle.laws_separation.proofs.Sides.{at, fraction}

-- a fractional point lies in a box, its border included
pub record InBox (b : Box) (p : FracPoint) : Type 0 where
  pub from_left : pos (b.left * p.W) ≤ℤ p.X
  pub to_right : p.X ≤ℤ pos (b.right * p.W)
  pub from_top : pos (b.top * p.W) ≤ℤ p.Y
  pub to_bottom : p.Y ≤ℤ pos (b.bottom * p.W)

-- x − l w, r w − x, y − t w and b w − y
abbrev pub from_left : ℕ → Form
from_left l = record { low = record { x = 0; y = 0; w = l }; high = record { x = 1; y = 0; w = 0 } }

abbrev pub to_right : ℕ → Form
to_right r = flip (from_left r)

abbrev pub from_top : ℕ → Form
from_top t = record { low = record { x = 0; y = 0; w = t }; high = record { x = 0; y = 1; w = 0 } }

abbrev pub to_bottom : ℕ → Form
to_bottom b = flip (from_top b)

-- the box as its left half-plane and the three others
abbrev pub others : Box → List Cone
others b = half_closed (to_right b.right) ∷ half_closed (from_top b.top) ∷ half_closed (to_bottom b.bottom) ∷ []

abbrev pub rectangle : Box → Cone
rectangle b = intersection (half_closed (from_left b.left)) (others b)

pub in_box-iff : (b : Box) (z : Triple) → InBox b (fraction z) ↔ (rectangle b).Has z
unfolding ◌•◌
in_box-iff b z = omega (arith, leb→le, le→leb)

natural : {n : ℕ} (z : ℤ) → pos n ≤ℤ z → z ≡ pos (nat_abs z)
natural (pos m) h = refl
natural (negsuc m) h = absurd h.le

-- a point of a box as a triple: its coordinates are not negative
abbrev pub triple_of : FracPoint → Triple
triple_of p = record { x = nat_abs p.X; y = nat_abs p.Y; w = p.W }

pub in_box-fraction : {b : Box} {p : FracPoint} → InBox b p → p ≡ fraction (triple_of p)
in_box-fraction {p = p} h =
    let x = natural p.X h.from_left in let y = natural p.Y h.from_top in λ i. record { X = x i; Y = y i; W = p.W }

-- a box that has points
abbrev pub NotEmpty : Box → Type 0
NotEmpty b = (b.left ≤ b.right) × (b.top ≤ b.bottom)

pub not-empty : (b : Box) (z : Triple) → 0 < z.w → (rectangle b).Has z → NotEmpty b
unfolding ◌•◌
not-empty b z above h = (
  le_of_mul-le-mul_right {k = z.w} (omega arith) above,
  le_of_mul-le-mul_right {k = z.w} (omega arith) above,
)

-- two boxes of which neither is left of the other nor above it
abbrev pub Overlap : Box → Box → Type 0
Overlap b d = (((d.left ≤ b.right) × (b.left ≤ d.right)) × (d.top ≤ b.bottom)) × (b.top ≤ d.bottom)

-- if they have points, they have a common one
pub overlap-meets : (b d : Box) → NotEmpty b → NotEmpty d → Overlap b d → Inhabited (rectangle b ∩ rectangle d)
unfolding ◌•◌
overlap-meets b d h k o = record {
  point = record { x = max b.left d.left; y = max b.top d.top; w = 1 };
  above = omega arith;
  has = omega arith;
}

-- ---- its corners

-- all four corners in a cone
abbrev pub AllCorners : Cone → Box → Type 0
AllCorners c b =
    ((c.Has (at (record { x = b.left; y = b.top })) × c.Has (at (record { x = b.right; y = b.top })))
    × c.Has (at (record { x = b.left; y = b.bottom }))) × c.Has (at (record { x = b.right; y = b.bottom }))

pub corners-more : (c d : Cone) (b : Box) → ((r : Point) → c.Has (at r) → d.Has (at r)) → AllCorners c b → AllCorners d b
corners-more c d b f h = (((f _ h.0.0.0, f _ h.0.0.1), f _ h.0.1), f _ h.1)

pub corners-in : (b : Box) → NotEmpty b → AllCorners (rectangle b) b
unfolding ◌•◌
corners-in b h = omega arith

-- (b − a) (v − u) ≥ 0
cross : {a b u v : ℕ} → a ≤ b → u ≤ v → b * u + a * v ≤ a * u + b * v
cross {a} {b} {u} {v} h k =
    let d = le_dest h in
    omega (arith, mul-le-mul_left d.0 k, ap (λ n. n * u) d.1, ap (λ n. n * v) d.1)

-- the end of lo to hi at which (h − l) x is largest
record End (l h lo hi : ℕ) : Type 0 where
  value : ℕ
  is : (value ≡ lo) ⊎ (value ≡ hi)
  most : (x w : ℕ) → lo * w ≤ x → x ≤ hi * w → h * x + l * (value * w) ≤ l * x + h * (value * w)

end : (l h lo hi : ℕ) → End l h lo hi
end l h lo hi = elim (dec_le l h) [
  | yes k ↦ record { value = hi; is = inr refl; most = λ x w u v. cross k v }
  | no k ↦
      let k' : h ≤ l = omega arith in record { value = lo; is = inl refl; most = λ x w u v. omega (arith, cross k' u) }
]

one_end : {l h lo hi : ℕ} (e : End l h lo hi) (P : ℕ → Type 0) → P lo → P hi → P e.value
one_end e P p q = elim e.is [ inl k ↦ rw k p | inr k ↦ rw k q ]

across : (f : Form) (b : Box) → End f.low.x f.high.x b.left b.right
across f b = end _ _ _ _

along : (f : Form) (b : Box) → End f.low.y f.high.y b.top b.bottom
along f b = end _ _ _ _

-- the corner at which a form is largest
pub largest : Form → Box → Point
largest f b = record { x = (across f b).value; y = (along f b).value }

pub corners-largest : (c : Cone) (f : Form) (b : Box) → AllCorners c b → c.Has (at (largest f b))
unfolding largest
corners-largest c f b h =
    one_end (across f b) (λ x. c.Has (at (record { x = x; y = (along f b).value })))
    (one_end (along f b) (λ y. c.Has (at (record { x = b.left; y = y }))) h.0.0.0 h.0.1)
    (one_end (along f b) (λ y. c.Has (at (record { x = b.right; y = y }))) h.0.0.1 h.1)

pub largest-most : (f : Form) (b : Box) (z : Triple) → (rectangle b).Has z
    → f.high • z + z.w * (f.low • at (largest f b)) ≤ f.low • z + z.w * (f.high • at (largest f b))
unfolding largest ◌•◌
largest-most f b z h =
    let x = (across f b).most z.x z.w (omega arith) (omega arith) in
    let y = (along f b).most z.y z.w (omega arith) (omega arith) in
    omega arith

-- a form that is at least zero somewhere in a box is so at the largest corner
pub at-largest : (b : Box) (z : Triple) → 0 < z.w → (rectangle b).Has z
    → (f : Form) → (half_closed f).Has z → (half_closed f).Has (at (largest f b))
at-largest b z above h f k = le_of_mul-le-mul_left {k = z.w} (omega (arith, largest-most f b z h)) above
