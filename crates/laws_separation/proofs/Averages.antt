-- Forms at an average of a triangle's corners. A form that is at least zero at the corners is so at the average. A form
-- that is at least zero at the average, or above zero, is so at some corner: otherwise a form with the other sign would be
-- at least zero at the corners.
-- Assumes nothing.
use mathlib.Core.Path.{◌≡◌, refl, ap}
use mathlib.Core.Logic.{◌⊎◌, inl, inr}
use Prim.Native.Nat.{ℕ, zero, suc, ◌+◌, ◌*◌, ◌≤◌, ◌<◌}
use native.Mathlib.Decide.{dec_le}
use native.Mathlib.Nat.{le_of_mul-le-mul_left}
use native.Mathlib.Omega.{arith}
use Rattle.spec_plane.specs.Point.{FracPoint}
use Rattle.spec_plane.specs.Triangle.{Triangle, doubled_area}
use Rattle.laws_separation.proofs.Radon.{Triple}
use Rattle.laws_separation.proofs.Cone.{Form, ◌•◌, Mixed, •-mixed, half_from, half_closed}
use Rattle.laws_separation.proofs.Sides.{at, SomeCorner}
use Rattle.laws_separation.proofs.Weights.{Average, times}

times-mixed : (k : ℕ) (z : Triple) → 0 < k → Mixed k 0 0 z z z (times k z)
times-mixed k z h = omega arith

pub at-average : (f : Form) {t : Triangle} {p : FracPoint} (v : Average t p)
    → (half_closed f).Has (at t.a) → (half_closed f).Has (at t.b) → (half_closed f).Has (at t.c)
    → (half_closed f).Has v.point
at-average f {t} v ha hb hc =
    let m = times-mixed (doubled_area t) v.point v.area in
    let k = (half_closed f).mix v.mixed ha hb hc in
    le_of_mul-le-mul_left (omega (arith, •-mixed f.low m, •-mixed f.high m)) v.area

-- (e − 1) w less the form: at least zero at a corner exactly where the form is below e
abbrev below : ℕ → Form → Form
below e f = record {
  low = record { x = f.high.x; y = f.high.y; w = f.high.w + 1 };
  high = record { x = f.low.x; y = f.low.y; w = f.low.w + e };
}

below-low : (e : ℕ) (f : Form) (z : Triple) → (below e f).low • z ≡ f.high • z + z.w
unfolding ◌•◌
below-low e f z = omega arith

below-high : (e : ℕ) (f : Form) (z : Triple) → (below e f).high • z ≡ f.low • z + e * z.w
unfolding ◌•◌
below-high e f z = omega arith

below-corner : (e : ℕ) (f : Form) (z : Triple) → z.w ≡ 1 → ¬ ((half_from e f).Has z) → (half_closed (below e f)).Has z
below-corner e f z h n = omega (arith, below-low e f z, below-high e f z, ap (λ k. e * k) h)

product_small : (e w : ℕ) → e ≤ 1 → 0 < w → e * w < e + w
product_small zero w h k = omega arith
product_small (suc zero) w h k = omega arith
product_small (suc (suc e)) w h k = absurd (omega arith)

pub one_of_three : {A B C : Type 0} → Dec A → Dec B → Dec C → (¬ A → ¬ B → ¬ C → ⊥) → (A ⊎ B) ⊎ C
one_of_three (yes a) e f g = inl (inl a)
one_of_three (no a) (yes b) f g = inl (inr b)
one_of_three (no a) (no b) (yes c) g = inr c
one_of_three (no a) (no b) (no c) g = absurd (g a b c)

-- e is 0 for the closed half-plane and 1 for the open one
pub some-corner : (e : ℕ) → e ≤ 1 → {t : Triangle} {p : FracPoint} (v : Average t p)
    → (f : Form) → (half_from e f).Has v.point → SomeCorner (half_from e f) t
some-corner e small v f h =
    one_of_three (dec_le _ _) (dec_le _ _) (dec_le _ _) λ a b c.
    let corner = below-corner e f in
    let k = at-average (below e f) v (corner _ refl a) (corner _ refl b) (corner _ refl c) in
    omega (arith, below-low e f v.point, below-high e f v.point, product_small e v.point.w small v.above)
