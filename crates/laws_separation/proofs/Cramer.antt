-- Cramer's rule for a triangle abc and a point z: D(a,b,c) z = D(b,c,z) a + D(c,a,z) b + D(a,b,z) c, one coordinate after
-- the other. Each D is a difference, so the rule is an equation of sums of products of naturals, which comes out by sorting.
-- Assumes nothing.
use mathlib.Core.Path.{◌≡◌}
use Prim.Native.Nat.{ℕ, ◌+◌, ◌*◌}
use native.Mathlib.Nat.{mul-one, add-mul, mul_assoc, mul_comm, mul_left_comm}
use native.Mathlib.Omega.{arith}
use Rattle.spec_plane.specs.Triangle.{Triangle}
use Rattle.laws_separation.proofs.Radon.{Triple}
use Rattle.laws_separation.proofs.Cone.{◌•◌}
use Rattle.laws_separation.proofs.Sides.{side, side-low, side-high, at}

-- D(a,b,c) ζ = D(b,c,z) α + D(c,a,z) β + D(a,b,z) γ, with all that is taken away on the other side
abbrev pub Balanced : Triangle → Triple → (ζ α β γ : ℕ) → Type 0
Balanced t z ζ α β γ =
    let ab = side t.a t.b in
    let bc = side t.b t.c in
    let ca = side t.c t.a in
    ab.high • at t.c * ζ + bc.low • z * α + ca.low • z * β + ab.low • z * γ
    ≡ ab.low • at t.c * ζ + bc.high • z * α + ca.high • z * β + ab.high • z * γ

pub cramer : (t : Triangle) (z : Triple)
    → Balanced t z z.x t.a.x t.b.x t.c.x
    × Balanced t z z.y t.a.y t.b.y t.c.y
    × Balanced t z z.w 1 1 1
cramer t z = simp (side-low, side-high, mul-one, add-mul, mul_assoc, mul_comm, mul_left_comm) (omega arith)
