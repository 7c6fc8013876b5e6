-- Laws of D, `orient`, and of the same formula at a fractional point, `orient_at`. D(p,q,r) is the difference of two sums
-- of three products each, `orient_high` − `orient_low`; so its sign is the order of these two sums, which code and proofs
-- compare instead. Each law follows the integer formula by `Diff` and leaves an equation of sums of products.
-- Assumes nothing.
use mathlib.Core.Path.{◌≡◌}
use Prim.Native.Nat.{ℕ, ◌+◌, ◌*◌}
use native.Mathlib.Omega.{arith}
use lib.Dec.{ltb, leb}
use lib.IntN.{pos, neg_ℤ}
use lib.Signed.{lt_z, le_z}
use Rattle.spec_plane.specs.declared.Point.{Point}
use Rattle.spec_plane.specs.Point.{orient, orient_at, whole, FracPoint}
use Rattle.spec_plane.proofs.Difference.{Diff, diff, diff-pos, diff-neg, diff-sub, diff-mul, diff-shift, diff-unique, diff-above, diff-nonneg}

-- what D(p,q,r) takes away, and what it takes it from
abbrev pub orient_low : Point → Point → Point → ℕ
orient_low p q r = q.x * p.y + p.x * r.y + q.y * r.x

abbrev pub orient_high : Point → Point → Point → ℕ
orient_high p q r = q.x * r.y + q.y * p.x + p.y * r.x

pub orient-difference : (p q r : Point) → Diff (orient p q r) (orient_high p q r) (orient_low p q r)
unfolding orient
orient-difference p q r =
    diff-shift _ _
    (diff-sub (diff-mul (diff q.x p.x) (diff r.y p.y)) (diff-mul (diff q.y p.y) (diff r.x p.x)))
    (omega arith)

-- D > 0 and D ≥ 0 as tests of the two sums
pub orient-positive : (p q r : Point) → lt_z (pos 0) (orient p q r) ≡ ltb (orient_low p q r) (orient_high p q r)
orient-positive p q r = diff-above (orient-difference p q r)

pub orient-nonneg : (p q r : Point) → le_z (pos 0) (orient p q r) ≡ leb (orient_low p q r) (orient_high p q r)
orient-nonneg p q r = diff-nonneg (orient-difference p q r)

-- D does not change where the three points are rotated, and changes its sign where two are swapped
pub orient-rotate : (p q r : Point) → orient p q r ≡ orient q r p
orient-rotate p q r = diff-unique (orient-difference p q r) (diff-shift _ _ (orient-difference q r p) (omega arith))

pub orient-swap : (p q r : Point) → orient q p r ≡ neg_ℤ (orient p q r)
orient-swap p q r =
    diff-unique (orient-difference q p r) (diff-shift _ _ (diff-neg (orient-difference p q r)) (omega arith))

-- at a fractional point (X/W, Y/W), with X and Y as differences
pub orient_at-difference : (p q : Point) (r : FracPoint) {xh xl yh yl : ℕ} → Diff r.X xh xl → Diff r.Y yh yl
    → Diff (orient_at p q r) (p.y * xh + q.x * yh + q.y * p.x * r.W + (q.y * xl + p.x * yl))
    (q.y * xh + p.x * yh + q.x * p.y * r.W + (p.y * xl + q.x * yl))
unfolding orient_at
orient_at-difference p q r dx dy =
    diff-shift _ _
    (diff-sub (diff-mul (diff q.x p.x) (diff-sub dy (diff-pos (r.W * p.y))))
    (diff-mul (diff q.y p.y) (diff-sub dx (diff-pos (r.W * p.x)))))
    (omega arith)

-- at a grid point it is D
pub orient_at-whole : (p q r : Point) → orient_at p q (whole r) ≡ orient p q r
unfolding whole
orient_at-whole p q r =
    diff-unique (orient_at-difference p q (whole r) (diff-pos r.x) (diff-pos r.y))
    (diff-shift _ _ (orient-difference p q r) (omega arith))
