-- The side of a square and of its quarters as a shift right, as code computes them.
-- Assumes nothing.
use mathlib.Core.Path.{◌≡◌}
use Prim.Native.Nat.{ℕ, suc, ◌+◌, ◌/◌, ◌-◌, ◌^◌, ◌≤◌, ◌<◌}
use native.Mathlib.Omega.{arith}
use lib.Pow.{pow-add, shl-shr}
use Rattle.spec_squares.specs.Square.{depth, side_at}

-- a power of two shifted right is the power of two with that much less in the exponent
power-shift : (m k : ℕ) → 2 ^ (m + k) / 2 ^ k ≡ 2 ^ m
power-shift m k = rw (pow-add, shl-shr)

-- the side of a square
pub shift-side : (level : ℕ) → level ≤ depth → 65536 / 2 ^ level ≡ side_at level
unfolding side_at
shift-side level h =
    let e : depth - level + level ≡ depth = omega arith in
    rw e at (power-shift (depth - level) level)

-- the side of its quarters
pub shift-half : (level : ℕ) → level < depth → 32768 / 2 ^ level ≡ side_at (suc level)
unfolding side_at
shift-half level h =
    let e : depth - suc level + level ≡ 15 = omega arith in
    rw e at (power-shift (depth - suc level) level)
