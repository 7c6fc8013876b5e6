-- The quarters of a square by their numbers, as code computes them.
-- Assumes nothing.
use mathlib.Core.Path.{◌≡◌}
use Prim.Native.Nat.{ℕ, zero, suc, ◌+◌, ◌*◌, ◌/◌, ◌%◌, ◌<◌}
use native.Mathlib.Nat.{add-zero, zero-mul, one-mul}
use native.Mathlib.Numerals.{add-one}
use native.Mathlib.Omega.{arith}
use lib.ListN.{get_or}
use Rattle.spec_squares.specs.declared.Square.{Square}
use Rattle.spec_squares.specs.Square.{arity, side_at, top_left, top_right, bottom_left, bottom_right, quarters}

-- the lowest bit of the number says right, and the other one down
pub quarter-is : (s : Square) (k : ℕ) → k < arity
    → record { x = s.x + k % 2 * side_at (suc s.level); y = s.y + k / 2 * side_at (suc s.level); level = s.level + 1 } ≡ get_or (quarters s) k s
unfolding quarters top_left top_right bottom_left bottom_right
quarter-is s zero h = simp (zero-mul, add-zero, add-one)
quarter-is s (suc zero) h = simp (zero-mul, one-mul, add-zero, add-one)
quarter-is s (suc (suc zero)) h = simp (zero-mul, one-mul, add-zero, add-one)
quarter-is s (suc (suc (suc zero))) h = simp (one-mul, add-one)
quarter-is s (suc (suc (suc (suc k)))) h = absurd (omega arith)
