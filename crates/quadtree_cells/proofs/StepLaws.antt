-- Keys of squares, and the step from a quarter's key to the next one's.
-- Assumes nothing.
use mathlib.Core.Path.{◌≡◌, refl}
use Prim.Native.Nat.{ℕ, zero, suc, ◌*◌, ◌-◌, ◌/◌, ◌^◌, ◌≤◌, ◌<◌}
use native.Mathlib.Nat.{pow-succ', mul-le-mul}
use native.Mathlib.Omega.{arith}
use lib.Pow.{pow_mono}
use Rattle.theory_orthtree.specs.Entries.{span}
use Rattle.spec_squares.specs.declared.Square.{Square}
use Rattle.spec_squares.specs.Square.{arity, depth, side_at, square_key}
use Rattle.spec_squares.proofs.SideLaws.{shift-half}
use Rattle.spec_squares.proofs.ZOrderLaws.{z_order-bound}

squared : (m : ℕ) → 2 ^ m * 2 ^ m ≡ 4 ^ m
squared zero = refl
squared (suc m) = rw (pow-succ' 2 m, pow-succ' 4 m, ← squared m) (omega arith)

pub key-step-is : (level : ℕ) → level < depth → (32768 / 2 ^ level * (32768 / 2 ^ level) ≡ span arity depth (suc level)) × (32768 / 2 ^ level * (32768 / 2 ^ level) ≤ arity ^ (depth - 1))
unfolding span side_at
key-step-is level h =
    let e = shift-half level h in
    let b : 2 ^ (16 - suc level) ≤ 2 ^ 15 = pow_mono {i = 16 - suc level} {j = 15} (omega arith) in
    (rw e (squared (16 - suc level)), rw e (mul-le-mul {n₂ = 32768} {m₂ = 32768} b b))

pub key-small : (s : Square) → square_key s < 4294967296
unfolding square_key
key-small s = z_order-bound (record { x = s.x; y = s.y })
