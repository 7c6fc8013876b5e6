-- Z-order by bytes: a key of two coordinates from keys of one, and a key of 16 bits from two of 8, as code computes it.
-- Assumes nothing.
use mathlib.Core.Path.{◌≡◌, refl}
use mathlib.Core.List.{[], ◌∷◌, map}
use Prim.Native.Nat.{ℕ, zero, suc, ◌+◌, ◌*◌, ◌/◌, ◌%◌, ◌^◌, ◌≤◌, ◌<◌}
use native.Mathlib.Numerals.{add-one}
use native.Mathlib.Omega.{arith}
use lib.Bits.{bit_and, bit_or}
use lib.Pow.{mod-mod-pow, field}
use Rattle.theory_lists.specs.Lists.{count_from}
use Rattle.theory_orthtree.specs.Morton.{lowest_bits, morton_key}
use Rattle.theory_orthtree.proofs.MortonLaws.{morton-bound, morton-split}
use Rattle.spec_plane.specs.declared.Point.{Point}
use Rattle.spec_squares.specs.Square.{z_order}
use Rattle.read_cells.proofs.Cases.{agree-below}

-- the key of a point from those of its coordinates, each with a coordinate 0 below it
pub morton-weave : (n x y : ℕ) → morton_key n (x ∷ y ∷ []) ≡ morton_key n (x ∷ 0 ∷ []) + 2 * morton_key n (y ∷ 0 ∷ [])
unfolding morton_key lowest_bits
morton-weave zero x y = refl
morton-weave (suc n) x y = let h = morton-weave n (x / 2) (y / 2) in omega arith

-- a key of n bits is that of the lowest n bits
pub morton-low : (n x y : ℕ) → morton_key n (x % 2 ^ n ∷ y % 2 ^ n ∷ []) ≡ morton_key n (x ∷ y ∷ [])
unfolding morton_key lowest_bits
morton-low zero x y = refl
morton-low (suc n) x y =
    rw (← add-one n, mod-mod-pow x n 1, mod-mod-pow y n 1, field x n 1, field y n 1, morton-low n (x / 2) (y / 2))

-- the bits of a byte, spread, are at most 0101 0101 0101 0101
pub spread-bound : (x : ℕ) → morton_key 8 (x ∷ 0 ∷ []) ≤ 21845
spread-bound x = omega (arith, morton-weave 8 x x, morton-bound 8 (x ∷ x ∷ []))

-- a number or itself moved up, masked
abbrev moved : ℕ → ℕ → ℕ → ℕ
moved factor mask n = bit_and (bit_or n (n * factor % 4294967296)) mask

-- a byte, first with its upper four bits moved, then the upper two of each four, then the upper one of each two
abbrev spread_byte : ℕ → ℕ
spread_byte n = moved 2 21845 (moved 4 13107 (moved 16 3855 n))

all-bytes : map spread_byte (count_from 0 256) ≡ map (λ n. morton_key 8 (n ∷ 0 ∷ [])) (count_from 0 256)
unfolding count_from morton_key lowest_bits
all-bytes = refl

pub spread-byte : (n : ℕ) → n < 256 → spread_byte n ≡ morton_key 8 (n ∷ 0 ∷ [])
spread-byte n h = agree-below spread_byte (λ n. morton_key 8 (n ∷ 0 ∷ [])) 256 all-bytes n h

-- Z of a point from its low bytes and its high bytes
pub z_order-bytes : (p : Point) → morton_key 8 (p.x % 256 ∷ p.y % 256 ∷ []) + 65536 * morton_key 8 (p.x / 256 ∷ p.y / 256 ∷ []) ≡ z_order p
unfolding z_order
z_order-bytes p = rw (morton-low 8 p.x p.y, morton-split 8 8 (p.x ∷ p.y ∷ []))
