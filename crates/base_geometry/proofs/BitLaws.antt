-- Numbers that are joined by "or" or by "xor": when the result is 0.
-- The idea: "or" and "and" add up to the sum of the two, and so do "xor" and twice "and".
-- Assumes nothing.
use mathlib.Core.Path.{◌≡◌, sym, ◌∙◌, ap}
use mathlib.Core.Bool.{◌&&◌}
use Prim.Native.Nat.{ℕ}
use native.Mathlib.Omega.{arith}
use lib.Bits.{bit_or, bit_xor, and_le_l, and_le_r, or_add_and, xor_add_and, xor_self}
use lib.Dec.{eqb}
use Rattle.theory_lists.proofs.Reflects.{reflects-and, reflects-eqb, reflects-iff}
use Rattle.theory_lists.proofs.IndexLaws.{reflects-same}

-- "or" is 0 when both are
pub or-zero : (a b : ℕ) → eqb (bit_or a b) 0 ≡ eqb a 0 && eqb b 0
or-zero a b =
    reflects-same (reflects-eqb (bit_or a b) 0)
    (reflects-iff to from (reflects-and (reflects-eqb a 0) (reflects-eqb b 0)))
  where
    to : (a ≡ 0) × (b ≡ 0) → bit_or a b ≡ 0
    to p = omega (arith, or_add_and a b)

    from : bit_or a b ≡ 0 → (a ≡ 0) × (b ≡ 0)
    from e = (omega (arith, or_add_and a b, and_le_l a b, and_le_r a b), omega (arith, or_add_and a b, and_le_l a b, and_le_r a b))

-- "xor" is 0 when the two are equal
pub xor-zero : (a b : ℕ) → eqb (bit_xor a b) 0 ≡ eqb a b
xor-zero a b = reflects-same (reflects-eqb (bit_xor a b) 0) (reflects-iff to from (reflects-eqb a b))
  where
    to : a ≡ b → bit_xor a b ≡ 0
    to e = ap (bit_xor a) (sym e) ∙ xor_self a

    from : bit_xor a b ≡ 0 → a ≡ b
    from e = omega (arith, xor_add_and a b, and_le_l a b, and_le_r a b)
