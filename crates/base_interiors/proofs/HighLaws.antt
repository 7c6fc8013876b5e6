-- Numbers that say something by being 2^40 or more, joined by "or" and by "and".
-- Assumes nothing.
use mathlib.Core.Path.{◌≡◌, ◌∙◌, ap₂}
use mathlib.Core.Bool.{◌&&◌, ◌||◌}
use mathlib.Core.Logic.{◌⊎◌, inl, inr}
use Prim.Native.Nat.{ℕ, ◌+◌, ◌*◌, ◌-◌, ◌^◌, ◌≤◌, ◌<◌}
use native.Mathlib.Omega.{arith}
use lib.Bits.{bit_and, bit_or, and_le_l, and_le_r, or_lt, or_add_and, and_block}
use lib.Dec.{leb}
use native.Mathlib.Decide.{dec_le}
use Rattle.theory_lists.proofs.Reflects.{reflects-leb, reflects-and, reflects-or, reflects-iff}
use Rattle.theory_lists.proofs.IndexLaws.{reflects-same}
use Rattle.base_interiors.specs.Differences.{high, twice_high}

-- "or" is high where one of the two is
pub or-high : (a b : ℕ) → leb high (bit_or a b) ≡ leb high a || leb high b
or-high a b =
    reflects-same (reflects-leb high (bit_or a b)) (reflects-iff to from (reflects-or (reflects-leb high a) (reflects-leb high b)))
  where
    to : (high ≤ a) ⊎ (high ≤ b) → high ≤ bit_or a b
    to (inl h) = omega (arith, or_add_and a b, and_le_r a b)
    to (inr h) = omega (arith, or_add_and a b, and_le_l a b)

    from : high ≤ bit_or a b → (high ≤ a) ⊎ (high ≤ b)
    from h = elim (dec_le high a) [
      | yes p ↦ inl p
      | no p ↦ elim (dec_le high b) [
        | yes q ↦ inr q
        | no q ↦ absurd (let l : bit_or a b < 2 ^ 40 = or_lt 40 a b (omega arith) (omega arith) in omega arith)
      ]
    ]

-- "and" is high where both are, of numbers of at most 41 bits
pub and_high : (a b : ℕ) → a < twice_high → b < twice_high → leb high (bit_and a b) ≡ leb high a && leb high b
and_high a b la lb =
    reflects-same (reflects-leb high (bit_and a b)) (reflects-iff to from (reflects-and (reflects-leb high a) (reflects-leb high b)))
  where
    to : (high ≤ a) × (high ≤ b) → high ≤ bit_and a b
    to h =
        let e : a ≡ 1 * 2 ^ 40 + (a - high) = omega (arith, h.0) in
        let f : b ≡ 1 * 2 ^ 40 + (b - high) = omega (arith, h.1) in
        let g : bit_and a b ≡ bit_and 1 1 * 2 ^ 40 + bit_and (a - high) (b - high) =
        ap₂ bit_and e f ∙ and_block 40 1 1 (a - high) (b - high) (omega (arith, h.0)) (omega (arith, h.1)) in
        omega (arith, g)

    from : high ≤ bit_and a b → (high ≤ a) × (high ≤ b)
    from h = (omega (arith, and_le_l a b), omega (arith, and_le_r a b))
