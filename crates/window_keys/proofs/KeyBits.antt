-- Bits of keys are bits of the coordinates: "and" and "or" of two keys are the keys of "and" and "or" of their coordinates, and keys of one
-- coordinate are ordered as it is.
-- Assumes nothing.
use mathlib.Core.Path.{◌≡◌, refl, sym, ◌∙◌, ap, ap₂}
use mathlib.Core.List.{[], ◌∷◌}
use Prim.Native.Nat.{ℕ, zero, suc, ◌+◌, ◌*◌, ◌/◌, ◌%◌, ◌^◌, ◌≤◌, ◌<◌}
use native.Mathlib.Decide.{dec_le}
use native.Mathlib.Omega.{arith}
use lib.Bits.{bit_and, bit_or, and_block, or_block, and_mod, or_mod, and_shr, or_shr}
use Rattle.theory_orthtree.specs.Morton.{lowest_bits, morton_key}
use Rattle.read_cells.proofs.SpreadLaws.{morton-weave}

-- an operation on bits goes digit by digit
record Bitwise (op : ℕ → ℕ → ℕ) : Type 0 where
  zeros : op 0 0 ≡ 0
  block : (k a b r s : ℕ) → r < 2 ^ k → s < 2 ^ k → op (a * 2 ^ k + r) (b * 2 ^ k + s) ≡ op a b * 2 ^ k + op r s
  low : (a b k : ℕ) → op a b % 2 ^ k ≡ op (a % 2 ^ k) (b % 2 ^ k)
  rest : (a b k : ℕ) → op a b / 2 ^ k ≡ op (a / 2 ^ k) (b / 2 ^ k)

and-bitwise : Bitwise bit_and
and-bitwise = record { zeros = refl; block = and_block; low = and_mod; rest = and_shr }

or-bitwise : Bitwise bit_or
or-bitwise = record { zeros = refl; block = or_block; low = or_mod; rest = or_shr }

-- a key of two coordinates: the key of their halves, then a bit of each
two-bits : (n x y : ℕ) → morton_key (suc n) (x ∷ y ∷ []) ≡ morton_key n (x / 2 ∷ y / 2 ∷ []) * 2 ^ 2 + (y % 2 * 2 ^ 1 + x % 2)
unfolding morton_key lowest_bits
two-bits n x y = omega arith

module _ {op : ℕ → ℕ → ℕ} (bw : Bitwise op) where
  key-by : (n x y u v : ℕ) → op (morton_key n (x ∷ y ∷ [])) (morton_key n (u ∷ v ∷ [])) ≡ morton_key n (op x u ∷ op y v ∷ [])
  unfolding morton_key
  key-by zero x y u v = bw.zeros
  key-by (suc n) x y u v =
      let halves : morton_key n (op (x / 2) (u / 2) ∷ op (y / 2) (v / 2) ∷ []) ≡ morton_key n (op x u / 2 ∷ op y v / 2 ∷ []) =
      ap₂ (λ a b. morton_key n (a ∷ b ∷ [])) (sym (bw.rest x u 1)) (sym (bw.rest y v 1))
      in
      ap₂ op (two-bits n x y) (two-bits n u v)
      ∙ bw.block 2 (morton_key n (x / 2 ∷ y / 2 ∷ [])) (morton_key n (u / 2 ∷ v / 2 ∷ [])) (y % 2 * 2 ^ 1 + x % 2) (v % 2 * 2 ^ 1 + u % 2) (omega arith) (omega arith)
      ∙ ap₂ (λ a b. a * 2 ^ 2 + b) (key-by n (x / 2) (y / 2) (u / 2) (v / 2) ∙ halves)
      (bw.block 1 (y % 2) (v % 2) (x % 2) (u % 2) (omega arith) (omega arith) ∙ ap₂ (λ a b. a * 2 ^ 1 + b) (sym (bw.low y v 1)) (sym (bw.low x u 1)))
      ∙ sym (two-bits n (op x u) (op y v))

pub key-and : (n x y u v : ℕ) → bit_and (morton_key n (x ∷ y ∷ [])) (morton_key n (u ∷ v ∷ [])) ≡ morton_key n (bit_and x u ∷ bit_and y v ∷ [])
key-and = key-by and-bitwise

pub key-or : (n x y u v : ℕ) → bit_or (morton_key n (x ∷ y ∷ [])) (morton_key n (u ∷ v ∷ [])) ≡ morton_key n (bit_or x u ∷ bit_or y v ∷ [])
key-or = key-by or-bitwise

-- ---- order

step-order : (a b p q : ℕ) → a < b → (a / 2 < b / 2 → p < q) → (a / 2 ≡ b / 2 → p ≡ q) → a % 2 + 4 * p < b % 2 + 4 * q
step-order a b p q h f g = elim (dec_le (suc (a / 2)) (b / 2)) [
  | yes l ↦ let k = f l in omega arith
  | no l ↦ let k = g (omega arith) in omega arith
]

across-rises : (n a b : ℕ) → a < b → b < 2 ^ n → morton_key n (a ∷ 0 ∷ []) < morton_key n (b ∷ 0 ∷ [])
unfolding morton_key lowest_bits
across-rises zero a b h l = absurd (omega arith)
across-rises (suc n) a b h l =
    let s =
    step-order a b (morton_key n (a / 2 ∷ 0 ∷ [])) (morton_key n (b / 2 ∷ 0 ∷ [])) h (λ k. across-rises n (a / 2) (b / 2) k (omega arith))
    (λ e. ap (λ c. morton_key n (c ∷ 0 ∷ [])) e)
    in
    omega arith

-- a key of x alone does not fall where x does not
pub across-mono : (n a b : ℕ) → a ≤ b → b < 2 ^ n → morton_key n (a ∷ 0 ∷ []) ≤ morton_key n (b ∷ 0 ∷ [])
across-mono n a b h l = elim (dec_le (suc a) b) [
  | yes k ↦ let s = across-rises n a b k l in omega arith
  | no k ↦ let e : a ≡ b = omega arith in rw e (omega arith)
]

-- nor does one of y alone, which is twice that of x
pub down-mono : (n a b : ℕ) → a ≤ b → b < 2 ^ n → morton_key n (0 ∷ a ∷ []) ≤ morton_key n (0 ∷ b ∷ [])
down-mono n a b h l = omega (arith, morton-weave n 0 a, morton-weave n 0 b, across-mono n a b h l)
