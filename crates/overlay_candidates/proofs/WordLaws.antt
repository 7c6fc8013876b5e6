-- The bits of a word from the lowest on: the word is shifted past its lowest bit, again and again.
-- Assumes nothing.
use mathlib.Core.Path.{◌≡◌, refl, sym, ◌∙◌, ap}
use mathlib.Core.Bool.{true, false}
use Prim.Native.Nat.{ℕ, zero, suc, ◌+◌, ◌*◌, ◌-◌, ◌/◌, ◌%◌, ◌^◌, ◌<◌}
use native.Mathlib.Nat.{pow-suc, div-eq_of_lt, zero-div, lt_of_lt_of_le}
use native.Mathlib.Decide.{dec_le}
use native.Mathlib.Omega.{arith}
use lib.Count.{count_trailing_zeros, under}
use lib.Dec.{eqb}
use lib.Pow.{pow-add, pow_mono, shl-shr, shr-shr}
use Rattle.overlay_marks.specs.Bits.{word_bit}

-- bit t is the lowest of a word
pub record Lowest (w t : ℕ) : Type 0 where
  pub rest : ℕ
  pub split : w ≡ (2 * rest + 1) * 2 ^ t

twice : (w r p : ℕ) → w % 2 ≡ 0 → w / 2 ≡ (2 * r + 1) * p → w ≡ (2 * r + 1) * (p * 2)
twice w r p e f = omega (arith, go (w / 2) f)
  where
    go : (h : ℕ) → h ≡ (2 * r + 1) * p → 2 * h ≡ (2 * r + 1) * (p * 2)
    go h g = omega arith

-- the lowest bit of a word that is not 0
pub trailing-lowest : (k w : ℕ) → 0 < w → w < 2 ^ k → Lowest w (count_trailing_zeros k w)
unfolding count_trailing_zeros
trailing-lowest zero w p h = absurd (omega arith)
trailing-lowest (suc k) w p h = go (w % 2) refl (λ e. trailing-lowest k (w / 2) (omega arith) (omega (arith, pow-suc 2 k)))
  where
    go : (d : ℕ) → w % 2 ≡ d → (w % 2 ≡ 0 → Lowest (w / 2) (count_trailing_zeros k (w / 2))) → Lowest w (under d (count_trailing_zeros k (w / 2)))
    go zero e r =
        let l = r e in
        record { rest = l.rest; split = rw (pow-suc 2 (count_trailing_zeros k (w / 2))) (twice w l.rest (2 ^ count_trailing_zeros k (w / 2)) e l.split) }
    go (suc d) e r = record { rest = w / 2; split = omega arith }

-- a power of two in two parts, with one factor between them
power-parts : (r d k : ℕ) → r * 2 ^ (d + suc k) ≡ r * 2 ^ d * 2 * 2 ^ k
power-parts r d k = ap (λ x. r * x) (pow-add 2 d (suc k) ∙ ap (λ x. 2 ^ d * x) (pow-suc 2 k)) ∙ go (2 ^ d) (2 ^ k)
  where
    go : (x y : ℕ) → r * (x * (y * 2)) ≡ r * x * 2 * y
    go x y = omega arith

even : (x y : ℕ) → y ≡ x * 2 → eqb (y % 2) 1 ≡ false
even x y e = let z : y % 2 ≡ 0 = omega arith in rw z

odd : (x y : ℕ) → y ≡ 2 * x + 1 → eqb (y % 2) 1 ≡ true
odd x y e = let z : y % 2 ≡ 1 = omega arith in rw z

-- a word shifted by p is w, whose lowest bit is t
module _ (word p w t : ℕ) (e : w ≡ word / 2 ^ p) (l : Lowest w t) where
  shifted : (k : ℕ) → word / 2 ^ (p + k) ≡ w / 2 ^ k
  shifted k = sym (shr-shr word p k) ∙ ap (λ x. x / 2 ^ k) (sym e)

  -- no bit lies before it
  pub bits-before : (k : ℕ) → k < t → word_bit word (p + k) ≡ false
  unfolding word_bit
  bits-before k h = even ((2 * l.rest + 1) * 2 ^ (t - suc k)) (word / 2 ^ (p + k)) (shifted k ∙ ap (λ x. x / 2 ^ k) whole ∙ shl-shr _ k)
    where
      whole : w ≡ (2 * l.rest + 1) * 2 ^ (t - suc k) * 2 * 2 ^ k
      whole = l.split ∙ ap (λ x. (2 * l.rest + 1) * 2 ^ x) (omega arith) ∙ power-parts (2 * l.rest + 1) (t - suc k) k

  -- it is a bit of the word
  pub bit-there : word_bit word (p + t) ≡ true
  unfolding word_bit
  bit-there = odd l.rest (word / 2 ^ (p + t)) (shifted t ∙ ap (λ x. x / 2 ^ t) l.split ∙ shl-shr _ t)

  -- so it lies within the word
  pub bit-within : (n : ℕ) → word < 2 ^ n → p + t < n
  bit-within n h =
      elim (dec_le n (p + t)) [
        | yes g ↦ absurd (omega (arith, shifted t ∙ ap (λ x. x / 2 ^ t) l.split ∙ shl-shr (2 * l.rest + 1) t, div-eq_of_lt (lt_of_lt_of_le h (pow_mono g))))
        | no g ↦ omega arith
      ]

  -- the word shifted past it
  pub bits-after : w / 2 ^ t / 2 ≡ word / 2 ^ (p + t + 1)
  bits-after = shr-shr w t 1 ∙ sym (shifted (t + 1)) ∙ ap (λ x. word / 2 ^ x) (omega arith)

-- where nothing is left, there are no more bits
pub bits_none : (word p k : ℕ) → 0 ≡ word / 2 ^ p → word_bit word (p + k) ≡ false
unfolding word_bit
bits_none word p k e =
    ap (λ x. eqb (x % 2) 1) (sym (shr-shr word p k) ∙ ap (λ x. x / 2 ^ k) (sym e) ∙ zero-div (2 ^ k))
