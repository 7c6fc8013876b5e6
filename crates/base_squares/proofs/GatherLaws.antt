-- Coordinate 0 of a key, gathered by whole-word steps, as code computes it; and coordinate 1 is coordinate 0 of half the key.
-- The idea: bits in groups, each followed by as many zeros. Moving every other group down beside the one below it doubles the groups.
-- Assumes nothing.
use mathlib.Core.Path.{◌≡◌, refl, sym, ◌∙◌, ap, ap₂}
use Prim.Native.Nat.{ℕ, zero, suc, ◌+◌, ◌-◌, ◌*◌, ◌/◌, ◌%◌, ◌^◌, ◌<◌}
use native.Mathlib.Nat.{lt_of_lt_of_le, le-add_right, mod-lt, mod-eq_of_lt, mul_assoc, mul-mod_left, add_comm, add-zero, zero-add}
use native.Mathlib.Numerals.{one-add}
use native.Mathlib.Omega.{arith}
use lib.Bits.{bit_and, bit_or, and_block, and_mask, and_zero_r, or_shr, or_mod, or_shifted_r}
use lib.Pow.{pow_pos, pow_mono, pow-add, split, high, low, mod-pow-add, mod-mod-pow, shl-shr, shr-shr, ones_lt}
use Rattle.theory_orthtree.specs.Morton.{key_coordinate}
use Rattle.theory_orthtree.proofs.KeyLaws.{coordinate-bound}
use Rattle.spec_squares.specs.Square.{depth}

-- n groups of w bits of c, from the lowest on, each at the start of 2 w places
unfoldable spaced : ℕ → ℕ → ℕ → ℕ
spaced w zero c = 0
spaced w (suc n) c = spaced w n (c / 2 ^ w) * 2 ^ (w + w) + c % 2 ^ w

-- ones at the places of n such groups
unfoldable mask : ℕ → ℕ → ℕ
mask w zero = 0
mask w (suc n) = mask w n * 2 ^ (w + w) + (2 ^ w - 1)

-- a number with itself moved down by s places, masked
abbrev moved : ℕ → ℕ → ℕ → ℕ
moved s m x = bit_and (bit_or x (x / 2 ^ s)) m

-- a number of s bits is one of 2 s
wider : {a : ℕ} (s : ℕ) → a < 2 ^ s → a < 2 ^ (s + s)
wider s h = lt_of_lt_of_le h (pow_mono (le-add_right s s))

-- a masked number: its lowest 2 w places, and those above
mask-parts : (w n y : ℕ) → bit_and y (mask w (suc n)) ≡ bit_and (y / 2 ^ (w + w)) (mask w n) * 2 ^ (w + w) + y % 2 ^ w
unfolding mask
mask-parts w n y =
    let t = w + w in
    ap (λ z. bit_and z (mask w (suc n))) (sym (split y t))
    ∙ and_block t (y / 2 ^ t) (mask w n) (y % 2 ^ t) (2 ^ w - 1) (mod-lt y (pow_pos t)) (wider w (ones_lt w))
    ∙ ap (λ z. bit_and (y / 2 ^ t) (mask w n) * 2 ^ t + z) (and_mask (y % 2 ^ t) w ∙ mod-mod-pow y w w)

-- a bit and what is above it
half_step : (b c : ℕ) → (b % 2 + 2 * c) / 2 ≡ c
half_step b c = omega arith

low_step : (b c : ℕ) → (b / 1 % 2 + 2 * c) % 2 ≡ b % 2
low_step b c = omega arith

-- the bits at the even places are those of coordinate 0
even-places : (n k : ℕ) → bit_and k (mask 1 n) ≡ spaced 1 n (key_coordinate 2 0 n k)
unfolding spaced mask key_coordinate
even-places zero k = and_zero_r k
even-places (suc n) k =
    mask-parts 1 n k
    ∙ ap₂ (λ a b. a * 4 + b)
    (even-places n (k / 4) ∙ ap (spaced 1 n) (sym (half_step (k / 1) (key_coordinate 2 0 n (k / 4)))))
    (sym (low_step k (key_coordinate 2 0 n (k / 4))))

-- two groups, and what is above them
abbrev two : ℕ → ℕ → ℕ → ℕ → ℕ
two s x b a = (x * 2 ^ (s + s) + b) * 2 ^ (s + s) + a

-- a step by 2 s places is two steps by s
twice : (q s : ℕ) → q * 2 ^ (s + s) ≡ q * 2 ^ s * 2 ^ s
twice q s = ap (λ m. q * m) (pow-add 2 s s) ∙ sym (mul_assoc q (2 ^ s) (2 ^ s))

-- moved down by one group, the upper group comes beside the lower
side_by_side : (s x b a : ℕ) → b < 2 ^ s → a < 2 ^ s → bit_or (two s x b a) (two s x b a / 2 ^ s) % 2 ^ (s + s) ≡ b * 2 ^ s + a
side_by_side s x b a hb ha =
    let q = x * 2 ^ (s + s) + b in
    let down : two s x b a / 2 ^ s ≡ q * 2 ^ s = ap (λ m. (m + a) / 2 ^ s) (twice q s) ∙ high (q * 2 ^ s) s ha in
    let upper : q % 2 ^ s ≡ b = ap (λ m. (m + b) % 2 ^ s) (twice x s) ∙ low (x * 2 ^ s) s hb in
    let shifted : q * 2 ^ s % 2 ^ (s + s) ≡ b * 2 ^ s =
    mod-pow-add (q * 2 ^ s) s s
    ∙ ap₂ (λ m r. m * 2 ^ s + r) (ap (λ m. m % 2 ^ s) (shl-shr q s) ∙ upper) (mul-mod_left q (2 ^ s))
    ∙ add-zero (b * 2 ^ s)
    in
    or_mod (two s x b a) (two s x b a / 2 ^ s) (s + s)
    ∙ ap₂ bit_or (low q (s + s) (wider s ha)) (ap (λ m. m % 2 ^ (s + s)) down ∙ shifted)
    ∙ or_shifted_r b s a ha

-- and what is above them is moved in the same way
above : (s x b a : ℕ) → b < 2 ^ s → a < 2 ^ s
    → bit_or (two s x b a) (two s x b a / 2 ^ s) / 2 ^ (s + s + (s + s)) ≡ bit_or x (x / 2 ^ s)
above s x b a hb ha =
    let t = s + s in
    let y = two s x b a in
    let up : y / 2 ^ (t + t) ≡ x =
    sym (shr-shr y t t) ∙ ap (λ m. m / 2 ^ t) (high (x * 2 ^ t + b) t (wider s ha)) ∙ high x t (wider s hb)
    in
    or_shr y (y / 2 ^ s) (t + t)
    ∙ ap₂ bit_or up (shr-shr y s (t + t) ∙ ap (λ m. y / 2 ^ m) (add_comm s (t + t)) ∙ sym (shr-shr y (t + t) s) ∙ ap (λ m. m / 2 ^ s) up)

-- one step makes groups of 2 s bits of twice as many groups of s
step : (s n c : ℕ) {x : ℕ} → x ≡ spaced s (n + n) c → moved s (mask (s + s) n) x ≡ spaced (s + s) n c
unfolding spaced mask
step s zero c {x} e = and_zero_r (bit_or x (x / 2 ^ s))
step s (suc n) c {x} e =
    let t = s + s in
    let a = c % 2 ^ s in
    let b = c / 2 ^ s % 2 ^ s in
    let rest = c / 2 ^ s / 2 ^ s in
    let x' = spaced s (n + n) rest in
    let ha = mod-lt c (pow_pos s) in
    let hb = mod-lt (c / 2 ^ s) (pow_pos s) in
    let count : suc n + suc n ≡ suc (suc (n + n)) = omega arith in
    let whole : x ≡ two s x' b a = e ∙ ap (λ m. spaced s m c) count in
    ap (moved s (mask t (suc n))) whole
    ∙ mask-parts t n (bit_or (two s x' b a) (two s x' b a / 2 ^ s))
    ∙ ap₂ (λ p q. p * 2 ^ (t + t) + q)
    (ap (λ m. bit_and m (mask t n)) (above s x' b a hb ha) ∙ step s n rest refl ∙ ap (spaced t n) (shr-shr c s s))
    (side_by_side s x' b a hb ha ∙ sym (mod-pow-add c s s))

-- the steps of the code
pub gathers : (k : ℕ)
    → moved 8 65535 (moved 4 16711935 (moved 2 252645135 (moved 1 858993459 (bit_and k 1431655765)))) ≡ key_coordinate 2 0 depth k
unfolding spaced mask
gathers k =
    let c = key_coordinate 2 0 depth k in
    step 8 1 c (step 4 2 c (step 2 4 c (step 1 8 c (even-places 16 k))))
    ∙ zero-add (c % 65536)
    ∙ mod-eq_of_lt (coordinate-bound 2 0 depth k)

-- a coordinate of a key is the one before it of half the key
pub coordinate-half : (d j n k : ℕ) → key_coordinate d (suc j) n k ≡ key_coordinate d j n (k / 2)
unfolding key_coordinate
coordinate-half d j zero k = refl
coordinate-half d j (suc n) k =
    let lowest : k / 2 ^ suc j ≡ k / 2 / 2 ^ j = ap (λ m. k / 2 ^ m) (sym (one-add j)) ∙ sym (shr-shr k 1 j) in
    let rest : k / 2 ^ d / 2 ≡ k / 2 / 2 ^ d = shr-shr k d 1 ∙ ap (λ m. k / 2 ^ m) (add_comm d 1) ∙ sym (shr-shr k 1 d) in
    ap₂ (λ a b. a % 2 + 2 * b) lowest (coordinate-half d j n (k / 2 ^ d) ∙ ap (key_coordinate d j n) rest)
