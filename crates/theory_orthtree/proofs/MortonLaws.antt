-- Morton keys as numbers in base 2 ^ d, where d is the number of coordinates: a digit holds one bit of each coordinate.
-- The idea: the lowest m digits of a key depend on the lowest m bits of the coordinates, and what is left when they are cut
-- off is the key of the coordinates with m bits cut off (`morton-split`, by induction on m). The other laws follow from it.
-- Assumes nothing.
use mathlib.Core.Path.{◌≡◌, refl, sym, ◌∙◌, ap, ap₂}
use mathlib.Core.List.{List, [], ◌∷◌, map, map-map, map-id, head-eq_of_cons-eq, tail-eq_of_cons-eq}
use Prim.Native.Nat.{ℕ, zero, suc, ◌+◌, ◌*◌, ◌-◌, ◌/◌, ◌%◌, ◌^◌, ◌<◌}
use native.Mathlib.Nat.{zero-add, suc-add, one-mul, mul-zero, mul-suc, pow-zero, pow-suc, pow-succ', mul-le-mul_left, div-one, zero-div, div-div-eq-div-mul, add-mul-div_left, div-eq_of_lt, add-mul-mod_self_left, mod-eq_of_lt}
use native.Mathlib.Omega.{arith}
use lib.Pow.{pow-add}
use lib.ListN.{get_or-map, length, get_or, length-map}
use Rattle.theory_lists.proofs.ListsLaws.{Every, every-uncons}
use Rattle.theory_lists.proofs.EveryLaws.{every-imp, every_map}
use Rattle.theory_orthtree.specs.Morton.{lowest_bits, morton_key}

-- the coordinates with their lowest m bits cut off
abbrev pub cut : ℕ → List ℕ → List ℕ
cut m cs = map (λ c. c / 2 ^ m) cs

-- a digit is below its base
lowest-bound : (cs : List ℕ) → lowest_bits cs < 2 ^ length cs
unfolding lowest_bits
lowest-bound [] = omega arith
lowest-bound (c ∷ cs) = let h = lowest-bound cs in rw pow-suc (omega arith)

-- one digit more in front
digits_more : (l k a b : ℕ) → l < a → k < b → l + a * k < b * a
digits_more l k a b h g = omega (arith, mul-le-mul_left a g)

-- a key of n digits is below the n-th power of its base
pub morton-bound : (n : ℕ) (cs : List ℕ) → morton_key n cs < (2 ^ length cs) ^ n
unfolding morton_key
morton-bound zero cs = rw pow-zero (omega arith)
morton-bound (suc n) cs =
    let h = simp length-map at (morton-bound n (map (λ c. c / 2) cs)) in
    rw pow-suc (digits_more _ _ _ _ (lowest-bound cs) h)

-- cutting off one bit and then m is cutting off one more than m
halves-shift : (m : ℕ) (cs : List ℕ) → map (λ c. c / 2 ^ m) (map (λ c. c / 2) cs) ≡ map (λ c. c / 2 ^ suc m) cs
halves-shift m cs = simp (map-map, div-div-eq-div-mul, pow-succ')

digits-split : (l k q a b : ℕ) → l + a * (k + b * q) ≡ l + a * k + b * a * q
digits-split l k q a b = omega arith

-- a key is its lowest m digits, then the key of the coordinates with their lowest m bits cut off
pub morton-split : (m n : ℕ) (cs : List ℕ)
    → morton_key (m + n) cs ≡ morton_key m cs + (2 ^ length cs) ^ m * morton_key n (cut m cs)
unfolding morton_key
morton-split zero n cs = simp (zero-add, div-one, map-id, pow-zero, one-mul)
morton-split (suc m) n cs =
    rw (suc-add, morton_key, morton-split m n (map (λ c. c / 2) cs), length-map, halves-shift m cs, pow-suc (2 ^ length cs) m)
    (digits-split _ _ _ _ _)

-- the digit and the rest of a number are found again
digit_low : {l a : ℕ} (k : ℕ) → l < a → (l + a * k) % a ≡ l
digit_low k h = rw (add-mul-mod_self_left, mod-eq_of_lt h)

digit-rest : {l a : ℕ} (k : ℕ) → l < a → (l + a * k) / a ≡ k
digit-rest {l} {a} k h = let pos : 0 < a = omega arith in rw (add-mul-div_left, div-eq_of_lt h, zero-add)

-- what is left of a key when its lowest m digits are cut off
pub morton-quotient : (m n : ℕ) (cs : List ℕ) → morton_key (m + n) cs / (2 ^ length cs) ^ m ≡ morton_key n (cut m cs)
morton-quotient m n cs = rw (morton-split m n cs, digit-rest _ (morton-bound m cs))

-- coordinates with equal lowest bits and equal halves are equal
lowest-injective : (xs ys : List ℕ) → length xs ≡ length ys → lowest_bits xs ≡ lowest_bits ys
    → map (λ c. c / 2) xs ≡ map (λ c. c / 2) ys → xs ≡ ys
unfolding lowest_bits
lowest-injective [] [] e l h = refl
lowest-injective [] (y ∷ ys) e l h = absurd (omega arith)
lowest-injective (x ∷ xs) [] e l h = absurd (omega arith)
lowest-injective (x ∷ xs) (y ∷ ys) e l h =
    let half = head-eq_of_cons-eq h in
    ap₂ ◌∷◌ (omega arith) (lowest-injective xs ys (omega arith) (omega arith) (tail-eq_of_cons-eq h))

zeros_equal : (xs ys : List ℕ) → length xs ≡ length ys → Every (λ c. c < 1) xs → Every (λ c. c < 1) ys → xs ≡ ys
zeros_equal [] [] e h g = refl
zeros_equal [] (y ∷ ys) e h g = absurd (omega arith)
zeros_equal (x ∷ xs) [] e h g = absurd (omega arith)
zeros_equal (x ∷ xs) (y ∷ ys) e h g =
    let a = every-uncons h in let b = every-uncons g in
    ap₂ ◌∷◌ (omega arith) (zeros_equal xs ys (omega arith) a.1 b.1)

every-half : (n : ℕ) (cs : List ℕ) → Every (λ c. c < 2 ^ suc n) cs → Every (λ c. c < 2 ^ n) (map (λ c. c / 2) cs)
every-half n cs h = every_map (λ c. c < 2 ^ n) (λ c. c / 2) cs (every-imp (λ c b. omega arith) h)

digits-equal : {a l m : ℕ} (k r : ℕ) → l < a → m < a → l + a * k ≡ m + a * r → (l ≡ m) × (k ≡ r)
digits-equal {a} k r h g e =
    (sym (digit_low k h) ∙ ap (λ n. n % a) e ∙ digit_low r g, sym (digit-rest k h) ∙ ap (λ n. n / a) e ∙ digit-rest r g)

-- points of equal key are equal, for coordinates of n bits
pub morton-injective : (n : ℕ) (xs ys : List ℕ) → length xs ≡ length ys → Every (λ c. c < 2 ^ n) xs → Every (λ c. c < 2 ^ n) ys
    → morton_key n xs ≡ morton_key n ys → xs ≡ ys
unfolding morton_key
morton-injective zero xs ys e h g k = zeros_equal xs ys e h g
morton-injective (suc n) xs ys e h g k =
    let high = map (λ c. c / 2) ys in
    let p = digits-equal _ _ (lowest-bound xs) (rw e (lowest-bound ys)) (k ∙ ap (λ d. lowest_bits ys + 2 ^ d * morton_key n high) (sym e)) in
    lowest-injective xs ys e p.0
    (morton-injective n (map (λ c. c / 2) xs) high (simp length-map e) (every-half n xs h) (every-half n ys g) p.1)

digits-half : (c l p q : ℕ) → (c % 2 + 2 * l + 2 * p * q) / 2 ≡ l + p * q
digits-half c l p q = omega arith

-- bit j of a digit is the lowest bit of coordinate j, also with further digits above it
digit-bit : (cs : List ℕ) (j q : ℕ) → j < length cs → (lowest_bits cs + 2 ^ length cs * q) / 2 ^ j % 2 ≡ get_or cs j 0 % 2
unfolding lowest_bits
digit-bit [] j q h = absurd (omega arith)
digit-bit (c ∷ cs) zero q h = rw (div-one, pow-succ') (omega arith)
digit-bit (c ∷ cs) (suc j) q h =
    rw (pow-succ' 2 j, pow-succ' 2 (length cs), ← div-div-eq-div-mul, digits-half) (digit-bit cs j q (omega arith))

pow-mul : (b i j : ℕ) → b ^ (i * j) ≡ (b ^ i) ^ j
pow-mul b i zero = simp (mul-zero, pow-zero)
pow-mul b i (suc j) = rw (mul-suc, pow-add, pow-mul b i j, pow-suc)

get_or-cut : (cs : List ℕ) (j k : ℕ) → get_or (cut k cs) j 0 ≡ get_or cs j 0 / 2 ^ k
get_or-cut cs j k = ap (get_or (cut k cs) j) (sym (zero-div (2 ^ k))) ∙ get_or-map (λ c. c / 2 ^ k) cs j 0

bit_at : (k r j : ℕ) (cs : List ℕ) → j < length cs
    → morton_key (k + suc r) cs / 2 ^ (length cs * k + j) % 2 ≡ get_or cs j 0 / 2 ^ k % 2
unfolding morton_key
bit_at k r j cs g =
    rw (pow-add, pow-mul, ← div-div-eq-div-mul, morton-quotient k (suc r) cs, morton_key)
    (digit-bit (cut k cs) j _ (simp length-map g) ∙ ap (λ c. c % 2) (get_or-cut cs j k))

-- bit k of coordinate j stands at place d × k + j of the key, d the number of coordinates
pub morton-bit : (n k j : ℕ) (cs : List ℕ) → k < n → j < length cs
    → morton_key n cs / 2 ^ (length cs * k + j) % 2 ≡ get_or cs j 0 / 2 ^ k % 2
morton-bit n k j cs h g =
    let e : n ≡ k + suc (n - suc k) = omega arith in
    rw e (bit_at k (n - suc k) j cs g)
