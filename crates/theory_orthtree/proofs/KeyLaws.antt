-- The coordinates of a Morton key: they are those that made the key, and they make it again.
-- The idea: the lowest digit of a key holds the lowest bit of each coordinate, and what is left is the key of their halves.
-- Assumes nothing.
use mathlib.Core.Path.{◌≡◌, sym, ◌∙◌, ap, ap₂}
use mathlib.Core.List.{List, map, map-map}
use Prim.Native.Nat.{ℕ, zero, suc, ◌+◌, ◌*◌, ◌/◌, ◌%◌, ◌^◌, ◌<◌}
use native.Mathlib.Nat.{zero-add, suc-add, add_comm, mul_comm, pow-zero, pow-succ', one-le-pow, div-one, mod-one, div-div-eq-div-mul, zero-div, mul-zero}
use native.Mathlib.Omega.{arith}
use lib.Arith.{mod-mul}
use lib.Pow.{pow_pos}
use lib.ListN.{length, get_or, length-map, get_or-map}
use Rattle.theory_lists.specs.Lists.{count_from, up_to}
use Rattle.theory_lists.proofs.IndexLaws.{up_to-length}
use Rattle.theory_orthtree.specs.Morton.{lowest_bits, morton_key, key_coordinate}
use Rattle.theory_orthtree.proofs.MortonLaws.{cut, morton-bit, morton-quotient}

-- a number's lowest digit, and the rest up to a bound, are the number up to that bound of digits
digits : (a c m : ℕ) → 0 < a → 0 < m → c % a + a * (c / a % m) ≡ c % (a * m)
digits a c m pa pm = ap (λ n. c % a + n) (mul_comm a (c / a % m)) ∙ add_comm _ _ ∙ sym (ap (λ n. c % n) (mul_comm a m) ∙ mod-mul c pm pa)

one_power : (k : ℕ) → k ≡ k ^ 1
one_power k = rw (pow-succ' k 0, pow-zero) (omega arith)

half_at : (cs : List ℕ) (j : ℕ) → get_or (cut 1 cs) j 0 ≡ get_or cs j 0 / 2
half_at cs j = ap (get_or (cut 1 cs) j) (sym (zero-div (2 ^ 1))) ∙ get_or-map (λ c. c / 2 ^ 1) cs j 0

-- the coordinates of a key are those that made it
pub coordinate-of-key : (n j : ℕ) (cs : List ℕ) → j < length cs → key_coordinate (length cs) j n (morton_key n cs) ≡ get_or cs j 0 % 2 ^ n
unfolding key_coordinate
coordinate-of-key zero j cs h = sym (mod-one (get_or cs j 0))
coordinate-of-key (suc n) j cs h =
    let low : morton_key (suc n) cs / 2 ^ j % 2 ≡ get_or cs j 0 % 2 =
    simp (mul-zero, zero-add, pow-zero, div-one) at (morton-bit (suc n) 0 j cs (omega arith) h)
    in
    let one_more : suc n ≡ 1 + n = omega arith in
    let rest : morton_key (suc n) cs / 2 ^ length cs ≡ morton_key n (cut 1 cs) =
    ap (λ m. morton_key (suc n) cs / m) (one_power (2 ^ length cs))
    ∙ ap (λ m. morton_key m cs / (2 ^ length cs) ^ 1) one_more
    ∙ morton-quotient 1 n cs
    in
    let same : length (cut 1 cs) ≡ length cs = length-map cs (λ c. c / 2 ^ 1) in
    let below = coordinate-of-key n j (cut 1 cs) (rw same h) in
    let high : key_coordinate (length cs) j n (morton_key (suc n) cs / 2 ^ length cs) ≡ get_or cs j 0 / 2 % 2 ^ n =
    ap (key_coordinate (length cs) j n) rest
    ∙ ap (λ d. key_coordinate d j n (morton_key n (cut 1 cs))) (sym same)
    ∙ below
    ∙ ap (λ c. c % 2 ^ n) (half_at cs j)
    in
    ap₂ (λ a b. a + 2 * b) low high ∙ digits 2 (get_or cs j 0) (2 ^ n) (omega arith) (pow_pos n) ∙ ap (λ m. get_or cs j 0 % m) (sym (pow-succ' 2 n))

-- a coordinate has no more bits than are asked
pub coordinate-bound : (d j n k : ℕ) → key_coordinate d j n k < 2 ^ n
unfolding key_coordinate
coordinate-bound d j zero k = rw pow-zero (omega arith)
coordinate-bound d j (suc n) k = let h = coordinate-bound d j n (k / 2 ^ d) in rw (pow-succ' 2 n) (omega arith)

step : (b a t k m : ℕ) → t ≡ 2 * m → b + 2 * (a + m * k) ≡ b + 2 * a + t * k
step b a t k m e = omega (arith, ap (λ n. n * k) e)

-- the low bits of a coordinate, and the bits above them
pub coordinate-split : (d j m n k : ℕ) → key_coordinate d j (m + n) k ≡ key_coordinate d j m k + 2 ^ m * key_coordinate d j n (k / (2 ^ d) ^ m)
unfolding key_coordinate
coordinate-split d j zero n k = rw (zero-add n, pow-zero, pow-zero, div-one) (omega arith)
coordinate-split d j (suc m) n k =
    rw (suc-add m n, key_coordinate, coordinate-split d j m n (k / 2 ^ d), div-div-eq-div-mul k (2 ^ d) ((2 ^ d) ^ m), ← pow-succ' (2 ^ d) m)
    (step _ _ _ _ _ (pow-succ' 2 m))

-- all coordinates of a key
abbrev pub key_coordinates : ℕ → ℕ → ℕ → List ℕ
key_coordinates d n k = map (λ j. key_coordinate d j n k) (up_to d)

-- numbers whose lowest bits are bits of k, from place s on, give these bits as one digit
digit-of : (k : ℕ) (f : ℕ → ℕ) (s d : ℕ) → lowest_bits (map (λ j. k / 2 ^ j % 2 + 2 * f j) (count_from s d)) ≡ k / 2 ^ s % 2 ^ d
unfolding lowest_bits count_from
digit-of k f s zero = sym (mod-one (k / 2 ^ s))
digit-of k f s (suc d) =
    let e : k / 2 ^ suc s ≡ k / 2 ^ s / 2 = ap (λ m. k / m) (pow-succ' 2 s ∙ omega arith) ∙ sym (div-div-eq-div-mul k (2 ^ s) 2) in
    let low : (k / 2 ^ s % 2 + 2 * f s) % 2 ≡ k / 2 ^ s % 2 = omega arith in
    ap₂ (λ a b. a + 2 * b) low (digit-of k f (suc s) d ∙ ap (λ n. n % 2 ^ d) e)
    ∙ digits 2 (k / 2 ^ s) (2 ^ d) (omega arith) (pow_pos d)
    ∙ ap (λ m. k / 2 ^ s % m) (sym (pow-succ' 2 d))

half_step : (b c : ℕ) → (b % 2 + 2 * c) / 2 ≡ c
half_step b c = omega arith

-- and they make the key again
pub key-of-coordinates : (d n k : ℕ) → morton_key n (key_coordinates d n k) ≡ k % (2 ^ d) ^ n
unfolding morton_key key_coordinate up_to
key-of-coordinates d zero k = rw pow-zero (sym (mod-one k))
key-of-coordinates d (suc n) k =
    let q = k / 2 ^ d in
    let f : ℕ → ℕ = λ j. key_coordinate d j n q in
    let cs = map (λ j. k / 2 ^ j % 2 + 2 * f j) (up_to d) in
    let low : lowest_bits cs ≡ k % 2 ^ d = digit-of k f 0 d ∙ ap (λ m. m % 2 ^ d) (div-one k) in
    let len : length cs ≡ d = length-map (up_to d) (λ j. k / 2 ^ j % 2 + 2 * f j) ∙ up_to-length d in
    let rest : map (λ c. c / 2) cs ≡ key_coordinates d n q =
    map-map (λ c. c / 2) (λ j. k / 2 ^ j % 2 + 2 * f j) (up_to d) ∙ ap (λ g. map g (up_to d)) (λ i j. half_step (k / 2 ^ j) (f j) i)
    in
    ap₂ ◌+◌ low (ap₂ (λ m xs. 2 ^ m * morton_key n xs) len rest ∙ ap (λ m. 2 ^ d * m) (key-of-coordinates d n q))
    ∙ digits (2 ^ d) k ((2 ^ d) ^ n) (pow_pos d) (one-le-pow n (2 ^ d) (pow_pos d))
    ∙ ap (λ m. k % m) (sym (pow-succ' (2 ^ d) n))
