-- Masks: the elements that a number keeps of a list.
-- Assumes nothing.
use mathlib.Core.Path.{◌≡◌, refl, ap}
use mathlib.Core.Bool.{Bool, true, false, cond}
use mathlib.Core.List.{List, [], ◌∷◌, map}
use Prim.Native.Nat.{ℕ, ◌+◌, ◌*◌, ◌/◌, ◌%◌, ◌<◌}
use native.Mathlib.Omega.{arith}
use lib.Dec.{eqb}
use Rattle.theory_lists.specs.Lists.{filter}
use Rattle.theory_lists.specs.Masks.{bit, mask_of, masked}

-- a bit is 0 or 1
pub bit-most : (b : Bool) → bit b < 2
bit-most true = omega arith
bit-most false = omega arith

-- three tests make a mask below 8
pub mask-three : (x y z : Bool) (l : List Bool) → l ≡ x ∷ y ∷ z ∷ [] → (bit x + 2 * bit y + 4 * bit z ≡ mask_of l) × (bit x + 2 * bit y + 4 * bit z < 8)
unfolding mask_of
mask-three x y z l e = (rw e (omega arith), omega (arith, bit-most x, bit-most y, bit-most z))

-- a mask of 0 has none
pub masked-zero : {A : Type 0} (l : List A) → masked 0 l ≡ []
unfolding masked
masked-zero [] = refl
masked-zero (x ∷ xs) = masked-zero xs

-- the elements that a mask of tests has are those that pass
pub masked-filter : {A : Type 0} (f : A → Bool) (l : List A) → masked (mask_of (map f l)) l ≡ filter f l
unfolding mask_of masked filter
masked-filter f [] = refl
masked-filter f (x ∷ xs) = go (f x) (mask_of (map f xs)) (masked-filter f xs)
  where
    go : (b : Bool) (m : ℕ) → masked m xs ≡ filter f xs
        → masked (bit b + 2 * m) (x ∷ xs) ≡ elim b [ true ↦ x ∷ filter f xs | false ↦ filter f xs ]
    go true m e =
        let odd : (1 + 2 * m) % 2 ≡ 1 = omega arith in
        let half : (1 + 2 * m) / 2 ≡ m = omega arith in
        rw (odd, half, e) refl
    go false m e =
        let even : (0 + 2 * m) % 2 ≡ 0 = omega arith in
        let half : (0 + 2 * m) / 2 ≡ m = omega arith in
        rw (even, half, e) refl

-- a mask commutes with a map
pub map-masked : {A B : Type 0} (f : A → B) (m : ℕ) (l : List A) → map f (masked m l) ≡ masked m (map f l)
unfolding masked
map-masked f m [] = refl
map-masked f m (x ∷ xs) = go (eqb (m % 2) 1) (map-masked f (m / 2) xs)
  where
    go : (b : Bool) → map f (masked (m / 2) xs) ≡ masked (m / 2) (map f xs)
        → map f (cond b (x ∷ masked (m / 2) xs) (masked (m / 2) xs)) ≡ cond b (f x ∷ masked (m / 2) (map f xs)) (masked (m / 2) (map f xs))
    go true e = ap (λ l. f x ∷ l) e
    go false e = e
