-- Boxes of the grid and ranges of keys: a box whose side is 2 ^ m, and whose corner's coordinates are multiples of it, is the
-- set of points of one key range.
-- The idea: a point lies in the box when cutting off m bits takes it to what it takes the corner to. Keys cut off so tell
-- points apart (`morton-injective`), and a key lies in the range when cutting off m digits takes it to what it takes the
-- corner's key to (`aligned-iff`). The corner's own key ends in m digits 0.
-- Assumes nothing.
use mathlib.Core.Path.{◌≡◌, refl, sym, ap}
use mathlib.Core.Logic.{◌↔◌}
use mathlib.Core.List.{List, [], ◌∷◌, map}
use Prim.Native.Nat.{ℕ, zero, suc, ◌+◌, ◌*◌, ◌/◌, ◌%◌, ◌^◌, ◌<◌}
use native.Mathlib.Nat.{add_comm, zero-add, one-le-pow, mul-zero, mul-mod_right}
use native.Mathlib.Numerals.{add-one}
use native.Mathlib.Omega.{arith}
use lib.ListN.{length, length-map}
use lib.Pow.{pow_pos, mod-pow-add, shr_lt}
use Rattle.theory_lists.proofs.ListsLaws.{Every, every-uncons}
use Rattle.theory_lists.proofs.EveryLaws.{every-imp, every_map}
use Rattle.theory_lists.proofs.Pointwise.{Pointwise, pointwise-map, map-pointwise, pointwise-imp}
use Rattle.theory_orthtree.specs.Morton.{lowest_bits, morton_key}
use Rattle.theory_orthtree.proofs.RangeLaws.{Within, aligned-iff}
use Rattle.theory_orthtree.proofs.MortonLaws.{cut, morton-split, morton-quotient, morton-injective}

-- a multiple of 2 ^ suc m is even, and its half is a multiple of 2 ^ m
multiple-half : (m c : ℕ) → c % 2 ^ suc m ≡ 0 → (c % 2 ≡ 0) × (c / 2 % 2 ^ m ≡ 0)
multiple-half m c e = let s = rw add-one at (mod-pow-add c m 1) in omega arith

-- the lowest digit of even coordinates is 0
pub lowest-even : (cs : List ℕ) → Every (λ c. c % 2 ≡ 0) cs → lowest_bits cs ≡ 0
unfolding lowest_bits
lowest-even [] h = refl
lowest-even (c ∷ cs) h = let g = every-uncons h in let e = lowest-even cs g.1 in omega arith

-- the key of multiples of 2 ^ m ends in m digits 0
multiples-end : (m : ℕ) (cs : List ℕ) → Every (λ c. c % 2 ^ m ≡ 0) cs → morton_key m cs ≡ 0
unfolding morton_key
multiples-end zero cs h = refl
multiples-end (suc m) cs h =
    let low = lowest-even cs (every-imp (λ c e. (multiple-half m c e).0) h) in
    let rest = every_map (λ c. c % 2 ^ m ≡ 0) (λ c. c / 2) cs (every-imp (λ c e. (multiple-half m c e).1) h) in
    let high = multiples-end m (map (λ c. c / 2) cs) rest in
    rw (morton_key, low, high, mul-zero)

-- the key of a corner whose coordinates are multiples of 2 ^ m, by the key of the quotients
pub morton-multiples : (m n : ℕ) (cs : List ℕ) → Every (λ c. c % 2 ^ m ≡ 0) cs
    → morton_key (m + n) cs ≡ (2 ^ length cs) ^ m * morton_key n (cut m cs)
morton-multiples m n cs h = rw (morton-split m n cs, multiples-end m cs h, zero-add)

-- so that key is a multiple of the number of keys of the box
pub morton-aligned : (m n : ℕ) (cs : List ℕ) → Every (λ c. c % 2 ^ m ≡ 0) cs → morton_key (m + n) cs % (2 ^ length cs) ^ m ≡ 0
morton-aligned m n cs h = rw (morton-multiples m n cs h, mul-mod_right)

every-cut : (m n : ℕ) (cs : List ℕ) → Every (λ c. c < 2 ^ (m + n)) cs → Every (λ c. c < 2 ^ n) (cut m cs)
every-cut m n cs h = every_map (λ c. c < 2 ^ n) (λ c. c / 2 ^ m) cs (every-imp (λ c b. shr_lt n m (rw (add_comm n m) b)) h)

module _ (m n : ℕ) (corner ps : List ℕ) (same : length corner ≡ length ps) (multiples : Every (λ c. c % 2 ^ m ≡ 0) corner) where
  -- the point lies in the box when the quotients are the corner's
  box-iff : Pointwise (λ c p. Within c (2 ^ m) p) corner ps ↔ (cut m corner ≡ cut m ps)
  box-iff = (
    λ h. pointwise-map (λ c. c / 2 ^ m) (λ c. c / 2 ^ m)
        (pointwise-imp (λ c p e w. sym ((aligned-iff (2 ^ m) c p (pow_pos m) e).0 w)) multiples h),
    λ e. pointwise-imp (λ c p f q. (aligned-iff (2 ^ m) c p (pow_pos m) f).1 (sym q)) multiples
        (map-pointwise (λ c. c / 2 ^ m) (λ c. c / 2 ^ m) corner ps e),
  )

  -- its key lies in the range when the quotients' keys are equal
  range-iff : Within (morton_key (m + n) corner) ((2 ^ length corner) ^ m) (morton_key (m + n) ps)
      ↔ (morton_key n (cut m ps) ≡ morton_key n (cut m corner))
  range-iff =
      let q : morton_key (m + n) ps / (2 ^ length corner) ^ m ≡ morton_key n (cut m ps) = rw same (morton-quotient m n ps) in
      let pos = one-le-pow m (2 ^ length corner) (pow_pos (length corner)) in
      rw (morton-quotient m n corner, q) at
      (aligned-iff ((2 ^ length corner) ^ m) (morton_key (m + n) corner) (morton_key (m + n) ps) pos (morton-aligned m n corner multiples))

  -- a point lies in a box of side 2 ^ m exactly when its key lies in the range of (2 ^ d) ^ m keys from the corner's on
  pub key-in-range : Every (λ c. c < 2 ^ (m + n)) corner → Every (λ c. c < 2 ^ (m + n)) ps
      → Pointwise (λ c p. Within c (2 ^ m) p) corner ps ↔ Within (morton_key (m + n) corner) ((2 ^ length corner) ^ m) (morton_key (m + n) ps)
  key-in-range bc bp = (
    λ h. range-iff.1 (ap (morton_key n) (sym (box-iff.0 h))),
    λ w. box-iff.1 (sym (morton-injective n (cut m ps) (cut m corner) (simp length-map (sym same))
        (every-cut m n ps bp) (every-cut m n corner bc) (range-iff.0 w))),
  )
