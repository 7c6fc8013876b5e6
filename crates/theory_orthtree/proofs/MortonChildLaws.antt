-- The corners of a node's children: child k moves coordinate j by half the node's side if bit j of k is 1. This adds to the
-- key k times the number of keys of a child.
-- The idea: cut off the m bits below half the side, which are 0. The coordinates left are even, so k becomes the lowest digit of
-- their key, and the digits above stay.
-- Assumes nothing.
use mathlib.Core.Path.{◌≡◌, refl, ◌∙◌, ap, ap₂}
use mathlib.Core.List.{List, [], ◌∷◌, map}
use Prim.Native.Nat.{ℕ, suc, ◌+◌, ◌*◌, ◌/◌, ◌%◌, ◌^◌, ◌<◌}
use native.Mathlib.Nat.{add_comm, mul-one, pow-suc, le-mul_of_pos_right, add-mul-div_right, add-mul-mod_self_right}
use native.Mathlib.Numerals.{add-one}
use native.Mathlib.Omega.{arith}
use lib.ListN.{length, length-map}
use lib.Pow.{pow_pos, mod-pow-add}
use Rattle.theory_lists.proofs.ListsLaws.{Every, every-cons, every-uncons}
use Rattle.theory_lists.proofs.EveryLaws.{every-nil, every-imp, every_map}
use Rattle.theory_orthtree.specs.Morton.{lowest_bits, morton_key}
use Rattle.theory_orthtree.proofs.MortonLaws.{cut}
use Rattle.theory_orthtree.proofs.MortonRangeLaws.{lowest-even, morton-multiples}

-- the corner of child k: coordinate j moves by `step` if bit j of k is 1
unfoldable pub child_corner : ℕ → ℕ → List ℕ → List ℕ
child_corner step k [] = []
child_corner step k (c ∷ cs) = (c + k % 2 * step) ∷ child_corner step (k / 2) cs

child-length : (step k : ℕ) (cs : List ℕ) → length (child_corner step k cs) ≡ length cs
unfolding child_corner
child-length step k [] = refl
child-length step k (c ∷ cs) = ap suc (child-length step (k / 2) cs)

-- a step of 2 ^ m is one of 1 when m bits are cut off
child-cut : (m k : ℕ) (cs : List ℕ) → cut m (child_corner (2 ^ m) k cs) ≡ child_corner 1 k (cut m cs)
unfolding child_corner
child-cut m k [] = refl
child-cut m k (c ∷ cs) = ap₂ ◌∷◌ (add-mul-div_right c (k % 2) (pow_pos m) ∙ rw mul-one) (child-cut m (k / 2) cs)

child-multiples : (m k : ℕ) (cs : List ℕ) → Every (λ c. c % 2 ^ m ≡ 0) cs
    → Every (λ c. c % 2 ^ m ≡ 0) (child_corner (2 ^ m) k cs)
unfolding child_corner
child-multiples m k [] h = every-nil (λ c. c % 2 ^ m ≡ 0)
child-multiples m k (c ∷ cs) h = let g = every-uncons h in every-cons (rw add-mul-mod_self_right g.0, child-multiples m (k / 2) cs g.1)

-- steps of 1 from even coordinates put k into the lowest digit and leave the others
child-lowest : (k : ℕ) (cs : List ℕ) → k < 2 ^ length cs → Every (λ c. c % 2 ≡ 0) cs → lowest_bits (child_corner 1 k cs) ≡ k
unfolding child_corner lowest_bits
child-lowest k [] b h = omega arith
child-lowest k (c ∷ cs) b h =
    let g = every-uncons h in
    let e = child-lowest (k / 2) cs (omega (arith, pow-suc 2 (length cs))) g.1 in
    omega arith

child-half : (k : ℕ) (cs : List ℕ) → Every (λ c. c % 2 ≡ 0) cs → map (λ c. c / 2) (child_corner 1 k cs) ≡ map (λ c. c / 2) cs
unfolding child_corner
child-half k [] h = refl
child-half k (c ∷ cs) h = let g = every-uncons h in ap₂ ◌∷◌ (omega arith) (child-half (k / 2) cs g.1)

child-digit : (n k : ℕ) (cs : List ℕ) → k < 2 ^ length cs → Every (λ c. c % 2 ≡ 0) cs
    → morton_key (suc n) (child_corner 1 k cs) ≡ morton_key (suc n) cs + k
unfolding morton_key
child-digit n k cs b h = rw (morton_key, child-length 1 k cs, child-lowest k cs b h, child-half k cs h, lowest-even cs h) (omega arith)

-- a multiple of 2 ^ suc m is one of 2 ^ m, by an even number
multiple-even : (m c : ℕ) → c % 2 ^ suc m ≡ 0 → (c % 2 ^ m ≡ 0) × (c / 2 ^ m % 2 ≡ 0)
multiple-even m c e =
    let s = rw (add_comm 1 m, add-one) at (mod-pow-add c 1 m) in
    let p = le-mul_of_pos_right (c / 2 ^ m % 2) (pow_pos m) in
    omega arith

-- the corner of child k has the node's key and k times the keys of a child
pub child-key : (m n k : ℕ) (cs : List ℕ) → k < 2 ^ length cs → Every (λ c. c % 2 ^ suc m ≡ 0) cs
    → morton_key (m + suc n) (child_corner (2 ^ m) k cs) ≡ morton_key (m + suc n) cs + k * (2 ^ length cs) ^ m
child-key m n k cs b h =
    let low = every-imp (λ c e. (multiple-even m c e).0) h in
    let even = every_map (λ c. c % 2 ≡ 0) (λ c. c / 2 ^ m) cs (every-imp (λ c e. (multiple-even m c e).1) h) in
    rw (
      morton-multiples m (suc n) (child_corner (2 ^ m) k cs) (child-multiples m k cs low),
      morton-multiples m (suc n) cs low,
      child-length (2 ^ m) k cs,
      child-cut m k cs,
      child-digit n k (cut m cs) (rw length-map b) even,
    )
    (omega arith)
