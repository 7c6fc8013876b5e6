-- Squares of the quadtree as nodes of an orthtree of arity 4 and depth 16: the keys of a square's quarters.
-- The idea: a square is a box of two coordinates whose side is a power of two and whose corner is a multiple of it, so the law on
-- the keys of a node's children, `child-key`, holds of its quarters.
-- Assumes nothing.
use mathlib.Core.Path.{◌≡◌, refl, subst}
use mathlib.Core.List.{[], ◌∷◌}
use Prim.Native.Nat.{ℕ, zero, suc, ◌+◌, ◌*◌, ◌-◌, ◌%◌, ◌^◌, ◌<◌, ◌∣◌}
use native.Mathlib.Nat.{add-zero, zero-mul, one-mul, pow-succ', dvd-mul_left, mod-mod_of_dvd, zero-mod, add-mod_right}
use native.Mathlib.Omega.{arith}
use lib.ListN.{get_or}
use lib.Pow.{pow_pos}
use Rattle.theory_lists.proofs.ListsLaws.{Every, every-cons}
use Rattle.theory_lists.proofs.EveryLaws.{every-nil}
use Rattle.theory_orthtree.specs.Morton.{morton_key}
use Rattle.theory_orthtree.specs.Entries.{span}
use Rattle.theory_orthtree.proofs.MortonRangeLaws.{morton-aligned}
use Rattle.theory_orthtree.proofs.LeavesLaws.{Tree}
use Rattle.theory_orthtree.proofs.MortonChildLaws.{child_corner, child-key}
use Rattle.spec_plane.specs.Box.{Framed}
use Rattle.spec_squares.specs.declared.Square.{Square}
use Rattle.spec_squares.specs.Square.{depth, arity, side_at, whole_square, top_left, top_right, bottom_left, bottom_right, quarters, z_order, square_key, square_box, Aligned}

-- a side is twice that of a quarter
pub side-half : (level : ℕ) → level < depth → side_at level ≡ 2 * side_at (suc level)
unfolding side_at
side-half level h = let e : depth - level ≡ suc (depth - suc level) = omega arith in rw (e, pow-succ')

-- a side is not 0
pub side-positive : (level : ℕ) → 0 < side_at level
unfolding side_at
side-positive level = pow_pos (depth - level)

-- the whole square is one of the tree
pub whole-aligned : Aligned whole_square
unfolding whole_square side_at
whole-aligned = record { deep = omega arith; across = refl; down = refl; right = omega arith; bottom = omega arith }

-- a multiple of a side is one of a quarter's side, also when moved by that
half-multiple : (level c : ℕ) → level < depth → c % side_at level ≡ 0
    → (c % side_at (suc level) ≡ 0) × ((c + side_at (suc level)) % side_at (suc level) ≡ 0)
half-multiple level c l e =
    let h = side_at (suc level) in
    let d : h ∣ side_at level = rw (side-half level l) (dvd-mul_left h 2) in
    let z : c % h ≡ 0 = rw (← mod-mod_of_dvd h c d, e, zero-mod) in
    (z, rw (add-mod_right, z))

-- quarters are one level deeper
pub quarters-level : (s : Square) → Every (λ q. q.level ≡ suc s.level) (quarters s)
unfolding quarters top_left top_right bottom_left bottom_right
quarters-level s = every-cons (refl, every-cons (refl, every-cons (refl, every-cons (refl, every-nil (λ q. q.level ≡ suc s.level)))))

module _ (s : Square) (ok : Aligned s) (l : s.level < depth) where
  -- the quarters of a square of the tree are squares of the tree, unless it is of the deepest level
  pub quarters-aligned : Every (λ q. Aligned q) (quarters s)
  unfolding quarters top_left top_right bottom_left bottom_right
  quarters-aligned =
      let half = side-half s.level l in
      let px = half-multiple s.level s.x l ok.across in
      let py = half-multiple s.level s.y l ok.down in
      every-cons (
        record { deep = l; across = px.0; down = py.0; right = omega arith; bottom = omega arith },
        every-cons (
          record { deep = l; across = px.1; down = py.0; right = omega arith; bottom = omega arith },
          every-cons (
            record { deep = l; across = px.0; down = py.1; right = omega arith; bottom = omega arith },
            every-cons (
              record { deep = l; across = px.1; down = py.1; right = omega arith; bottom = omega arith },
              every-nil (λ q. Aligned q),
            ),
          ),
        ),
      )

  corner-key : (k : ℕ) → k < arity → morton_key depth (child_corner (side_at (suc s.level)) k (s.x ∷ s.y ∷ []))
      ≡ morton_key depth (s.x ∷ s.y ∷ []) + k * span arity depth (suc s.level)
  unfolding side_at span
  corner-key k h =
      let m = depth - suc s.level in
      let cs = s.x ∷ s.y ∷ [] in
      let e : m + suc s.level ≡ depth = omega arith in
      let f : depth - s.level ≡ suc m = omega arith in
      subst (λ n. morton_key n (child_corner (2 ^ m) k cs) ≡ morton_key n cs + k * 4 ^ m) e
      (child-key m s.level k cs h (every-cons (rw f at ok.across, every-cons (rw f at ok.down, every-nil (λ c. c % 2 ^ suc m ≡ 0)))))

  -- the key of quarter k
  pub quarter-key : (k : ℕ) → k < arity → square_key (get_or (quarters s) k s) ≡ square_key s + k * span arity depth (suc s.level)
  unfolding square_key z_order quarters top_left top_right bottom_left bottom_right child_corner
  quarter-key zero h = simp (zero-mul, add-zero) (simp (zero-mul, add-zero) at (corner-key 0 h))
  quarter-key (suc zero) h = simp one-mul (simp (zero-mul, one-mul, add-zero) at (corner-key 1 h))
  quarter-key (suc (suc zero)) h = simp (zero-mul, one-mul, add-zero) at (corner-key 2 h)
  quarter-key (suc (suc (suc zero))) h = simp one-mul at (corner-key 3 h)
  quarter-key (suc (suc (suc (suc k)))) h = absurd (omega arith)

-- a square of the tree with its border is a box of the grid
pub square_box-framed : (s : Square) → Aligned s → Framed (square_box s)
unfolding square_box
square_box-framed s p = record { wide = omega arith; tall = omega arith; right = p.right; bottom = p.bottom }

-- the corner's coordinates are multiples of the side
pub corner-multiples : (s : Square) → Aligned s → Every (λ c. c % 2 ^ (depth - s.level) ≡ 0) (s.x ∷ s.y ∷ [])
unfolding side_at
corner-multiples s ok = every-cons (ok.across, every-cons (ok.down, every-nil (λ c. c % 2 ^ (depth - s.level) ≡ 0)))

-- a square's key is a multiple of the number of its keys
pub square_key-aligned : (s : Square) → Aligned s → square_key s % span arity depth s.level ≡ 0
unfolding square_key z_order span
square_key-aligned s ok =
    let m = depth - s.level in
    let h = ok.deep in
    let e : m + s.level ≡ depth = omega arith in
    subst (λ n. morton_key n (s.x ∷ s.y ∷ []) % 4 ^ m ≡ 0) e (morton-aligned m s.level (s.x ∷ s.y ∷ []) (corner-multiples s ok))

-- the squares are an orthtree
pub square-tree : Tree arity depth (λ s. quarters s) (λ s. square_key s) (λ s. s.level) (λ s. Aligned s)
unfolding quarters
square-tree = record {
  positive = omega arith;
  deep = λ s ok. ok.deep;
  aligned = square_key-aligned;
  count = λ s ok l. refl;
  nodes = quarters-aligned;
  levels = λ s ok l. quarters-level s;
  keys = quarter-key;
}
