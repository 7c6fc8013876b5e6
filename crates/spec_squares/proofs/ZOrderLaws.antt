-- Z-order of the grid's points: its bits, its bound, and the points of a square as those of its key range.
-- Each law is the one on Morton keys, for two coordinates of 16 bits.
-- Assumes nothing.
use mathlib.Core.Path.{◌≡◌, refl, subst}
use mathlib.Core.Logic.{◌↔◌}
use mathlib.Core.List.{[], ◌∷◌, head-eq_of_cons-eq, tail-eq_of_cons-eq}
use Prim.Native.Nat.{ℕ, ◌+◌, ◌*◌, ◌-◌, ◌/◌, ◌%◌, ◌^◌, ◌<◌}
use native.Mathlib.Nat.{add-zero}
use native.Mathlib.Omega.{arith}
use Rattle.theory_lists.proofs.ListsLaws.{Every, every-cons}
use Rattle.theory_lists.proofs.EveryLaws.{every-nil}
use Rattle.theory_lists.proofs.Pointwise.{Pointwise, pointwise-none, pointwise-more}
use Rattle.theory_orthtree.specs.Morton.{morton_key}
use Rattle.theory_orthtree.specs.Entries.{span}
use Rattle.theory_orthtree.proofs.RangeLaws.{Within}
use Rattle.theory_orthtree.proofs.MortonLaws.{morton-bound, morton-injective, morton-bit}
use Rattle.theory_orthtree.proofs.MortonRangeLaws.{key-in-range}
use Rattle.spec_plane.specs.declared.Point.{Point}
use Rattle.spec_plane.proofs.ExtremeLaws.{OnGrid}
use Rattle.spec_squares.specs.declared.Square.{Square}
use Rattle.spec_squares.specs.Square.{depth, arity, side_at, z_order, square_key, Aligned}
use Rattle.spec_squares.proofs.SquareLaws.{corner-multiples, side-positive}

-- every key is below 2 ^ 32
pub z_order-bound : (p : Point) → z_order p < 2 ^ 32
unfolding z_order
z_order-bound p = morton-bound depth (p.x ∷ p.y ∷ [])

-- bit k of x stands at place 2 k
pub z_order-x : (p : Point) (k : ℕ) → k < depth → z_order p / 2 ^ (2 * k) % 2 ≡ p.x / 2 ^ k % 2
unfolding z_order
z_order-x p k h = rw add-zero at (morton-bit depth k 0 (p.x ∷ p.y ∷ []) h (omega arith))

-- bit k of y stands at place 2 k + 1
pub z_order-y : (p : Point) (k : ℕ) → k < depth → z_order p / 2 ^ (2 * k + 1) % 2 ≡ p.y / 2 ^ k % 2
unfolding z_order
z_order-y p k h = morton-bit depth k 1 (p.x ∷ p.y ∷ []) h (omega arith)

grid-every : (p : Point) → OnGrid p → Every (λ c. c < 2 ^ depth) (p.x ∷ p.y ∷ [])
grid-every p g =
    let a : p.x < 65536 = omega (arith, g.x) in
    let b : p.y < 65536 = omega (arith, g.y) in
    every-cons (a, every-cons (b, every-nil (λ c. c < 2 ^ depth)))

-- points of the grid with the same key are the same
pub z_order-injective : (p q : Point) → OnGrid p → OnGrid q → z_order p ≡ z_order q → p ≡ q
unfolding z_order
z_order-injective p q g h e =
    let c = morton-injective depth (p.x ∷ p.y ∷ []) (q.x ∷ q.y ∷ []) refl (grid-every p g) (grid-every q h) e in
    let a = head-eq_of_cons-eq c in
    let b = head-eq_of_cons-eq (tail-eq_of_cons-eq c) in
    λ i. record { x = a i; y = b i }

-- the point lies in the square: at its corner or right of it and below it, by less than the side
pub record InSquare (s : Square) (p : Point) : Type 0 where
  pub across : Within s.x (side_at s.level) p.x
  pub down : Within s.y (side_at s.level) p.y

-- the two coordinates side by side
square-iff : (s : Square) (p : Point) → InSquare s p ↔ Pointwise (λ c d. Within c (side_at s.level) d) (s.x ∷ s.y ∷ []) (p.x ∷ p.y ∷ [])
square-iff s p = (λ h. pointwise-more h.across (pointwise-more h.down pointwise-none), from)
  where
    from : Pointwise (λ c d. Within c (side_at s.level) d) (s.x ∷ s.y ∷ []) (p.x ∷ p.y ∷ []) → InSquare s p
    from (pointwise-more a (pointwise-more b pointwise-none)) = record { across = a; down = b }

corner-grid : (s : Square) → Aligned s → Every (λ c. c < 2 ^ depth) (s.x ∷ s.y ∷ [])
corner-grid s ok =
    let h = side-positive s.level in
    every-cons (omega (arith, ok.right), every-cons (omega (arith, ok.bottom), every-nil (λ c. c < 2 ^ depth)))

box-iff : (s : Square) → Aligned s → (p : Point) → OnGrid p
    → Pointwise (λ c d. Within c (side_at s.level) d) (s.x ∷ s.y ∷ []) (p.x ∷ p.y ∷ [])
    ↔ Within (square_key s) (span arity depth s.level) (z_order p)
unfolding side_at square_key z_order span
box-iff s ok p g =
    let m = depth - s.level in
    let h = ok.deep in
    let cs = s.x ∷ s.y ∷ [] in
    let ps = p.x ∷ p.y ∷ [] in
    let e : m + s.level ≡ depth = omega arith in
    subst (λ n. Every (λ c. c < 2 ^ n) cs → Every (λ c. c < 2 ^ n) ps
    → Pointwise (λ c d. Within c (2 ^ m) d) cs ps ↔ Within (morton_key n cs) (4 ^ m) (morton_key n ps)) e
    (key-in-range m s.level cs ps refl (corner-multiples s ok)) (corner-grid s ok) (grid-every p g)

-- a point of the grid lies in a square exactly when its key lies in the square's key range
pub point-in-square : (s : Square) → Aligned s → (p : Point) → OnGrid p
    → InSquare s p ↔ Within (square_key s) (span arity depth s.level) (z_order p)
point-in-square s ok p g =
    (λ h. (box-iff s ok p g).0 ((square-iff s p).0 h), λ w. (square-iff s p).1 ((box-iff s ok p g).1 w))
