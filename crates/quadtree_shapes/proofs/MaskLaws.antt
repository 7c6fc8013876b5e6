-- Masks of the sides of a triangle, and points packed into numbers: which of the sides that a mask has have no end in a point.
-- The idea: a mask of three sides and three tests leave finitely many cases, and each is computed.
-- Assumes nothing.
use mathlib.Core.Path.{◌≡◌, refl, sym, ◌∙◌, ap}
use mathlib.Core.Bool.{Bool, true, false, cond, not, ◌||◌}
use mathlib.Core.List.{[], ◌∷◌, map}
use Prim.Native.Nat.{ℕ, ◌*◌, ◌/◌, ◌%◌, ◌<◌}
use native.Mathlib.Omega.{arith}
use lib.Bits.{bit_and, bit_or, bit_xor}
use lib.Dec.{T, eqb}
use Rattle.theory_lists.specs.Lists.{all, count_from, up_to}
use Rattle.theory_lists.specs.Masks.{bit, masked}
use Rattle.theory_lists.proofs.MaskLaws.{map-masked}
use Rattle.theory_lists.proofs.Reflects.{reflects-eqb, reflects-iff}
use Rattle.theory_lists.proofs.IndexLaws.{reflects-same, all_map, all-below-at}
use Rattle.spec_plane.specs.Point.{same_point}
use Rattle.spec_plane.specs.Triangle.{sides}
use Rattle.spec_plane.proofs.PointLaws.{same_point-reflects}
use Rattle.spec_charts.specs.Cells.{is_end}
use Rattle.quadtree_shapes.specs.Masks.{side_masks, unpacked, unpacked_triangle}

-- numbers are equal if the points are that they stand for
same-packed : (p q : ℕ) → same_point (unpacked p) (unpacked q) ≡ eqb p q
unfolding unpacked
same-packed p q =
    reflects-same (same_point-reflects (unpacked p) (unpacked q))
    (reflects-iff (ap unpacked) from (reflects-eqb p q))
  where
    from : unpacked p ≡ unpacked q → p ≡ q
    from e =
        let x : p % 65536 ≡ q % 65536 = ap (λ r. r.x) e in
        let y : p / 65536 ≡ q / 65536 = ap (λ r. r.y) e in
        omega arith

-- ---- the sides that have no end in a point, by the tests x, y, z of the corners a, b, c

-- what code computes
abbrev missed_of : ℕ → Bool → Bool → Bool → ℕ
missed_of m x y z = bit_and m (bit_xor 7 (bit_or (bit_or (5 * bit x) (3 * bit y)) (6 * bit z)))

-- each side that the mask has passes
abbrev ends_of : ℕ → Bool → Bool → Bool → Bool
ends_of m x y z = all (λ b. b) (masked m ((x || y) ∷ (y || z) ∷ (z || x) ∷ []))

-- a computed agreement
agrees : (a b : Bool) → T (cond a b (not b)) → a ≡ b
agrees true true t = refl
agrees true false t = absurd t
agrees false true t = absurd t
agrees false false t = refl

-- they agree in each case
missed-cases : (x y z : Bool) → all (λ m. cond (eqb (missed_of m x y z) 0) (ends_of m x y z) (not (ends_of m x y z))) (up_to side_masks) ≡ true
unfolding all up_to count_from masked
missed-cases true true true = refl
missed-cases true true false = refl
missed-cases true false true = refl
missed-cases true false false = refl
missed-cases false true true = refl
missed-cases false true false = refl
missed-cases false false true = refl
missed-cases false false false = refl

-- none is left if the point is an end of each side that the mask has
pub missed-none : (m p a b c : ℕ) → m < side_masks
    → eqb (missed_of m (eqb p a) (eqb p b) (eqb p c)) 0 ≡ all (λ d. is_end (unpacked p) d) (masked m (sides (unpacked_triangle a b c)))
unfolding is_end unpacked_triangle
missed-none m p a b c h =
    agrees (eqb (missed_of m (eqb p a) (eqb p b) (eqb p c)) 0) (ends_of m (eqb p a) (eqb p b) (eqb p c))
    (all-below-at _ (missed-cases (eqb p a) (eqb p b) (eqb p c)) h)
    ∙ sym (ap (λ l. all (λ b. b) (masked m l)) three)
    ∙ ap (all (λ b. b)) (sym (map-masked (λ d. is_end (unpacked p) d) m (sides (unpacked_triangle a b c))))
    ∙ all_map (λ b. b) (λ d. is_end (unpacked p) d) (masked m (sides (unpacked_triangle a b c)))
  where
    three : map (λ d. is_end (unpacked p) d) (sides (unpacked_triangle a b c))
        ≡ (eqb p a || eqb p b) ∷ (eqb p b || eqb p c) ∷ (eqb p c || eqb p a) ∷ []
    three = rw (same-packed p a, same-packed p b, same-packed p c) refl
