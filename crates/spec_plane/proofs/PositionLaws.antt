-- What the position of a point says of the older tests, for any three corners: the triangle holds the point where it is not outside,
-- and the point is strictly inside where it is inside.
-- Assumes nothing.
use mathlib.Core.Path.{◌≡◌, refl, sym, ◌∙◌, ap₂}
use mathlib.Core.Bool.{Bool, true, false, not, ◌&&◌}
use Prim.Native.Nat.{ℕ}
use native.Mathlib.Decide.{dec_le}
use native.Mathlib.Omega.{arith}
use borrow.Author.Tests.{eq-eqb, ne_eqb, lt-ltb, le-ltb, le-leb, lt-leb}
use lib.Dec.{eqb, ltb, leb}
use lib.IntN.{pos}
use lib.Signed.{lt_z, le_z}
use Rattle.spec_plane.specs.declared.Point.{Point}
use Rattle.spec_plane.specs.Point.{orient}
use Rattle.spec_plane.specs.Triangle.{Triangle, holds, strictly_inside}
use Rattle.spec_plane.specs.Position.{on_line, position_of, position, is_held, is_inside}
use Rattle.spec_plane.proofs.Difference.{diff-zero}
use Rattle.spec_plane.proofs.OrientLaws.{orient_high, orient_low, orient-difference, orient-positive, orient-nonneg}

-- ---- one side

-- D is zero where its two sums are equal
pub on_line-sums : (q r p : Point) → on_line q r p ≡ eqb (orient_low q r p) (orient_high q r p)
unfolding on_line
on_line-sums q r p = diff-zero (orient-difference q r p)

-- both ends of a side are on its line
pub on_line-start : (q r : Point) → on_line q r q ≡ true
on_line-start q r = on_line-sums q r q ∙ eq-eqb (orient_low q r q) (orient_high q r q) (omega arith)

pub on_line-end : (q r : Point) → on_line q r r ≡ true
on_line-end q r = on_line-sums q r r ∙ eq-eqb (orient_low q r r) (orient_high q r r) (omega arith)

above : (l h : ℕ) → ltb l h ≡ leb l h && not (eqb l h)
above l h = elim (dec_le l h) [
  | yes g ↦ elim (dec_le h l) [
    | yes f ↦ rw (le-ltb l h f, le-leb l h g, eq-eqb l h (omega arith))
    | no f ↦ rw (lt-ltb l h (omega arith), le-leb l h g, ne_eqb l h (omega arith))
  ]
  | no g ↦ rw (le-ltb l h (omega arith), lt-leb l h (omega arith))
]

-- D > 0 where D ≥ 0 and D is not zero
pub positive-nonzero : (q r p : Point) → lt_z (pos 0) (orient q r p) ≡ le_z (pos 0) (orient q r p) && not (on_line q r p)
positive-nonzero q r p =
    orient-positive q r p
    ∙ above (orient_low q r p) (orient_high q r p)
    ∙ sym (ap₂ (λ a z. a && not z) (orient-nonneg q r p) (on_line-sums q r p))

-- ---- all three

held_of : (h x y z : Bool) → is_held (position_of h x y z) ≡ h
unfolding position_of
held_of false x y z = refl
held_of true false false false = refl
held_of true true false false = refl
held_of true false true false = refl
held_of true false false true = refl
held_of true true false true = refl
held_of true true true false = refl
held_of true false true true = refl
held_of true true true true = refl

-- "It holds p" where p is not outside
pub position-held : (t : Triangle) (p : Point) → is_held (position t p) ≡ holds t p
unfolding position
position-held t p = held_of (holds t p) _ _ _

inside_of : (h x y z : Bool) → is_inside (position_of h x y z) ≡ h && (not x && not y && not z)
unfolding position_of
inside_of false x y z = refl
inside_of true false false false = refl
inside_of true true false false = refl
inside_of true false true false = refl
inside_of true false false true = refl
inside_of true true false true = refl
inside_of true true true false = refl
inside_of true false true true = refl
inside_of true true true true = refl

-- three tests and three others, side by side
both_of : (a b c x y z : Bool) → (a && b && c) && (x && y && z) ≡ (a && x) && (b && y) && (c && z)
both_of false b c x y z = refl
both_of true false c false y z = refl
both_of true false c true y z = refl
both_of true true false false y z = refl
both_of true true false true false z = refl
both_of true true false true true z = refl
both_of true true true x y z = refl

-- "p is strictly inside" where p is inside
pub position-inside : (t : Triangle) (p : Point) → is_inside (position t p) ≡ strictly_inside t p
unfolding position strictly_inside holds
position-inside t p =
    inside_of (holds t p) (on_line t.a t.b p) (on_line t.b t.c p) (on_line t.c t.a p)
    ∙ both_of (le_z (pos 0) (orient t.a t.b p)) (le_z (pos 0) (orient t.b t.c p)) (le_z (pos 0) (orient t.c t.a p)) _ _ _
    ∙ sym (ap₂ ◌&&◌ (ap₂ ◌&&◌ (positive-nonzero t.a t.b p) (positive-nonzero t.b t.c p)) (positive-nonzero t.c t.a p))
