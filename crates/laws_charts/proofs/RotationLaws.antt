-- The rotations of a triangle: what they share, and the one that ends in a given corner.
-- Assumes nothing.
use mathlib.Core.Path.{◌≡◌, refl, sym, ◌∙◌}
use mathlib.Core.Bool.{Bool, true, false, ◌||◌}
use mathlib.Core.List.Memᴰ
use mathlib.Core.List.{[], ◌∷◌, Memᴰ}
use lib.Dec.{T}
use Rattle.theory_lists.proofs.Reflects.{Reflects, reflects-and}
use Rattle.theory_lists.proofs.ListsLaws.{Every, every-cons}
use Rattle.theory_lists.proofs.EveryLaws.{every-nil}
use Rattle.spec_plane.specs.declared.Point.{Point}
use Rattle.spec_plane.specs.Point.{same_point}
use Rattle.spec_plane.specs.Triangle.{Triangle, proper, doubled_area}
use Rattle.spec_plane.proofs.PointLaws.{same_point-reflects}
use Rattle.spec_charts.specs.Edits.{triangle, rotations, has_corner, ending_in, shares_side}
use Rattle.laws_charts.proofs.TriangleLaws.{area-rotate, proper-rotate, corners-differ}

-- of a list of three
pub three : (P : Triangle → Type 0) {t u v : Triangle} → P t → P u → P v → Every P (t ∷ u ∷ v ∷ [])
three P h g k = every-cons (h, every-cons (g, every-cons (k, every-nil P)))

-- what one turn keeps, every rotation has
pub rotations-every : (P : Triangle → Type 0) → ((p q r : Point) → P (triangle p q r) → P (triangle q r p))
    → (t : Triangle) → P t → Every P (rotations t)
unfolding rotations triangle
rotations-every P turn t h =
    let g = turn t.a t.b t.c h in
    three P h g (turn t.b t.c t.a g)

-- rotations have the same area
pub rotations-area : (t : Triangle) → Every (λ s. doubled_area s ≡ doubled_area t) (rotations t)
rotations-area t = rotations-every (λ s. doubled_area s ≡ doubled_area t) (λ p q r h. area-rotate p q r ∙ h) t refl

-- and the same sign of D
pub rotations-proper : (t : Triangle) → T (proper t) → Every (λ s. T (proper s)) (rotations t)
rotations-proper t h = rotations-every (λ s. T (proper s)) (λ p q r h. rw (proper-rotate p q r) h) t h

ending : (p : Point) (t : Triangle) (x y z : Bool) → (T x → p ≡ t.a) → (T y → p ≡ t.b) → (T z → p ≡ t.c) → T (x || y || z)
    → let s : Triangle =
    elim z [ true ↦ t | false ↦ elim y [ true ↦ triangle t.c t.a t.b | false ↦ triangle t.b t.c t.a ] ] in
    Memᴰ s (rotations t) × (s.c ≡ p)
unfolding rotations triangle
ending p t x y true a b c h = (Memᴰ.head refl, sym (c tt))
ending p t x true false a b c h = (Memᴰ.tail (Memᴰ.tail (Memᴰ.head refl)), sym (b tt))
ending p t true false false a b c h = (Memᴰ.tail (Memᴰ.head refl), sym (a tt))
ending p t false false false a b c h = absurd h

-- a triangle rotated to end in a corner is a rotation, and ends in it
pub ending_in-rotation : (p : Point) (t : Triangle) → T (has_corner p t) → Memᴰ (ending_in p t) (rotations t) × ((ending_in p t).c ≡ p)
unfolding has_corner ending_in
ending_in-rotation p t h =
    ending p t (same_point p t.a) (same_point p t.b) (same_point p t.c)
    (same_point-reflects p t.a).to (same_point-reflects p t.b).to (same_point-reflects p t.c).to h

-- the corners of a triangle differ
pub record Corners (t : Triangle) : Type 0 where
  pub ab : t.a ≡ t.b → ⊥
  pub bc : t.b ≡ t.c → ⊥
  pub ca : t.c ≡ t.a → ⊥

-- they do where D > 0
pub corners-apart : (t : Triangle) → T (proper t) → Corners t
unfolding triangle
corners-apart t h = record {
  ab = corners-differ t.a t.b t.c h;
  bc = corners-differ t.b t.c t.a (rw (proper-rotate t.a t.b t.c) h);
  ca = corners-differ t.c t.a t.b (rw (← proper-rotate t.c t.a t.b) h);
}

-- the test of a shared side: t is (a,b,c) and u is (b,a,d)
pub shares_side-reflects : (t u : Triangle) → Reflects (shares_side t u) ((t.a ≡ u.b) × (t.b ≡ u.a))
unfolding shares_side
shares_side-reflects t u = reflects-and (same_point-reflects t.a u.b) (same_point-reflects t.b u.a)

-- s does not have the side ab of u in the other direction
abbrev Unshared : Triangle → Triangle → Type 0
Unshared s u = s.a ≡ u.b → s.b ≡ u.a → ⊥

-- no rotation of a triangle with D > 0 shares a side, in the other direction, with another or itself
pub rotations-apart : (t : Triangle) → T (proper t) → Every (λ s. Every (λ u. s.a ≡ u.b → s.b ≡ u.a → ⊥) (rotations t)) (rotations t)
unfolding rotations triangle
rotations-apart t h =
    let d = corners-apart t h in
    three (λ s. Every (λ u. Unshared s u) (rotations t))
    (three (λ u. Unshared t u) (λ x y. d.ab x) (λ x y. d.ca (sym x)) (λ x y. d.bc y))
    (three (λ u. Unshared (triangle t.b t.c t.a) u) (λ x y. d.ca y) (λ x y. d.bc x) (λ x y. d.ab (sym x)))
    (three (λ u. Unshared (triangle t.c t.a t.b) u) (λ x y. d.bc (sym x)) (λ x y. d.ab y) (λ x y. d.ca x))

turned : (p q r : Point) {s : Triangle} → Memᴰ s (rotations (triangle p q r)) → Memᴰ s (rotations (triangle q r p))
unfolding rotations triangle
turned p q r (Memᴰ.head e) = Memᴰ.tail (Memᴰ.tail (Memᴰ.head e))
turned p q r (Memᴰ.tail (Memᴰ.head e)) = Memᴰ.head e
turned p q r (Memᴰ.tail (Memᴰ.tail (Memᴰ.head e))) = Memᴰ.tail (Memᴰ.head e)
turned p q r (Memᴰ.tail (Memᴰ.tail (Memᴰ.tail m))) = absurd (Memᴰ.not-nil m)

-- two rotations of a triangle are rotations of one another
pub rotations-same : (t : Triangle) → Every (λ s. Every (λ r. Memᴰ r (rotations s)) (rotations t)) (rotations t)
rotations-same t =
    rotations-every (λ s. Every (λ r. Memᴰ r (rotations s)) (rotations t)) (λ p q r h x m. turned p q r (h x m)) t (λ x m. m)
