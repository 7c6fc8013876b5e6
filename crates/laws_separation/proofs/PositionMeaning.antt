-- What the position of a point by a triangle means: `position-means`. By Cramer's rule a point p that the triangle abc holds is an average
-- of its corners with the weights D(b,c,p), D(c,a,p), D(a,b,p). Where one of them is zero, two corners are left, and p is on the side
-- between them; where two are, one corner. The other way, D is at least zero on a side where it is at both of its ends, so the triangle
-- holds the points of its sides. All is shown for side ab and corner a; for the others the triangle is turned.
-- Assumes nothing.
use mathlib.Core.Path.{◌≡◌, refl, sym, ◌∙◌, ap, subst}
use mathlib.Core.Bool.{Bool, true, false, true≢false}
use mathlib.Core.Logic.{◌↔◌}
use Prim.Native.Nat.{◌+◌, ◌*◌, ◌≤◌}
use native.Mathlib.Nat.{eq_of_mul-eq-mul_left}
use native.Mathlib.Omega.{arith}
use borrow.Author.Tests.{eq-eqb}
use lib.Dec.{T, eqb→eq}
use lib.IntN.{pos, nat_abs}
use lib.Signed.{lt_z, le_z}
use Rattle.spec_plane.specs.declared.Point.{Point}
use Rattle.spec_plane.specs.declared.Position.{Position}
use Rattle.spec_plane.specs.declared.Position.TheVariants.{Inside, OnAb, OnBc, OnCa, AtA, AtB, AtC, Outside}
use Rattle.spec_plane.specs.Point.{orient, whole}
use Rattle.spec_plane.specs.Triangle.{Triangle, doubled_area, holds, holds_at, strictly_inside, proper}
use Rattle.spec_plane.specs.Position.{on_line, position_of, position, OnSide, Means}
use Rattle.spec_plane.proofs.OrientLaws.{orient_high, orient_low, orient-rotate, orient-nonneg, orient_at-whole}
use Rattle.spec_plane.proofs.PositionLaws.{on_line-sums, on_line-start, on_line-end, positive-nonzero}
use Rattle.theory_lists.proofs.Reflects.{Reflects, reflects-dec, reflects-le, reflects-test, reflects-no, reflects-iff, reflects-and, reflects-and₃, test-true, test-false}
use Rattle.laws_separation.proofs.Radon.{Triple}
use Rattle.laws_separation.proofs.Cone.{Form, Mixed, half_closed, ◌•◌}
use Rattle.laws_separation.proofs.Sides.{side, at, corner-nonneg-reflects, proper-reflects, corners-closed}
use Rattle.laws_separation.proofs.Weights.{weight, weights, times}
use Rattle.laws_separation.proofs.Segment.{ends-in, at-between}

-- ---- signs

-- D(q,r,p) is at least zero, and whether it is zero
record Sign (q r p : Point) (zero : Bool) : Type 0 where
  nonneg : T (le_z (pos 0) (orient q r p))
  is : on_line q r p ≡ zero

positive-sign : (q r p : Point) → Reflects (lt_z (pos 0) (orient q r p)) (Sign q r p false)
positive-sign q r p =
    rw (positive-nonzero q r p)
    (reflects-iff (λ h. record { nonneg = h.0; is = test-false h.1 }) (λ s. (s.nonneg, subst T s.is))
    (reflects-and (reflects-test (le_z (pos 0) (orient q r p))) (reflects-no (reflects-test (on_line q r p)))))

nonneg-sign : (q r p : Point) → Reflects (le_z (pos 0) (orient q r p)) (Sign q r p (on_line q r p))
nonneg-sign q r p = record { to = λ h. record { nonneg = h; is = refl }; from = λ s. s.nonneg }

zero-sign : (q r p : Point) → on_line q r p ≡ true → Sign q r p true
zero-sign q r p e =
    let same = eqb→eq (orient_low q r p) (orient_high q r p) (subst T (sym e ∙ on_line-sums q r p) tt) in
    let nonneg : orient_low q r p ≤ orient_high q r p = omega arith in
    record { nonneg = (reflects-le (orient-nonneg q r p)).from nonneg; is = e }

-- those of sides ab, bc and ca
abbrev Signs : Triangle → Point → Bool → Bool → Bool → Type 0
Signs t p x y z = Sign t.a t.b p x × (Sign t.b t.c p y × Sign t.c t.a p z)

inside-signs : (t : Triangle) (p : Point) → Reflects (strictly_inside t p) (Signs t p false false false)
unfolding strictly_inside
inside-signs t p = reflects-and₃ (positive-sign _ _ p) (positive-sign _ _ p) (positive-sign _ _ p)

held-signs : (t : Triangle) (p : Point)
    → Reflects (holds t p) (Signs t p (on_line t.a t.b p) (on_line t.b t.c p) (on_line t.c t.a p))
unfolding holds
held-signs t p = reflects-and₃ (nonneg-sign _ _ p) (nonneg-sign _ _ p) (nonneg-sign _ _ p)

held : (t : Triangle) (p : Point) {x y z : Bool} → Signs t p x y z → T (holds t p)
held t p s = (held-signs t p).from (own s.0, (own s.1.0, own s.1.1))
  where
    own : {q r p : Point} {zero : Bool} → Sign q r p zero → Sign q r p (on_line q r p)
    own s = record { nonneg = s.nonneg; is = refl }

placed : (t : Triangle) (p : Point) {x y z : Bool} → Signs t p x y z → position t p ≡ position_of true x y z
unfolding position
placed t p s = rw (test-true {b = holds t p} (held t p s), s.0.is, s.1.0.is, s.1.1.is)

placed-outside : (t : Triangle) (p : Point) → (T (holds t p) → ⊥) → position t p ≡ Outside
unfolding position position_of
placed-outside t p n = rw (test-false {b = holds t p} n)

-- ---- from the signs to a corner and to a side

abbrev abc : Point → Point → Point → Triangle
abc a b c = record { a = a; b = b; c = c }

no-weight : {q r p : Point} → Sign q r p true → weight q r (whole p) ≡ 0
unfolding on_line
no-weight {q = q} {r = r} {p = p} s = rw (orient_at-whole q r p) (eqb→eq (nat_abs (orient q r p)) 0 (subst T (sym s.is) tt))

module _ (a b c p : Point) (d : T (proper (abc a b c))) where
  -- D(a,b,c) z = D(b,c,p) a + D(c,a,p) b + D(a,b,p) c
  abbrev CornersMix : Triple → Type 0
  CornersMix z =
      Mixed (weight b c (whole p)) (weight c a (whole p)) (weight a b (whole p)) (at a) (at b) (at c) (times (doubled_area (abc a b c)) z)

  corners-mix : {x y z : Bool} → Signs (abc a b c) p x y z → CornersMix (at p)
  unfolding whole holds holds_at
  corners-mix s =
      let v = weights (abc a b c) (whole p) d (omega arith) (simp orient_at-whole (held (abc a b c) p s)) in
      let e : at p ≡ v.point = ap (λ q. record { x = nat_abs q.X; y = nat_abs q.Y; w = q.W }) v.is in
      subst CornersMix (sym e) v.mixed

  corner-at : {y : Bool} → Signs (abc a b c) p true y true → p ≡ a
  corner-at s =
      let m = rw (no-weight s.0, no-weight s.1.1) at (corners-mix s) in
      let same = eq_of_mul-eq-mul_left (doubled_area (abc a b c)) (omega (arith, m.some, m.w)) in
      let x = same p.x a.x (omega (arith, m.x, ap (λ k. k * a.x) m.w)) in
      let y = same p.y a.y (omega (arith, m.y, ap (λ k. k * a.y) m.w)) in
      λ i. record { x = x i; y = y i }

  side-on : Signs (abc a b c) p true false false → OnSide a b p
  side-on s =
      let m = rw (no-weight s.0) at (corners-mix s) in
      record {
        m = weight b c (whole p);
        n = weight c a (whole p);
        some = omega (arith, m.some);
        x = omega (arith, m.x, ap (λ k. k * p.x) m.w);
        y = omega (arith, m.y, ap (λ k. k * p.y) m.w);
        not_start = λ e. true≢false (sym (on_line-end c a) ∙ ap (on_line c a) (sym e) ∙ s.1.1.is);
        not_end = λ e. true≢false (sym (on_line-start b c) ∙ ap (on_line b c) (sym e) ∙ s.1.0.is);
      }

-- ---- and back

turned : {t : Triangle} {p : Point} {x y z : Bool} → Signs t p x y z → Signs (abc t.b t.c t.a) p y z x
turned s = (s.1.0, (s.1.1, s.0))

proper-turned : (a b c : Point) → T (proper (abc a b c)) → T (proper (abc b c a))
unfolding proper
proper-turned a b c d = rw orient-rotate at d

corner-signs : (a b c p : Point) → T (proper (abc a b c)) → p ≡ a → Signs (abc a b c) p true false true
unfolding proper
corner-signs a b c p d e =
    rw e (zero-sign a b a (on_line-start a b), ((positive-sign b c a).to (proper-turned a b c d), zero-sign c a a (on_line-end c a)))

module _ (q r p : Point) (s : OnSide q r p) where
  -- a form that is at least zero at both ends of a side is so at its points
  at_side : (f : Form) → (half_closed f).Has (at q) → (half_closed f).Has (at r) → (half_closed f).Has (at p)
  at_side =
      at-between (record { start = q; end = r }) (at p)
      (record { k = s.m + s.n; m = s.m; n = s.n; first = s.x; second = s.y; whole = omega arith; some = s.some })

  -- D(q,r,p) and D(r,q,p) are, and each is the other with another sign
  side-zero : on_line q r p ≡ true
  unfolding side ◌•◌
  side-zero =
      let ends = ends-in (record { start = q; end = r }) in
      let there = at_side (side q r) ends.0.0 ends.1.0 in
      let back = at_side (side r q) ends.0.1.0 ends.1.1.0 in
      on_line-sums q r p ∙ eq-eqb (orient_low q r p) (orient_high q r p) (omega arith)

module _ (a b c p : Point) (d : T (proper (abc a b c))) (s : OnSide a b p) where
  -- a further zero would have p at an end
  no_more : (y z : Bool) → Signs (abc a b c) p true y z → Signs (abc a b c) p true false false
  no_more false false k = k
  no_more false true k = absurd (s.not_start (corner-at a b c p d k))
  no_more true z k = absurd (s.not_end (corner-at b c a p (proper-turned a b c d) (turned k)))

  side-signs : Signs (abc a b c) p true false false
  side-signs =
      let ends = corners-closed (abc a b c) ((proper-reflects (abc a b c)).to d) in
      no_more _ _ (
        zero-sign a b p (side-zero a b p s),
        (above b c ends.0.1.0 ends.1.1.0, above c a ends.0.1.1 ends.1.1.1),
      )
    where
      above : (q r : Point) → (half_closed (side q r)).Has (at a) → (half_closed (side q r)).Has (at b) → Sign q r p (on_line q r p)
      above q r i j = (nonneg-sign q r p).to ((corner-nonneg-reflects q r p).from (at_side a b p s (side q r) i j))

-- ---- all eight answers

module _ (t : Triangle) (p : Point) (d : T (proper t)) where
  once : T (proper (abc t.b t.c t.a))
  once = proper-turned t.a t.b t.c d

  twice : T (proper (abc t.c t.a t.b))
  twice = proper-turned t.b t.c t.a once

  means-of : (x y z : Bool) → Signs t p x y z → Means t p (position_of true x y z)
  unfolding position_of
  means-of false false false s = (inside-signs t p).from s
  means-of true false false s = side-on t.a t.b t.c p d s
  means-of false true false s = side-on t.b t.c t.a p once (turned s)
  means-of false false true s = side-on t.c t.a t.b p twice (turned (turned s))
  means-of true false true s = corner-at t.a t.b t.c p d s
  means-of true true false s = corner-at t.b t.c t.a p once (turned s)
  means-of false true true s = corner-at t.c t.a t.b p twice (turned (turned s))
  means-of true true true s = corner-at t.a t.b t.c p d s

  position-meant : Means t p (position t p)
  position-meant = elim (reflects-dec (reflects-test (holds t p))) [
    | yes h ↦ let s = (held-signs t p).to h in subst (Means t p) (sym (placed t p s)) (means-of _ _ _ s)
    | no n ↦ subst (Means t p) (sym (placed-outside t p n)) n
  ]

  position-of : (q : Position) → Means t p q → position t p ≡ q
  unfolding position_of
  position-of Inside m = placed t p ((inside-signs t p).to m)
  position-of OnAb m = placed t p (side-signs t.a t.b t.c p d m)
  position-of OnBc m = placed t p (turned (turned (side-signs t.b t.c t.a p once m)))
  position-of OnCa m = placed t p (turned (side-signs t.c t.a t.b p twice m))
  position-of AtA m = placed t p (corner-signs t.a t.b t.c p d m)
  position-of AtB m = placed t p (turned (turned (corner-signs t.b t.c t.a p once m)))
  position-of AtC m = placed t p (turned (corner-signs t.c t.a t.b p twice m))
  position-of Outside m = placed-outside t p m

-- what each answer means, for triangles with D > 0
pub position-means : (t : Triangle) (p : Point) → T (proper t) → (q : Position) → (position t p ≡ q) ↔ Means t p q
position-means t p d q = (λ e. subst (Means t p) e (position-meant t p d), position-of t p d q)
