-- A point that a proper triangle abc holds is an average of its corners, with natural weights: by Cramer's rule,
-- D(a,b,c) times the point p is D(b,c,p) a + D(c,a,p) b + D(a,b,p) c. So the point's X and Y, any integers at first, are
-- naturals. An integer is the difference of two naturals here, and the rule, which is linear in the point, is used at both.
-- Assumes nothing.
use mathlib.Core.Path.{◌≡◌, refl, ap}
use Prim.Native.Nat.{ℕ, suc, ◌+◌, ◌*◌, ◌<◌}
use native.Mathlib.Nat.{add-mul, mul-pos}
use native.Mathlib.Omega.{arith}
use lib.Dec.{T, ltb→lt, le→leb}
use lib.IntN.{ℤ, pos, negsuc, nat_abs}
use lib.Signed.{◌≤ℤ◌, ◌<ℤ◌}
use Rattle.spec_plane.specs.declared.Point.{Point}
use Rattle.spec_plane.specs.Point.{orient, orient_at, FracPoint}
use Rattle.spec_plane.specs.Triangle.{Triangle, doubled_area, holds_at, strictly_inside_at, proper}
use Rattle.spec_plane.proofs.Difference.{Diff, diff-shift, diff-gap}
use Rattle.spec_plane.proofs.OrientLaws.{orient_at-difference}
use Rattle.theory_lists.proofs.Reflects.{Reflects, reflects-le_z, reflects-lt_z, reflects-and₃}
use Rattle.laws_separation.proofs.Radon.{Triple}
use Rattle.laws_separation.proofs.Cone.{◌•◌, Mixed}
use Rattle.laws_separation.proofs.Sides.{side, corner-difference, at, fraction}
use Rattle.laws_separation.proofs.Cramer.{Balanced, cramer}

-- ---- integers

-- an integer as the difference of two naturals
abbrev up : ℤ → ℕ
up (pos n) = n
up (negsuc n) = 0

abbrev down : ℤ → ℕ
down (pos n) = 0
down (negsuc n) = suc n

up-down : (z : ℤ) → Diff z (up z) (down z)
up-down (pos n) = record { at = omega arith }
up-down (negsuc n) = record { at = omega arith }

-- a natural multiple that is natural is that of a natural
natural : (z : ℤ) (d s : ℕ) → 0 < d → d * up z ≡ d * down z + s → (z ≡ pos (nat_abs z)) × (d * nat_abs z ≡ s)
natural (pos n) d s h e = (refl, omega arith)
natural (negsuc n) d s h e = absurd (omega arith)

positive-nonneg : {z : ℤ} → pos 0 <ℤ z → pos 0 ≤ℤ z
positive-nonneg {z = pos n} h = record { le = le→leb 0 n (omega arith) }
positive-nonneg {z = negsuc n} h = absurd h.lt

positive-nat_abs : {z : ℤ} → pos 0 <ℤ z → 0 < nat_abs z
positive-nat_abs {z = pos n} h = ltb→lt 0 n h.lt
positive-nat_abs {z = negsuc n} h = absurd h.lt

-- ---- the weights

-- a fractional point as the difference of two triples
abbrev plus : FracPoint → Triple
plus p = record { x = up p.X; y = up p.Y; w = p.W }

abbrev minus : FracPoint → Triple
minus p = record { x = down p.X; y = down p.Y; w = 0 }

side-parts : (q r : Point) (p : FracPoint)
    → Diff (orient_at q r p) ((side q r).high • plus p + (side q r).low • minus p)
    ((side q r).low • plus p + (side q r).high • minus p)
unfolding side ◌•◌
side-parts q r p = diff-shift _ _ (orient_at-difference q r p (up-down p.X) (up-down p.Y)) (omega arith)

-- D(q,r,p) where it is not negative
abbrev pub weight : Point → Point → FracPoint → ℕ
weight q r p = nat_abs (orient_at q r p)

-- a claim on D for each side of a triangle
abbrev AllSides : (ℤ → Type 0) → Triangle → FracPoint → Type 0
AllSides P t p = P (orient_at t.a t.b p) × (P (orient_at t.b t.c p) × P (orient_at t.c t.a p))

holds-reflects : (t : Triangle) (p : FracPoint) → Reflects (holds_at t p) (AllSides (λ z. pos 0 ≤ℤ z) t p)
unfolding holds_at
holds-reflects t p = reflects-and₃ reflects-le_z reflects-le_z reflects-le_z

inside-reflects : (t : Triangle) (p : FracPoint) → Reflects (strictly_inside_at t p) (AllSides (λ z. pos 0 <ℤ z) t p)
unfolding strictly_inside_at
inside-reflects t p = reflects-and₃ reflects-lt_z reflects-lt_z reflects-lt_z

scaled : {m n : ℕ} (k : ℕ) → m ≡ n → m * k ≡ n * k
scaled k e = ap (λ n. n * k) e

-- Cramer's rule at a point that is the difference of two triples, with ζ and ζ' for a coordinate of these
weigh : (t : Triangle) (p : FracPoint) → pos 0 <ℤ orient t.a t.b t.c → AllSides (λ z. pos 0 ≤ℤ z) t p
    → (ζ ζ' α β γ : ℕ) → Balanced t (plus p) ζ α β γ → Balanced t (minus p) ζ' α β γ
    → doubled_area t * ζ
    ≡ doubled_area t * ζ' + (weight t.b t.c p * α + weight t.c t.a p * β + weight t.a t.b p * γ)
unfolding doubled_area
weigh t p d h ζ ζ' α β γ e e' =
    let gap = diff-gap (corner-difference t.a t.b t.c) (positive-nonneg d).le in
    let u = simp add-mul at (scaled ζ gap) in
    let v = simp add-mul at (scaled ζ' gap) in
    let bc = simp add-mul at (scaled α (diff-gap (side-parts t.b t.c p) h.1.0.le)) in
    let ca = simp add-mul at (scaled β (diff-gap (side-parts t.c t.a p) h.1.1.le)) in
    let ab = simp add-mul at (scaled γ (diff-gap (side-parts t.a t.b p) h.0.le)) in
    omega arith

abbrev pub times : ℕ → Triple → Triple
times k z = record { x = k * z.x; y = k * z.y; w = k * z.w }

-- a point is an average of a triangle's corners
pub record Average (t : Triangle) (p : FracPoint) : Type 0 where
  pub point : Triple
  pub above : 0 < point.w
  pub is : p ≡ fraction point
  pub area : 0 < doubled_area t
  pub mixed :
      Mixed (weight t.b t.c p) (weight t.c t.a p) (weight t.a t.b p) (at t.a) (at t.b) (at t.c)
      (times (doubled_area t) point)

average : (t : Triangle) (p : FracPoint) → 0 < p.W → pos 0 <ℤ orient t.a t.b t.c
    → AllSides (λ z. pos 0 ≤ℤ z) t p → Average t p
unfolding doubled_area
average t p above d h =
    let area : 0 < doubled_area t = positive-nat_abs d in
    let u = cramer t (plus p) in
    let v = cramer t (minus p) in
    let x = natural p.X (doubled_area t) _ area (weigh t p d h _ _ _ _ _ u.0 v.0) in
    let y = natural p.Y (doubled_area t) _ area (weigh t p d h _ _ _ _ _ u.1 v.1) in
    let w = weigh t p d h p.W 0 1 1 1 u.2 v.2 in
    record {
      point = record { x = nat_abs p.X; y = nat_abs p.Y; w = p.W };
      above = above;
      is = λ i. record { X = x.0 i; Y = y.0 i; W = p.W };
      area = area;
      mixed = record { x = x.1; y = y.1; w = omega (arith, w); some = omega (arith, mul-pos area above, w) };
    }

-- a point that a proper triangle holds is an average of its corners
pub weights : (t : Triangle) (p : FracPoint) → T (proper t) → 0 < p.W → T (holds_at t p) → Average t p
unfolding proper
weights t p d above h = average t p above (reflects-lt_z.to d) ((holds-reflects t p).to h)

-- a point strictly inside is held, and all its weights are above zero
pub inside-held : (t : Triangle) (p : FracPoint) → T (strictly_inside_at t p) → T (holds_at t p)
inside-held t p h =
    let k = (inside-reflects t p).to h in
    (holds-reflects t p).from (positive-nonneg k.0, (positive-nonneg k.1.0, positive-nonneg k.1.1))

pub inside-weights : (t : Triangle) (p : FracPoint) → T (strictly_inside_at t p)
    → (0 < weight t.b t.c p) × (0 < weight t.c t.a p) × (0 < weight t.a t.b p)
inside-weights t p h =
    let k = (inside-reflects t p).to h in (positive-nat_abs k.1.0, positive-nat_abs k.1.1, positive-nat_abs k.0)
