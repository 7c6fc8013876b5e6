-- Triangles under the edits: D of a rotation, of the three parts of a triangle, and of the two halves of a quadrilateral.
-- The idea: where D > 0, `doubled_area` is what `orient_high` has above `orient_low`, and these are sums of products, in which
-- each law is linear.
-- Assumes nothing.
use mathlib.Core.Path.{◌≡◌, sym, ap, subst}
use Prim.Native.Nat.{ℕ, ◌+◌, ◌*◌, ◌<◌}
use native.Mathlib.Omega.{arith}
use lib.Dec.{T}
use lib.IntN.{pos, nat_abs}
use lib.Signed.{lt_z}
use Rattle.spec_plane.specs.declared.Point.{Point}
use Rattle.spec_plane.specs.Point.{orient}
use Rattle.spec_plane.specs.Triangle.{Triangle, proper, strictly_inside, doubled_area}
use Rattle.spec_plane.proofs.Difference.{diff-nat_abs}
use Rattle.spec_plane.proofs.OrientLaws.{orient_low, orient_high, orient-difference, orient-positive, orient-rotate}
use Rattle.theory_lists.proofs.Reflects.{Reflects, reflects-le, reflects-test, reflects-and₃}
use Rattle.spec_charts.specs.Edits.{triangle}

-- a triangle by its corners
pub named : (t : Triangle) {a b c : Point} → t.a ≡ a → t.b ≡ b → t.c ≡ c → t ≡ triangle a b c
unfolding triangle
named t x y z i = record { a = x i; b = y i; c = z i }

-- D(p,q,r) is n
abbrev pub Doubled : Point → Point → Point → ℕ → Type 0
Doubled p q r n = orient_high p q r ≡ orient_low p q r + n

-- D > 0 as an order of two sums
pub order : (p q r : Point) → Reflects (proper (triangle p q r)) (orient_low p q r < orient_high p q r)
unfolding triangle proper
order p q r = reflects-le (orient-positive p q r)

-- where D > 0 it is the doubled area
pub doubled : (p q r : Point) → T (proper (triangle p q r)) → Doubled p q r (doubled_area (triangle p q r))
unfolding triangle doubled_area
doubled p q r h = omega (arith, (order p q r).to h, diff-nat_abs (orient-difference p q r))

-- which is above zero
pub area-positive : (p q r : Point) → T (proper (triangle p q r)) → 0 < doubled_area (triangle p q r)
area-positive p q r h = omega (arith, (order p q r).to h, doubled p q r h)

-- and what D(p,q,r) is, is the doubled area
pub doubled-area : (p q r : Point) (n : ℕ) → Doubled p q r n → doubled_area (triangle p q r) ≡ n
unfolding triangle doubled_area
doubled-area p q r n e = omega (arith, diff-nat_abs (orient-difference p q r))

doubled-proper : (p q r : Point) (n : ℕ) → Doubled p q r n → 0 < n → T (proper (triangle p q r))
doubled-proper p q r n e h = (order p q r).from (omega arith)

-- ---- rotations

-- a rotation keeps the area
pub area-rotate : (p q r : Point) → doubled_area (triangle q r p) ≡ doubled_area (triangle p q r)
unfolding triangle doubled_area
area-rotate p q r = ap nat_abs (sym (orient-rotate p q r))

-- and D > 0
pub proper-rotate : (p q r : Point) → proper (triangle q r p) ≡ proper (triangle p q r)
unfolding triangle proper
proper-rotate p q r = ap (lt_z (pos 0)) (sym (orient-rotate p q r))

-- ---- three triangles around a point

-- D(a,b,p), D(b,c,p) and D(c,a,p) add up to D(a,b,c), in coordinates
pub around : (ax ay bx by cx cy px py k l m : ℕ)
    → bx * py + by * ax + ay * px ≡ bx * ay + ax * py + by * px + k
    → cx * py + cy * bx + by * px ≡ cx * by + bx * py + cy * px + l
    → ax * py + ay * cx + cy * px ≡ ax * cy + cx * py + ay * px + m
    → bx * cy + by * ax + ay * cx ≡ bx * ay + ax * cy + by * cx + (k + l + m)
around ax ay bx by cx cy px py k l m e f g = omega arith

module _ (a b c p : Point) (ab : T (proper (triangle a b p))) (bc : T (proper (triangle b c p))) (ca : T (proper (triangle c a p))) where
  -- D(a,b,c) = D(a,b,p) + D(b,c,p) + D(c,a,p)
  doubled-around : Doubled a b c (doubled_area (triangle a b p) + doubled_area (triangle b c p) + doubled_area (triangle c a p))
  doubled-around =
      around a.x a.y b.x b.y c.x c.y p.x p.y _ _ _ (doubled a b p ab) (doubled b c p bc) (doubled c a p ca)

  -- so the doubled areas add up
  pub area-around : doubled_area (triangle a b c) ≡ doubled_area (triangle a b p) + doubled_area (triangle b c p) + doubled_area (triangle c a p)
  area-around = doubled-area a b c _ doubled-around

  -- and D(a,b,c) > 0 where these three are
  pub proper-around : T (proper (triangle a b c))
  proper-around = doubled-proper a b c _ doubled-around (omega (arith, area-positive a b p ab))

-- the parts into which a point strictly inside splits a triangle have D > 0
pub inside-parts : (t : Triangle) (p : Point) → T (strictly_inside t p)
    → T (proper (triangle t.a t.b p)) × (T (proper (triangle t.b t.c p)) × T (proper (triangle t.c t.a p)))
unfolding strictly_inside triangle proper
inside-parts t p h =
    (reflects-and₃ (side t.a t.b) (side t.b t.c) (side t.c t.a)).to h
  where
    side : (q r : Point) → Reflects (lt_z (pos 0) (orient q r p)) (T (proper (triangle q r p)))
    side q r = reflects-test (lt_z (pos 0) (orient q r p))

-- ---- two triangles on both sides of a diagonal

across : (ax ay bx by cx cy dx dy k l m n : ℕ)
    → bx * cy + by * ax + ay * cx ≡ bx * ay + ax * cy + by * cx + k
    → ax * dy + ay * bx + by * dx ≡ ax * by + bx * dy + ay * dx + l
    → dx * cy + dy * ax + ay * cx ≡ dx * ay + ax * cy + dy * cx + m
    → bx * cy + by * dx + dy * cx ≡ bx * dy + dx * cy + by * cx + n
    → m + n ≡ k + l
across ax ay bx by cx cy dx dy k l m n e f g h = omega arith

-- D(a,d,c) + D(d,b,c) = D(a,b,c) + D(b,a,d)
pub area-across : (a b c d : Point) → T (proper (triangle a b c)) → T (proper (triangle b a d))
    → T (proper (triangle a d c)) → T (proper (triangle d b c))
    → doubled_area (triangle a d c) + doubled_area (triangle d b c) ≡ doubled_area (triangle a b c) + doubled_area (triangle b a d)
area-across a b c d e f g h =
    across a.x a.y b.x b.y c.x c.y d.x d.y _ _ _ _
    (doubled a b c e) (doubled b a d f) (doubled a d c g) (doubled d b c h)

-- ---- corners

-- D of two equal points and a third is 0
flat : (p r : Point) → T (proper (triangle p p r)) → ⊥
flat p r h = omega (arith, doubled p p r h, area-positive p p r h)

-- the corners of a triangle with D > 0 differ
pub corners-differ : (p q r : Point) → T (proper (triangle p q r)) → p ≡ q → ⊥
corners-differ p q r h e = flat p r (subst (λ s. T (proper (triangle p s r))) (sym e) h)

-- of a triangle and its reverse at most one has D > 0
pub reversed-proper : (p q r : Point) → T (proper (triangle p q r)) → T (proper (triangle q p r)) → ⊥
reversed-proper p q r h g = omega (arith, (order p q r).to h, (order q p r).to g)
