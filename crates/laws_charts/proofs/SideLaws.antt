-- A point on a side of a triangle, and not at its ends, splits it into two triangles with D > 0 whose areas add up.
-- The idea: where (m + n) p = m a + n b, D is linear in p, so (m + n) D(a,p,c) = n D(a,b,c) and (m + n) D(p,b,c) = m D(a,b,c); neither m
-- nor n is 0, as p is at no end. From b to a the same holds with m and n exchanged: p splits the triangle on the other side too.
-- Assumes nothing.
use mathlib.Core.Path.{◌≡◌, refl, ap, subst}
use Prim.Native.Nat.{ℕ, ◌+◌, ◌*◌, ◌<◌}
use native.Mathlib.Nat.{mul-pos, mul-le-mul_left, eq_of_mul-eq-mul_left}
use native.Mathlib.Decide.{dec_le}
use native.Mathlib.Omega.{arith}
use lib.Dec.{T}
use Rattle.spec_plane.specs.declared.Point.{Point}
use Rattle.spec_plane.specs.Triangle.{Triangle, proper, doubled_area}
use Rattle.spec_plane.specs.Position.{OnSide}
use Rattle.spec_plane.proofs.OrientLaws.{orient_low, orient_high}
use Rattle.spec_charts.specs.Edits.{triangle}
use Rattle.laws_charts.proofs.TriangleLaws.{named, order, doubled, area-positive}

-- a side from its other end
pub side-reversed : {q r p : Point} → OnSide q r p → OnSide r q p
side-reversed s =
    record { m = s.n; n = s.m; some = omega (arith, s.some); x = omega (arith, s.x); y = omega (arith, s.y); not_start = s.not_end; not_end = s.not_start }

-- the weight of the start is not 0: p would be the end
start-some : {q r p : Point} (s : OnSide q r p) → 0 < s.m
start-some {q} {r} {p} s = elim (dec_le 1 s.m) [
  | yes h ↦ h
  | no h ↦
      let z : s.m ≡ 0 = omega arith in
      let same = eq_of_mul-eq-mul_left s.n (omega (arith, s.some)) in
      let x = same p.x r.x (omega (arith, s.x, ap (λ k. k * p.x) z, ap (λ k. k * q.x) z)) in
      let y = same p.y r.y (omega (arith, s.y, ap (λ k. k * p.y) z, ap (λ k. k * q.y) z)) in
      absurd (s.not_end (λ i. record { x = x i; y = y i }))
]

-- a sum that is linear in a point is at p the mean of what it is at both ends
mean : (m n px py qx qy rx ry u v w : ℕ) → (m + n) * px ≡ m * qx + n * rx → (m + n) * py ≡ m * qy + n * ry
    → (m + n) * (px * u + py * v + w) ≡ m * (qx * u + qy * v + w) + n * (rx * u + ry * v + w)
mean m n px py qx qy rx ry u v w e f = omega (arith, ap (λ z. z * u) e, ap (λ z. z * v) f)

-- where the difference of two such sums is 0 at one end, it is at p a share of what it is at the other
share : (s j k lp hp lq hq lr hr d : ℕ) → s * lp ≡ j * lq + k * lr → s * hp ≡ j * hq + k * hr → hq ≡ lq → hr ≡ lr + d → s * hp ≡ s * lp + k * d
share s j k lp hp lq hq lr hr d e f flat other = omega (arith, ap (λ z. j * z) flat, ap (λ z. k * z) other)

-- both shares are the whole
shares_sum : (m n l h l' h' x y d : ℕ) → 0 < m + n → (m + n) * h ≡ (m + n) * l + n * d → (m + n) * h' ≡ (m + n) * l' + m * d
    → h ≡ l + x → h' ≡ l' + y → x + y ≡ d
shares_sum m n l h l' h' x y d some e f g k =
    eq_of_mul-eq-mul_left (m + n) some (x + y) d (omega (arith, ap (λ z. (m + n) * z) g, ap (λ z. (m + n) * z) k))

-- a share above 0
share-positive : (s l h j k : ℕ) → s * h ≡ s * l + j * k → 0 < j → 0 < k → l < h
share-positive s l h j k e some more = elim (dec_le h l) [
  | yes g ↦ absurd (omega (arith, mul-le-mul_left s g, mul-pos some more))
  | no g ↦ omega arith
]

module _ (a b c p : Point) (on : OnSide a b p) (d : T (proper (triangle a b c))) where
  abbrev area : ℕ
  area = doubled_area (triangle a b c)

  at : (u v w : ℕ) → (on.m + on.n) * (p.x * u + p.y * v + w) ≡ on.m * (a.x * u + a.y * v + w) + on.n * (b.x * u + b.y * v + w)
  at u v w = mean on.m on.n p.x p.y a.x a.y b.x b.y u v w on.x on.y

  -- D(a,·,c), which is 0 at a
  first_part : (on.m + on.n) * orient_high a p c ≡ (on.m + on.n) * orient_low a p c + on.n * area
  first_part =
      share (on.m + on.n) on.m on.n (orient_low a p c) (orient_high a p c) (orient_low a a c) (orient_high a a c) _ _ area
      (omega (arith, at a.y c.x (a.x * c.y))) (omega (arith, at c.y a.x (a.y * c.x))) (omega arith) (doubled a b c d)

  -- D(·,b,c), which is 0 at b
  second-part : (on.m + on.n) * orient_high p b c ≡ (on.m + on.n) * orient_low p b c + on.m * area
  second-part =
      share (on.m + on.n) on.n on.m (orient_low p b c) (orient_high p b c) (orient_low b b c) (orient_high b b c) _ _ area
      (omega (arith, at c.y b.x (b.y * c.x))) (omega (arith, at b.y c.x (b.x * c.y))) (omega arith) (doubled a b c d)

  first-proper : T (proper (triangle a p c))
  unfolding side-reversed
  first-proper = (order a p c).from (share-positive _ _ _ on.n area first_part (start-some (side-reversed on)) (area-positive a b c d))

  second-proper : T (proper (triangle p b c))
  second-proper = (order p b c).from (share-positive _ _ _ on.m area second-part (start-some on) (area-positive a b c d))

  parts-area : doubled_area (triangle a p c) + doubled_area (triangle p b c) ≡ area
  parts-area =
      shares_sum on.m on.n (orient_low a p c) (orient_high a p c) (orient_low p b c) (orient_high p b c) _ _ area on.some first_part second-part
      (doubled a p c first-proper) (doubled p b c second-proper)

-- the two triangles that p makes of t, where it is on the side ab of t
pub record SideParts (t : Triangle) (p : Point) : Type 0 where
  pub first : T (proper (triangle t.a p t.c))
  pub second : T (proper (triangle p t.b t.c))
  pub area : doubled_area (triangle t.a p t.c) + doubled_area (triangle p t.b t.c) ≡ doubled_area t

pub side-parts : (t : Triangle) (p : Point) → T (proper t) → OnSide t.a t.b p → SideParts t p
side-parts t p d on =
    let e = named t refl refl refl in
    let d' = subst (λ s. T (proper s)) e d in
    record {
      first = first-proper t.a t.b t.c p on d';
      second = second-proper t.a t.b t.c p on d';
      area = omega (arith, parts-area t.a t.b t.c p on d', ap doubled_area e);
    }
