-- Tests of all four corners of a box by one corner. D(p,q,(x,y)) is a x + b y − K with whole a and b; where a or b would be
-- negative, the coordinate is counted from the other end of the grid, 65536 − x. So with a = |py − qy| and b = |qx − px|,
-- D is `steep_x` × `mirror_x` + `steep_y` × `mirror_y` − `offset`, all natural, and D grows with each mirrored coordinate: it is
-- largest over a box where both are (`far_x`, `far_y`) and smallest where both are smallest (`near_x`, `near_y`).
-- Assumes nothing.
use mathlib.Core.Path.{◌≡◌, refl, ap}
use mathlib.Core.Bool.{Bool, true, false, cond}
use mathlib.Core.Logic.{◌↔◌}
use Prim.Native.Nat.{ℕ, ◌+◌, ◌*◌, ◌-◌, ◌≤◌, ◌<◌, min, max}
use native.Mathlib.Nat.{mul-le-mul_left}
use native.Mathlib.Omega.{arith}
use borrow.Author.Tests.{leb-true, leb-false}
use lib.Dec.{leb, ltb}
use Rattle.theory_lists.proofs.Reflects.{Reflects, reflects-le, reflects-ltb, reflects-and, reflects-iff}
use Rattle.spec_plane.specs.declared.Point.{Point}
use Rattle.spec_plane.specs.Point.{orient, distance}
use Rattle.spec_plane.specs.Triangle.{Triangle}
use Rattle.spec_plane.specs.Box.{Box, Framed, all_corners, all_inner, all_outer}
use Rattle.spec_plane.proofs.Difference.{Diff, diff-shift, diff-above, diff-below}
use Rattle.spec_plane.proofs.OrientLaws.{orient-difference}

-- ---- one coordinate

-- x where v ≤ u, and otherwise x counted from the other end
abbrev pub mirror : ℕ → ℕ → ℕ → ℕ
mirror u v x = cond (leb v u) x (65536 - x)

-- the largest of these from low to high, and the smallest
abbrev pub far : ℕ → ℕ → ℕ → ℕ → ℕ
far u v low high = cond (leb v u) high (65536 - low)

abbrev pub near : ℕ → ℕ → ℕ → ℕ → ℕ
near u v low high = cond (leb v u) low (65536 - high)

grows : (u v k x z : ℕ) → u ≡ v + k → u * x + v * z + k * z ≡ v * x + u * z + k * x
grows u v k x z e = omega (arith, ap (λ t. t * x) e, ap (λ t. t * z) e)

falls : (u v k x z x' z' : ℕ) → v ≡ u + k → x + x' ≡ z + z' → u * x + v * z + k * z' ≡ v * x + u * z + k * x'
falls u v k x z x' z' e h = omega (arith, ap (λ t. t * x) e, ap (λ t. t * z) e, ap (λ t. k * t) h)

-- (u − v) (x − z) = |u − v| (x' − z'), mirrored
mirrored : (u v x z : ℕ) → x ≤ 65536 → z ≤ 65536
    → u * x + v * z + distance u v * mirror u v z ≡ v * x + u * z + distance u v * mirror u v x
mirrored u v x z h i = go (leb v u) refl
  where
    go : (t : Bool) → leb v u ≡ t
        → u * x + v * z + distance u v * cond t z (65536 - z) ≡ v * x + u * z + distance u v * cond t x (65536 - x)
    go true e = let l = leb-true v u e in grows u v (distance u v) x z (omega arith)
    go false e = let l = leb-false v u e in falls u v (distance u v) x z _ _ (omega arith) (omega arith)

-- k times the larger of two, and the smaller
larger : (k m n : ℕ) → m ≤ n → (k * n ≡ max (k * m) (k * n)) × (k * n ≡ max (k * n) (k * m))
larger k m n h = omega (arith, mul-le-mul_left k h)

smaller : (k m n : ℕ) → m ≤ n → (k * m ≡ min (k * m) (k * n)) × (k * m ≡ min (k * n) (k * m))
smaller k m n h = omega (arith, mul-le-mul_left k h)

module _ (u v low high : ℕ) (h : low ≤ high) (k : ℕ) where
  far-largest : k * far u v low high ≡ max (k * mirror u v low) (k * mirror u v high)
  far-largest = go (leb v u)
    where
      go : (t : Bool)
          → k * cond t high (65536 - low) ≡ max (k * cond t low (65536 - low)) (k * cond t high (65536 - high))
      go true = (larger k low high h).0
      go false = (larger k (65536 - high) (65536 - low) (omega arith)).1

  near-smallest : k * near u v low high ≡ min (k * mirror u v low) (k * mirror u v high)
  near-smallest = go (leb v u)
    where
      go : (t : Bool)
          → k * cond t low (65536 - high) ≡ min (k * cond t low (65536 - low)) (k * cond t high (65536 - high))
      go true = (smaller k low high h).0
      go false = (smaller k (65536 - high) (65536 - low) (omega arith)).1

-- ---- both coordinates

-- |py − qy| and |qx − px|
abbrev pub steep_x : Point → Point → ℕ
steep_x p q = distance p.y q.y

abbrev pub steep_y : Point → Point → ℕ
steep_y p q = distance q.x p.x

-- x, mirrored unless qy ≤ py, and y, mirrored unless px ≤ qx
abbrev pub mirror_x : Point → Point → ℕ → ℕ
mirror_x p q = mirror p.y q.y

abbrev pub mirror_y : Point → Point → ℕ → ℕ
mirror_y p q = mirror q.x p.x

-- the largest mirrored x from left to right, and y from top to bottom
abbrev pub far_x : Point → Point → ℕ → ℕ → ℕ
far_x p q = far p.y q.y

abbrev pub far_y : Point → Point → ℕ → ℕ → ℕ
far_y p q = far q.x p.x

-- and the smallest
abbrev pub near_x : Point → Point → ℕ → ℕ → ℕ
near_x p q = near p.y q.y

abbrev pub near_y : Point → Point → ℕ → ℕ → ℕ
near_y p q = near q.x p.x

-- what D takes away
abbrev pub offset : Point → Point → ℕ
offset p q = steep_x p q * mirror_x p q p.x + steep_y p q * mirror_y p q p.y

-- a point of the grid
pub record OnGrid (p : Point) : Type 0 where
  pub x : p.x ≤ 65535
  pub y : p.y ≤ 65535

-- the corners of a triangle are points of the grid
pub record CornersOnGrid (t : Triangle) : Type 0 where
  pub a : OnGrid t.a
  pub b : OnGrid t.b
  pub c : OnGrid t.c

sum : (u v w z x y a b c d : ℕ) → u * x + v * z + a ≡ v * x + u * z + b → w * y + z * u + c ≡ z * y + w * u + d
    → w * y + v * z + u * x + (a + c) ≡ b + d + (w * u + z * y + v * x)
sum u v w z x y a b c d e f = omega arith

-- D is a sum of the mirrored coordinates, less the offset; so at points of the grid and at corners of its squares.
pub orient-mirrored : (p q r : Point) → OnGrid p → r.x ≤ 65536 → r.y ≤ 65536
    → Diff (orient p q r) (steep_x p q * mirror_x p q r.x + steep_y p q * mirror_y p q r.y) (offset p q)
orient-mirrored p q r g h i =
    diff-shift _ _ (orient-difference p q r)
    (sum p.y q.y q.x p.x r.x r.y _ _ _ _
    (mirrored p.y q.y r.x p.x h (omega arith)) (mirrored q.x p.x r.y p.y i (omega arith)))

-- ---- the tests

-- two tests of one claim
same : {a b : Bool} {P : Type 0} → Reflects a P → Reflects b P → a ≡ b
same {a = true} {b = true} r s = refl
same {a = true} {b = false} r s = absurd (s.from (r.to tt))
same {a = false} {b = true} r s = absurd (r.from (s.to tt))
same {a = false} {b = false} r s = refl

-- a claim at all four corners
abbrev Four : (ℕ → ℕ → Type 0) → Box → Type 0
Four P b = ((P b.left b.top × P b.right b.top) × P b.left b.bottom) × P b.right b.bottom

four-reflects : (f : Point → Bool) (P : ℕ → ℕ → Type 0) (b : Box) → Framed b
    → ((r : Point) → r.x ≤ 65536 → r.y ≤ 65536 → Reflects (f r) (P r.x r.y))
    → Reflects (all_corners f b) (Four P b)
unfolding all_corners
four-reflects f P b h k =
    reflects-and
    (reflects-and (reflects-and (k _ (omega arith) (omega arith)) (k _ (omega arith) (omega arith)))
    (k _ (omega arith) (omega arith)))
    (k _ (omega arith) (omega arith))

below : (m n o k a c l : ℕ) → a ≡ max m n → c ≡ max o k
    → (a + c < l) ↔ ((((m + o < l) × (n + o < l)) × (m + k < l)) × (n + k < l))
below m n o k a c l e f = omega arith

above : (m n o k a c l : ℕ) → a ≡ min m n → c ≡ min o k
    → (l < a + c) ↔ ((((l < m + o) × (l < n + o)) × (l < m + k)) × (l < n + k))
above m n o k a c l e f = omega arith

module _ (p q : Point) (g : OnGrid p) (b : Box) (h : Framed b) where
  -- All four corners of a box have D < 0 exactly where the largest sum is below the offset.
  pub all_outer-extreme : all_outer p q b
      ≡ ltb (steep_x p q * far_x p q b.left b.right + steep_y p q * far_y p q b.top b.bottom) (offset p q)
  unfolding all_outer
  all_outer-extreme =
      let x = far-largest p.y q.y b.left b.right h.wide (steep_x p q) in
      let y = far-largest q.x p.x b.top b.bottom h.tall (steep_y p q) in
      let e = below _ _ _ _ _ _ (offset p q) x y in
      same
      (four-reflects _ (λ x y. steep_x p q * mirror_x p q x + steep_y p q * mirror_y p q y < offset p q) b h
      (λ r i j. reflects-le (diff-below (orient-mirrored p q r g i j))))
      (reflects-iff e.0 e.1 (reflects-ltb _ _))

  -- All four corners of a box have D > 0 exactly where the smallest sum is above the offset.
  pub all_inner-extreme : all_inner p q b
      ≡ ltb (offset p q) (steep_x p q * near_x p q b.left b.right + steep_y p q * near_y p q b.top b.bottom)
  unfolding all_inner
  all_inner-extreme =
      let x = near-smallest p.y q.y b.left b.right h.wide (steep_x p q) in
      let y = near-smallest q.x p.x b.top b.bottom h.tall (steep_y p q) in
      let e = above _ _ _ _ _ _ (offset p q) x y in
      same
      (four-reflects _ (λ x y. offset p q < steep_x p q * mirror_x p q x + steep_y p q * mirror_y p q y) b h
      (λ r i j. reflects-le (diff-above (orient-mirrored p q r g i j))))
      (reflects-iff e.0 e.1 (reflects-ltb _ _))
