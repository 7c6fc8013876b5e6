-- Two triangles with D > 0 whose bounding boxes share no more than a border share no ground: a point strictly inside a
-- triangle is an average of its corners with weights above zero, and these are not all on one upright or level line, so the
-- point is strictly between the sides of the box.
-- Assumes nothing.
use mathlib.Core.Path.{◌≡◌, ◌∙◌, ap}
use mathlib.Core.Bool.{false}
use mathlib.Core.Logic.{◌⊎◌, inl, inr}
use Prim.Native.Nat.{ℕ, zero, suc, ◌+◌, ◌*◌, ◌≤◌, ◌<◌}
use native.Mathlib.Decide.{dec_le}
use native.Mathlib.Nat.{mul-le-mul_left, lt_of_mul-lt-mul_left}
use native.Mathlib.Omega.{arith}
use lib.Dec.{T, ltb→lt}
use lib.IntN.{nat_abs}
use Rattle.theory_lists.proofs.Reflects.{test-false}
use Rattle.spec_plane.specs.Point.{FracPoint}
use Rattle.spec_plane.specs.Triangle.{Triangle, proper, doubled_area, strictly_inside_at}
use Rattle.spec_plane.specs.Box.{Box, triangle_box}
use Rattle.spec_plane.specs.Interior.{interiors_meet}
use Rattle.spec_plane.proofs.OrientLaws.{orient_low, orient_high, orient-positive}
use Rattle.laws_separation.proofs.Separation.{interiors-meet-iff}
use Rattle.laws_separation.proofs.Weights.{weights, inside-held, inside-weights}

-- ---- one coordinate

-- z / w is strictly between any bounds of a, b and c
abbrev Between : ℕ → ℕ → ℕ → ℕ → ℕ → Type 0
Between a b c z w =
    (m : ℕ) → (m ≤ a → m ≤ b → m ≤ c → m * w < z) × (a ≤ m → b ≤ m → c ≤ m → z < m * w)

-- a weight above zero keeps the difference of two numbers
gain : (k m n : ℕ) → 0 < k → m ≤ n → k * m + n ≤ k * n + m
gain zero m n p h = absurd (omega arith)
gain (suc k) m n p h = omega (arith, mul-le-mul_left k h)

-- so is an average with weights above zero, unless the three are equal
average-between : (d w z k l n a b c : ℕ) → d * z ≡ k * a + l * b + n * c → d * w ≡ k * 1 + l * 1 + n * 1
    → 0 < k → 0 < l → 0 < n → (a ≡ b → b ≡ c → ⊥) → Between a b c z w
average-between d w z k l n a b c e f hk hl hn differ m =
    let g = ap (λ x. m * x) f in (
      λ ha hb hc.
          let s : 3 * m < a + b + c =
          elim (dec_le (suc (3 * m)) (a + b + c)) [ yes s ↦ s | no s ↦ absurd (differ (omega arith) (omega arith)) ] in
          lt_of_mul-lt-mul_left d (omega (arith, gain k m a hk ha, gain l m b hl hb, gain n m c hn hc)),
      λ ha hb hc.
          let s : a + b + c < 3 * m =
          elim (dec_le (suc (a + b + c)) (3 * m)) [ yes s ↦ s | no s ↦ absurd (differ (omega arith) (omega arith)) ] in
          lt_of_mul-lt-mul_left d (omega (arith, gain k a m hk ha, gain l b m hl hb, gain n c m hn hc)),
    )

-- ---- triangles

-- D of three points on one upright or level line is 0
flat : (a b c u v w : ℕ) → a ≡ b → b ≡ c → b * u + a * w + v * c ≡ b * w + v * a + u * c
flat a b c u v w e f = omega (arith, ap (λ x. x * u) f, ap (λ x. x * w) e, ap (λ x. v * x) (e ∙ f))

-- D > 0 as an order of two sums
proper-sums : (t : Triangle) → T (proper t) → orient_low t.a t.b t.c < orient_high t.a t.b t.c
unfolding proper
proper-sums t h = ltb→lt _ _ (rw (orient-positive t.a t.b t.c) at h)

module _ (t : Triangle) (p : FracPoint) (d : T (proper t)) (above : 0 < p.W) (h : T (strictly_inside_at t p)) where
  -- a point strictly inside is strictly between left and right
  inside-x : Between t.a.x t.b.x t.c.x (nat_abs p.X) p.W
  inside-x =
      let v = weights t p d above (inside-held t p h) in
      let k = inside-weights t p h in
      let sums = proper-sums t d in
      average-between (doubled_area t) p.W (nat_abs p.X) _ _ _ _ _ _
      (ap (λ q. doubled_area t * nat_abs q.X) v.is ∙ v.mixed.x)
      (ap (λ q. doubled_area t * q.W) v.is ∙ v.mixed.w)
      k.0 k.1 k.2
      (λ e f. omega (arith, flat t.a.x t.b.x t.c.x t.a.y t.b.y t.c.y e f))

  -- and between top and bottom
  inside-y : Between t.a.y t.b.y t.c.y (nat_abs p.Y) p.W
  inside-y =
      let v = weights t p d above (inside-held t p h) in
      let k = inside-weights t p h in
      let sums = proper-sums t d in
      average-between (doubled_area t) p.W (nat_abs p.Y) _ _ _ _ _ _
      (ap (λ q. doubled_area t * nat_abs q.Y) v.is ∙ v.mixed.y)
      (ap (λ q. doubled_area t * q.W) v.is ∙ v.mixed.w)
      k.0 k.1 k.2
      (λ e f. omega (arith, flat t.a.y t.b.y t.c.y t.a.x t.b.x t.c.x e f))

-- ---- boxes

-- no number is strictly between any bounds of both where m is at least three of them and at most the others
parted : (a b c d e f z w m : ℕ) → Between a b c z w → Between d e f z w
    → (a ≤ m) × ((b ≤ m) × (c ≤ m)) → (m ≤ d) × ((m ≤ e) × (m ≤ f)) → ⊥
parted a b c d e f z w m s t h k =
    let u = (s m).1 h.0 h.1.0 h.1.1 in let v = (t m).0 k.0 k.1.0 k.1.1 in omega arith

-- two boxes have no more than a border in common
abbrev pub Separate : Box → Box → Type 0
Separate b d = (((b.right ≤ d.left) ⊎ (d.right ≤ b.left)) ⊎ (b.bottom ≤ d.top)) ⊎ (d.bottom ≤ b.top)

-- two triangles with D > 0 whose bounding boxes have no more than a border in common share no ground
pub separate-disjoint : (s t : Triangle) → T (proper s) → T (proper t) → Separate (triangle_box s) (triangle_box t)
    → interiors_meet s t ≡ false
unfolding triangle_box
separate-disjoint s t ds dt k =
    test-false λ h.
    let c = (interiors-meet-iff s t ds dt).1 h in
    let p = c.point in
    let sx = inside-x s p ds c.above c.first in
    let sy = inside-y s p ds c.above c.first in
    let tx = inside-x t p dt c.above c.second in
    let ty = inside-y t p dt c.above c.second in
    let S = triangle_box s in
    let T' = triangle_box t in
    elim k [
      | inl (inl (inl l)) ↦
          parted s.a.x s.b.x s.c.x t.a.x t.b.x t.c.x _ _ S.right sx tx (omega arith) (omega arith)
      | inl (inl (inr l)) ↦
          parted t.a.x t.b.x t.c.x s.a.x s.b.x s.c.x _ _ T'.right tx sx (omega arith) (omega arith)
      | inl (inr l) ↦
          parted s.a.y s.b.y s.c.y t.a.y t.b.y t.c.y _ _ S.bottom sy ty (omega arith) (omega arith)
      | inr l ↦
          parted t.a.y t.b.y t.c.y s.a.y s.b.y s.c.y _ _ T'.bottom ty sy (omega arith) (omega arith)
    ]
