-- Cones: predicates on points (triples of naturals) that are kept when points are mixed with natural weights that are not
-- all zero. A linear form, kept as the difference of two with natural coefficients, gives an open half-plane, where it is
-- above zero, and a closed one, where it is at least zero; an intersection of cones is a cone.
-- Assumes nothing.
use mathlib.Core.Path.{◌≡◌}
use mathlib.Core.List.{List, [], ◌∷◌}
use Prim.Native.Nat.{ℕ, ◌+◌, ◌*◌, ◌≤◌, ◌<◌}
use native.Mathlib.Nat.{mul-add, mul-le-mul_left}
use native.Mathlib.Omega.{arith}
use Rattle.laws_separation.proofs.Radon.{Triple}

-- z is p, q and r, mixed with the weights l, m and n
pub record Mixed (l m n : ℕ) (p q r z : Triple) : Type 0 where
  pub x : z.x ≡ l * p.x + m * q.x + n * r.x
  pub y : z.y ≡ l * p.y + m * q.y + n * r.y
  pub w : z.w ≡ l * p.w + m * q.w + n * r.w
  pub some : 0 < l + m + n

pub record Cone : Type 1 where
  pub Has : Triple → Type 0
  pub mix : {l m n : ℕ} {p q r z : Triple} → Mixed l m n p q r z → Has p → Has q → Has r → Has z

-- "some point lies in it"
pub record Inhabited (c : Cone) : Type 0 where
  pub point : Triple
  pub above : 0 < point.w
  pub has : c.Has point

-- a cone that holds whatever another holds
pub inhabited-more : (c d : Cone) → ((t : Triple) → c.Has t → d.Has t) → Inhabited c → Inhabited d
inhabited-more c d f s = record { point = s.point; above = s.above; has = f s.point s.has }

infixr 40 ◌∩◌
abbrev pub ◌∩◌ : Cone → Cone → Cone
c ∩ d = record {
  Has = λ t. c.Has t × d.Has t;
  mix = λ m p q r. (c.mix m p.0 q.0 r.0, d.mix m p.1 q.1 r.1);
}

-- the intersection of one or more cones
abbrev pub intersection : Cone → List Cone → Cone
intersection c [] = c
intersection c (d ∷ ds) = c ∩ intersection d ds

-- a sum with natural coefficients: the triple of these, at a point
infixl 80 ◌•◌
unfoldable pub ◌•◌ : Triple → Triple → ℕ
u • t = u.x * t.x + u.y * t.y + u.w * t.w

row : (k l m n p q r : ℕ) → k * (l * p + m * q + n * r) ≡ l * (k * p) + m * (k * q) + n * (k * r)
row k l m n p q r = omega arith

-- it mixes as the points do
pub •-mixed : (u : Triple) {l m n : ℕ} {p q r z : Triple} → Mixed l m n p q r z
    → u • z ≡ l * (u • p) + m * (u • q) + n * (u • r)
unfolding ◌•◌
•-mixed u h = rw (h.x, h.y, h.w, row u.x, row u.y, row u.w) (simp mul-add (omega arith))

-- a linear form of x, y and w: what it takes away, and what it takes it from
pub record Form : Type 0 where
  pub low : Triple
  pub high : Triple

-- the form with the other sign
abbrev pub flip : Form → Form
flip f = record { low = f.high; high = f.low }

pub half-mixed : (e : ℕ) (f : Form) {l m n : ℕ} {p q r z : Triple} → Mixed l m n p q r z
    → f.low • p + e ≤ f.high • p → f.low • q + e ≤ f.high • q → f.low • r + e ≤ f.high • r
    → f.low • z + e ≤ f.high • z
half-mixed e f {l} {m} {n} h hp hq hr =
    let low = •-mixed f.low h in
    let high = •-mixed f.high h in
    omega (arith, mul-le-mul_left l hp, mul-le-mul_left m hq, mul-le-mul_left n hr, mul-le-mul_left e h.some)

-- where a form is at least e
abbrev pub half_from : ℕ → Form → Cone
half_from e f = record { Has = λ t. f.low • t + e ≤ f.high • t; mix = half-mixed e f }

-- the open half-plane of a form, where it is above zero, and the closed one
abbrev pub half : Form → Cone
half f = half_from 1 f

abbrev pub half_closed : Form → Cone
half_closed f = half_from 0 f
