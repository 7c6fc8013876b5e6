-- Document 02, wish 1: where a point lies by a triangle. The eight answers are the cases of `Position`, which code shares.
-- Assumes nothing.
use Rattle.std.specs.Prelude.{◌≡◌, Bool, true, false, ℕ, ◌+◌, ◌*◌, ◌<◌, T, eqb, nat_abs}
use Rattle.spec_plane.specs.declared.Point.{Point}
use Rattle.spec_plane.specs.declared.Position.{Position}
use Rattle.spec_plane.specs.declared.Position.TheVariants.{Inside, OnAb, OnBc, OnCa, AtA, AtB, AtC, Outside}
use Rattle.spec_plane.specs.Point.{orient}
use Rattle.spec_plane.specs.Triangle.{Triangle, holds, strictly_inside}

-- D(q,r,p) is zero: p is on the line through q and r
unfoldable pub on_line : Point → Point → Point → Bool
on_line q r p = eqb (nat_abs (orient q r p)) 0

-- "by the signs and zeros of the three D values": outside where one is below 0, which is where the triangle does not hold the point;
-- else by which of D(a,b,p), D(b,c,p), D(c,a,p) are 0. None is inside, one is that side, two are the corner that both sides have:
-- ab and ca have a. All three are 0 for no triangle with D > 0; the first corner then, so that what is held is never outside
unfoldable pub position_of : Bool → Bool → Bool → Bool → Position
position_of false ab bc ca = Outside
position_of true false false false = Inside
position_of true true false false = OnAb
position_of true false true false = OnBc
position_of true false false true = OnCa
position_of true true false true = AtA
position_of true true true false = AtB
position_of true false true true = AtC
position_of true true true true = AtA

-- "The test of a point against a triangle"
unfoldable pub position : Triangle → Point → Position
position t p = position_of (holds t p) (on_line t.a t.b p) (on_line t.b t.c p) (on_line t.c t.a p)

-- "0 for inside, 1 to 3 for the sides, 4 to 6 for the corners", "and 7 for outside"
abbrev pub position_number : Position → ℕ
position_number Inside = 0
position_number OnAb = 1
position_number OnBc = 2
position_number OnCa = 3
position_number AtA = 4
position_number AtB = 5
position_number AtC = 6
position_number Outside = 7

-- the triangle holds the point: every answer but outside
abbrev pub is_held : Position → Bool
is_held Inside = true
is_held OnAb = true
is_held OnBc = true
is_held OnCa = true
is_held AtA = true
is_held AtB = true
is_held AtC = true
is_held Outside = false

-- the point is strictly inside the triangle: the answer is inside
abbrev pub is_inside : Position → Bool
is_inside Inside = true
is_inside OnAb = false
is_inside OnBc = false
is_inside OnCa = false
is_inside AtA = false
is_inside AtB = false
is_inside AtC = false
is_inside Outside = false

-- What the answers mean

-- p is on the side from q to r and not at its ends: (m q + n r) / (m + n) for some whole m and n, not both 0, and neither q nor r
pub record OnSide (q r p : Point) : Type 0 where
  pub m : ℕ
  pub n : ℕ
  pub some : 0 < m + n
  pub x : (m + n) * p.x ≡ m * q.x + n * r.x
  pub y : (m + n) * p.y ≡ m * q.y + n * r.y
  pub not_start : p ≡ q → ⊥
  pub not_end : p ≡ r → ⊥

-- what each answer says of a triangle and a point; that `position` answers so where D > 0 is `position-means` of laws_separation
abbrev pub Means : Triangle → Point → Position → Type 0
Means t p Inside = T (strictly_inside t p)
Means t p OnAb = OnSide t.a t.b p
Means t p OnBc = OnSide t.b t.c p
Means t p OnCa = OnSide t.c t.a p
Means t p AtA = p ≡ t.a
Means t p AtB = p ≡ t.b
Means t p AtC = p ≡ t.c
Means t p Outside = T (holds t p) → ⊥
