-- Examples of the definitions, none symmetric in x and y: each pins a side, a corner, a border or a strict order that the
-- marked cases of document 01, which are symmetric, leave open.
-- Assumes nothing.
use mathlib.Core.Path.{◌≡◌, refl}
use mathlib.Core.Bool.{Bool, true, false, not}
use mathlib.Core.List.{List, [], ◌∷◌, ◌++◌, map}
use Prim.Native.Nat.{ℕ}
use lib.IntN.{pos, negsuc}
use native.Mathlib.Omega.{arith}
use Rattle.spec_plane.specs.declared.Point.{Point}
use Rattle.spec_plane.specs.Point.{FracPoint, orient, orient_at, same_point, whole}
use Rattle.spec_plane.specs.Triangle.{Triangle, corners, corner_at, sides, rotated, triangle_of, proper, holds, strictly_inside, holds_at, strictly_inside_at, doubled_area}
use Rattle.spec_plane.specs.Interior.{CommonInterior, some_corner_inner, no_side_separates, interiors_meet}
use Rattle.spec_plane.specs.Box.{Box, Framed, apart, side_box, triangle_box, all_corners, all_inner, all_outer, side_meets, triangle_meets}

abbrev pub at : ℕ → ℕ → Point
at x y = record { x = x; y = y }

abbrev pub tri : ℕ → ℕ → ℕ → ℕ → ℕ → ℕ → Triangle
tri ax ay bx by cx cy = record { a = at ax ay; b = at bx by; c = at cx cy }

abbrev pub box : ℕ → ℕ → ℕ → ℕ → Box
box l t r b = record { left = l; top = t; right = r; bottom = b }

abbrev frac : ℕ → ℕ → ℕ → FracPoint
frac x y w = record { X = pos x; Y = pos y; W = w }

-- D of (1,2), (5,3), (2,9) is 4 × 7 − 1 × 1; with the first two swapped it changes its sign
orient-example : orient (at 1 2) (at 5 3) (at 2 9) ∷ orient (at 5 3) (at 1 2) (at 2 9) ∷ orient (at 0 0) (at 6 2) (at 3 1) ∷ []
    ≡ pos 27 ∷ negsuc 26 ∷ pos 0 ∷ []
unfolding orient
orient-example = refl

-- at (4/2, 18/2) and (9/2, 5/2), times W
orient_at-example : orient_at (at 1 2) (at 5 3) (frac 4 18 2) ∷ orient_at (at 1 2) (at 5 3) (frac 9 5 2) ∷ []
    ≡ pos 54 ∷ negsuc 2 ∷ []
unfolding orient_at
orient_at-example = refl

-- (0,0) (6,2) (2,8), at its corners, on its sides, inside and outside
abbrev t : Triangle
t = tri 0 0 6 2 2 8

holds-example : map (λ p. holds t p)
    (at 0 0 ∷ at 6 2 ∷ at 2 8 ∷ at 3 1 ∷ at 4 5 ∷ at 1 4 ∷ at 3 3 ∷ at 9 4 ∷ at 0 7 ∷ at 3 0 ∷ [])
    ≡ true ∷ true ∷ true ∷ true ∷ true ∷ true ∷ true ∷ false ∷ false ∷ false ∷ []
unfolding holds orient
holds-example = refl

strictly_inside-example : map (λ p. strictly_inside t p)
    (at 0 0 ∷ at 3 1 ∷ at 4 5 ∷ at 1 4 ∷ at 3 3 ∷ at 2 1 ∷ at 9 4 ∷ at 0 7 ∷ at 3 0 ∷ [])
    ≡ false ∷ false ∷ false ∷ false ∷ true ∷ true ∷ false ∷ false ∷ false ∷ []
unfolding strictly_inside orient
strictly_inside-example = refl

-- (2,3) (5,4) (3,9), whose D is 17: D is 1 for each side in turn
abbrev u : Triangle
u = tri 2 3 5 4 3 9

inside-by-one-example : map (λ p. strictly_inside u p) (at 4 4 ∷ at 4 6 ∷ at 3 8 ∷ []) ≡ true ∷ true ∷ true ∷ []
unfolding strictly_inside orient
inside-by-one-example = refl

-- halves of whole numbers: W × D is 1, then 0, then −1 for each side in turn
abbrev halves : List FracPoint
halves = frac 6 7 2 ∷ frac 9 10 2 ∷ frac 6 17 2 ∷ frac 7 7 2 ∷ frac 8 13 2 ∷ frac 5 12 2 ∷ frac 8 7 2 ∷ frac 9 11 2 ∷ frac 5 13 2 ∷ []

holds_at-example : map (λ p. holds_at u p) halves ≡ true ∷ true ∷ true ∷ true ∷ true ∷ true ∷ false ∷ false ∷ false ∷ []
unfolding holds_at orient_at
holds_at-example = refl

strictly_inside_at-example : map (λ p. strictly_inside_at u p) halves ≡ true ∷ true ∷ true ∷ false ∷ false ∷ false ∷ false ∷ false ∷ false ∷ []
unfolding strictly_inside_at orient_at
strictly_inside_at-example = refl

-- (3/2, 1/2) lies on the side from (0,0) to (6,2), (3/2, 2/2) inside
fractional-example : holds_at t (frac 3 1 2) ∷ strictly_inside_at t (frac 3 1 2) ∷ strictly_inside_at t (frac 3 2 2) ∷ holds_at t (frac 9 2 2) ∷ []
    ≡ true ∷ false ∷ true ∷ false ∷ []
unfolding holds_at strictly_inside_at orient_at
fractional-example = refl

area-example : doubled_area t ∷ doubled_area (tri 1 2 5 3 2 9) ∷ [] ≡ 44 ∷ 27 ∷ []
unfolding doubled_area orient
area-example = refl

-- D is 44, −44, 0 and 1
proper-example : proper t ∷ proper (tri 0 0 2 8 6 2) ∷ proper (tri 0 0 3 1 6 2) ∷ proper (tri 2 3 5 4 4 4) ∷ [] ≡ true ∷ false ∷ false ∷ true ∷ []
unfolding proper orient
proper-example = refl

sides-example : sides t
    ≡ record { start = at 0 0; end = at 6 2 } ∷ record { start = at 6 2; end = at 2 8 } ∷ record { start = at 2 8; end = at 0 0 } ∷ []
sides-example = refl

same_point-example : map (λ p. same_point (at 2 8) p) (at 2 8 ∷ at 2 7 ∷ at 3 8 ∷ at 8 2 ∷ []) ≡ true ∷ false ∷ false ∷ false ∷ []
unfolding same_point
same_point-example = refl

corners-of-example : corners t ≡ at 0 0 ∷ at 6 2 ∷ at 2 8 ∷ []
corners-of-example = refl

-- modulo 3; a corner that an array lacks is (0,0)
corner_at-example : map (λ i. corner_at (corners u) i) (0 ∷ 1 ∷ 2 ∷ 3 ∷ 4 ∷ 5 ∷ []) ++ (corner_at (at 5 4 ∷ []) 1 ∷ [])
    ≡ at 2 3 ∷ at 5 4 ∷ at 3 9 ∷ at 2 3 ∷ at 5 4 ∷ at 3 9 ∷ at 0 0 ∷ []
unfolding corner_at
corner_at-example = refl

rotated-example : map (λ i. rotated (corners t) i) (0 ∷ 1 ∷ 2 ∷ [])
    ≡ (at 0 0 ∷ at 6 2 ∷ at 2 8 ∷ []) ∷ (at 6 2 ∷ at 2 8 ∷ at 0 0 ∷ []) ∷ (at 2 8 ∷ at 0 0 ∷ at 6 2 ∷ []) ∷ []
unfolding rotated corner_at
rotated-example = refl

triangle_of-example : triangle_of (at 0 0 ∷ at 6 2 ∷ at 2 8 ∷ []) ≡ t
unfolding triangle_of corner_at
triangle_of-example = refl

whole-example : whole (at 2 8) ≡ frac 2 8 1
unfolding whole
whole-example = refl

-- boxes that touch the box from (2,3) to (5,7) or reach into it, on each of its four sides; then boxes just apart from it
apart-example : map (λ d. apart (box 2 3 5 7) d)
    (box 0 4 2 5 ∷ box 5 4 8 6 ∷ box 3 0 4 3 ∷ box 3 7 4 9 ∷ box 1 4 3 6 ∷ box 4 4 9 5 ∷ box 3 1 4 5 ∷ box 3 5 4 9
    ∷ box 0 4 1 5 ∷ box 6 4 8 6 ∷ box 3 0 4 2 ∷ box 3 8 4 9 ∷ [])
    ≡ false ∷ false ∷ false ∷ false ∷ false ∷ false ∷ false ∷ false ∷ true ∷ true ∷ true ∷ true ∷ []
unfolding apart
apart-example = refl

-- sides that go right and up, and left and down; a triangle and its rotations
boxes-example :
    map (λ s. side_box s) (record { start = at 11 40; end = at 23 32 } ∷ record { start = at 27 5; end = at 14 9 } ∷ [])
    ≡ box 11 32 23 40 ∷ box 14 5 27 9 ∷ []
unfolding side_box
boxes-example = refl

triangle_box-example : map (λ t. triangle_box t) (tri 11 45 23 32 38 57 ∷ tri 23 32 38 57 11 45 ∷ tri 38 57 11 45 23 32 ∷ [])
    ≡ box 11 32 38 57 ∷ box 11 32 38 57 ∷ box 11 32 38 57 ∷ []
unfolding triangle_box
triangle_box-example = refl

-- the corners of the box from (2,3) to (5,7), and points that are none of them
corners-example : map (λ p. all_corners (λ c. not (same_point p c)) (box 2 3 5 7))
    (at 2 3 ∷ at 5 3 ∷ at 2 7 ∷ at 5 7 ∷ at 7 3 ∷ at 3 3 ∷ at 5 5 ∷ at 2 2 ∷ at 2 5 ∷ at 7 7 ∷ at 3 7 ∷ at 5 2 ∷ [])
    ≡ false ∷ false ∷ false ∷ false ∷ true ∷ true ∷ true ∷ true ∷ true ∷ true ∷ true ∷ true ∷ []
unfolding all_corners same_point
corners-example = refl

-- the least D of a corner is 1, and 0
inner-example : map (λ b. all_inner (at 2 3) (at 5 4) b) (box 3 4 4 6 ∷ box 3 4 5 6 ∷ []) ≡ true ∷ false ∷ []
unfolding all_inner all_corners orient
inner-example = refl

outer-example : map (λ b. all_outer (at 5 4) (at 2 3) b) (box 3 4 4 6 ∷ box 3 4 5 6 ∷ []) ≡ true ∷ false ∷ []
unfolding all_outer all_corners orient
outer-example = refl

-- one corner has D = 1, or the largest D is 0, at each of the three corners; then all have D < 0
some_corner_inner-example : map (λ t. some_corner_inner (at 2 3) (at 5 4) t)
    (tri 4 4 9 4 6 3 ∷ tri 6 3 4 4 9 4 ∷ tri 9 4 6 3 4 4 ∷ tri 8 5 9 4 6 3 ∷ tri 6 3 8 5 9 4 ∷ tri 9 4 6 3 8 5 ∷ tri 7 2 9 4 6 3 ∷ [])
    ≡ true ∷ true ∷ true ∷ false ∷ false ∷ false ∷ false ∷ []
unfolding some_corner_inner orient
some_corner_inner-example = refl

-- sides against boxes: borders that only touch, each corner that decides, each box that is just apart
abbrev side_case : ℕ → ℕ → ℕ → ℕ → Box → Bool
side_case px py qx qy b = side_meets (record { start = at px py; end = at qx qy }) b

side_meets-example :
    side_case 6 6 0 9 (box 0 9 0 9)
    ∷ side_case 1 6 9 1 (box 3 2 5 4)
    ∷ side_case 4 5 2 6 (box 4 5 4 5)
    ∷ side_case 4 4 2 5 (box 5 2 8 5)
    ∷ side_case 4 7 7 4 (box 7 4 9 6)
    ∷ side_case 0 3 7 9 (box 7 4 8 5)
    ∷ side_case 0 9 7 8 (box 2 9 4 11)
    ∷ side_case 1 1 9 8 (box 2 1 3 2)
    ∷ side_case 6 2 7 4 (box 7 6 9 8)
    ∷ side_case 5 3 7 5 (box 3 0 5 2)
    ∷ side_case 9 7 1 1 (box 3 3 5 5)
    ∷ side_case 4 2 7 0 (box 1 2 3 4)
    ∷ []
    ≡ true ∷ true ∷ true ∷ false ∷ true ∷ false ∷ false ∷ true ∷ false ∷ false ∷ true ∷ false ∷ []
unfolding side_meets apart side_box all_inner all_outer all_corners orient
side_meets-example = refl

-- triangles against boxes, likewise
triangle_meets-example :
    triangle_meets (tri 5 5 7 9 2 4) (box 7 8 8 9)
    ∷ triangle_meets (tri 3 5 2 4 9 6) (box 8 6 11 9)
    ∷ triangle_meets (tri 5 6 2 5 9 7) (box 2 5 2 5)
    ∷ triangle_meets (tri 3 8 7 2 9 2) (box 4 7 6 9)
    ∷ triangle_meets (tri 6 1 8 6 0 7) (box 2 2 4 4)
    ∷ triangle_meets (tri 7 6 3 8 4 0) (box 6 1 9 4)
    ∷ triangle_meets (tri 9 0 3 7 1 2) (box 4 7 5 8)
    ∷ triangle_meets (tri 7 6 3 8 5 0) (box 0 0 3 3)
    ∷ triangle_meets (tri 8 1 5 7 3 9) (box 4 3 5 4)
    ∷ triangle_meets (tri 5 0 8 0 9 4) (box 9 6 11 8)
    ∷ triangle_meets (tri 6 3 1 8 6 2) (box 6 0 7 1)
    ∷ triangle_meets (tri 8 4 1 3 5 2) (box 9 4 10 5)
    ∷ triangle_meets (tri 3 6 5 2 9 6) (box 0 6 2 8)
    ∷ []
    ≡ true ∷ true ∷ true ∷ true ∷ true ∷ true ∷ false ∷ false ∷ false ∷ false ∷ false ∷ false ∷ false ∷ []
unfolding triangle_meets apart triangle_box all_outer all_corners orient
triangle_meets-example = refl

-- triangles that touch along a side, that touch in a corner, that a side of the first or of the second separates, that
-- overlap, and one with itself
interiors_meet-example :
    interiors_meet (tri 0 0 6 2 2 8) (tri 6 2 0 0 7 0)
    ∷ interiors_meet (tri 0 0 6 2 2 8) (tri 6 2 9 1 9 7)
    ∷ interiors_meet (tri 6 8 3 5 9 6) (tri 0 8 3 0 7 1)
    ∷ interiors_meet (tri 0 7 5 1 6 3) (tri 0 8 5 2 9 9)
    ∷ interiors_meet (tri 4 8 5 2 9 9) (tri 4 7 0 8 1 1)
    ∷ interiors_meet (tri 9 2 8 3 7 1) (tri 2 8 2 7 9 6)
    ∷ interiors_meet (tri 0 0 6 2 2 8) (tri 6 2 2 8 0 0)
    ∷ []
    ≡ false ∷ false ∷ false ∷ true ∷ false ∷ false ∷ true ∷ []
unfolding interiors_meet no_side_separates some_corner_inner orient
interiors_meet-example = refl

-- the point (3,4) is strictly inside both
common-example : CommonInterior t u
unfolding strictly_inside_at orient_at
common-example = record { point = frac 3 4 1; above = omega arith; first = tt; second = tt }

-- the frame of the whole grid, whose right and bottom borders are at 65,536, one of a single point, and boxes that are none
framed-example : Framed (box 0 0 65536 65536) × Framed (box 7 3 7 3)
framed-example = (
  record { wide = omega arith; tall = omega arith; right = omega arith; bottom = omega arith },
  record { wide = omega arith; tall = omega arith; right = omega arith; bottom = omega arith },
)

unframed-example : ((Framed (box 8 3 7 3) → ⊥) × (Framed (box 7 4 7 3) → ⊥)) × ((Framed (box 0 0 65537 1) → ⊥) × (Framed (box 0 0 1 65537) → ⊥))
unframed-example = ((λ f. omega (arith, f.wide), λ f. omega (arith, f.tall)), (λ f. omega (arith, f.right), λ f. omega (arith, f.bottom)))
