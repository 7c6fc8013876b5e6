-- Numbers count whole: coordinates and places beyond 32 bits.
-- Assumes nothing.
use mathlib.Core.Path.{◌≡◌, refl}
use mathlib.Core.Bool.{true, false}
use mathlib.Core.List.{List, [], ◌∷◌, map}
use Rattle.spec_plane.specs.declared.Point.{Point}
use Rattle.spec_plane.specs.Point.{orient}
use Rattle.spec_plane.specs.Triangle.{corner_at, rotated, doubled_area}
use Rattle.spec_plane.specs.Box.{apart, triangle_box}
use Rattle.spec_plane.proofs.Examples.{at, tri, box}

-- each corner is once the first, the second and the third
triangle_box-large :
    map (λ t. triangle_box t)
    (tri 9000000001 5000000002 6000000003 9500000004 5000000005 7000000006
    ∷ tri 6000000003 9500000004 5000000005 7000000006 9000000001 5000000002
    ∷ tri 5000000005 7000000006 9000000001 5000000002 6000000003 9500000004
    ∷ [])
    ≡ box 5000000005 5000000002 9000000001 9500000004 ∷ box 5000000005 5000000002 9000000001 9500000004 ∷ box 5000000005 5000000002 9000000001 9500000004 ∷ []
unfolding triangle_box
triangle_box-large = refl

-- a box in common; to the right, to the left, below and above
apart-large :
    map (λ d. apart (box 5000000001 6000000002 7000000003 8000000004) d)
    (box 5000000001 6000000002 7000000003 8000000004
    ∷ box 7000000004 6000000002 9000000003 8000000004
    ∷ box 4900000001 6000000002 5000000000 8000000004
    ∷ box 5000000001 8000000005 7000000003 9000000004
    ∷ box 5000000001 5900000002 7000000003 6000000001
    ∷ [])
    ≡ false ∷ true ∷ true ∷ true ∷ true ∷ []
unfolding apart
apart-large = refl

-- three corners
abbrev three : List Point
three = at 1 2 ∷ at 5 3 ∷ at 2 9 ∷ []

-- 256, 65,536 and 2^32 have the remainder 1, and 512 has 2
corner_at-large : map (λ i. corner_at three i) (256 ∷ 512 ∷ 65536 ∷ 4294967296 ∷ []) ≡ at 5 3 ∷ at 2 9 ∷ at 5 3 ∷ at 5 3 ∷ []
unfolding corner_at
corner_at-large = refl

rotated-large :
    map (λ i. rotated three i) (256 ∷ 512 ∷ 65536 ∷ 4294967296 ∷ 255 ∷ 511 ∷ 65535 ∷ 4294967295 ∷ 254 ∷ 510 ∷ 65534 ∷ 4294967294 ∷ [])
    ≡ map (λ i. rotated three i) (1 ∷ 2 ∷ 1 ∷ 1 ∷ 0 ∷ 1 ∷ 0 ∷ 0 ∷ 2 ∷ 0 ∷ 2 ∷ 2 ∷ [])
unfolding rotated corner_at
rotated-large = refl

area-large : doubled_area (tri 0 0 100000 0 7 100003) ≡ 10000300000
unfolding doubled_area orient
area-large = refl
