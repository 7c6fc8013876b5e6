-- Examples of where a point lies by a triangle: document 02, wish 1.
-- Assumes nothing.
use mathlib.Core.Path.{◌≡◌, refl, ap}
use mathlib.Core.Bool.{Bool, true, false}
use mathlib.Core.List.{List, [], ◌∷◌, map}
use native.Mathlib.Omega.{arith}
use Rattle.spec_plane.specs.declared.Point.{Point}
use Rattle.spec_plane.specs.declared.Position.{Position}
use Rattle.spec_plane.specs.declared.Position.TheVariants.{Inside, OnAb, OnBc, OnCa, AtA, AtB, AtC, Outside}
use Rattle.spec_plane.specs.Point.{orient}
use Rattle.spec_plane.specs.Triangle.{Triangle, holds}
use Rattle.spec_plane.specs.Position.{on_line, position_of, position, position_number, is_held, is_inside, OnSide}
use Rattle.spec_plane.proofs.Examples.{at, tri}

abbrev answers : List Position
answers = Inside ∷ OnAb ∷ OnBc ∷ OnCa ∷ AtA ∷ AtB ∷ AtC ∷ Outside ∷ []

-- "0 for inside, 1 to 3 for the sides, 4 to 6 for the corners", "and 7 for outside"
position_number-example : map (λ q. position_number q) answers ≡ 0 ∷ 1 ∷ 2 ∷ 3 ∷ 4 ∷ 5 ∷ 6 ∷ 7 ∷ []
position_number-example = refl

is_held-example : map (λ q. is_held q) answers ≡ true ∷ true ∷ true ∷ true ∷ true ∷ true ∷ true ∷ false ∷ []
is_held-example = refl

is_inside-example : map (λ q. is_inside q) answers ≡ true ∷ false ∷ false ∷ false ∷ false ∷ false ∷ false ∷ false ∷ []
is_inside-example = refl

-- the eight ways in which D is zero for ab, bc and ca
abbrev zeros : (Bool → Bool → Bool → Position) → List Position
zeros f =
    f false false false
    ∷ f true false false
    ∷ f false true false
    ∷ f false false true
    ∷ f true false true
    ∷ f true true false
    ∷ f false true true
    ∷ f true true true
    ∷ []

position_of-example : zeros (position_of true) ≡ Inside ∷ OnAb ∷ OnBc ∷ OnCa ∷ AtA ∷ AtB ∷ AtC ∷ AtA ∷ []
unfolding position_of
position_of-example = refl

-- no zero has a point held that is not
position_of-outside : zeros (position_of false) ≡ zeros (λ ab bc ca. Outside)
unfolding position_of
position_of-outside = refl

-- on the line from (1000,2000) to (61000,17000), of which each step is (4,1), between the ends and beyond them; then one off
on_line-example : map (λ p. on_line (at 1000 2000) (at 61000 17000) p)
    (at 1000 2000 ∷ at 61000 17000 ∷ at 41000 12000 ∷ at 996 1999 ∷ at 65532 18133 ∷ at 41000 11999 ∷ at 41001 12000 ∷ at 12000 41000 ∷ [])
    ≡ true ∷ true ∷ true ∷ true ∷ true ∷ false ∷ false ∷ false ∷ []
unfolding on_line orient
on_line-example = refl

-- D is 1, −1, 256, 512, 65,536 and 2^32
on_line-whole : map (λ p. on_line (at 0 0) (at 65536 1) p) (at 65535 1 ∷ at 65537 1 ∷ at 65280 1 ∷ at 65024 1 ∷ at 0 1 ∷ at 0 65536 ∷ [])
    ≡ false ∷ false ∷ false ∷ false ∷ false ∷ false ∷ []
unfolding on_line orient
on_line-whole = refl

-- (1000,2000) (61000,17000) (16000,64000) and its rotations
abbrev t : Triangle
t = tri 1000 2000 61000 17000 16000 64000

abbrev rotations : List Triangle
rotations = t ∷ tri 61000 17000 16000 64000 1000 2000 ∷ tri 16000 64000 1000 2000 61000 17000 ∷ []

abbrev positions : List Point → List (List Position)
positions ps = map (λ t. map (λ p. position t p) ps) rotations

abbrev everywhere : Position → List Point → List (List Position)
everywhere q ps = map (λ t. map (λ p. q) ps) rotations

position-corners : positions (at 1000 2000 ∷ at 61000 17000 ∷ at 16000 64000 ∷ [])
    ≡ (AtA ∷ AtB ∷ AtC ∷ []) ∷ (AtC ∷ AtA ∷ AtB ∷ []) ∷ (AtB ∷ AtC ∷ AtA ∷ []) ∷ []
unfolding position position_of on_line holds orient
position-corners = refl

-- each side between its ends, and next to either end
position-sides :
    positions
    (at 41000 12000 ∷ at 1004 2001 ∷ at 60996 16999
    ∷ at 29500 49900 ∷ at 60955 17047 ∷ at 16045 63953
    ∷ at 11500 45400 ∷ at 15985 63938 ∷ at 1015 2062 ∷ [])
    ≡ (OnAb ∷ OnAb ∷ OnAb ∷ OnBc ∷ OnBc ∷ OnBc ∷ OnCa ∷ OnCa ∷ OnCa ∷ [])
    ∷ (OnCa ∷ OnCa ∷ OnCa ∷ OnAb ∷ OnAb ∷ OnAb ∷ OnBc ∷ OnBc ∷ OnBc ∷ [])
    ∷ (OnBc ∷ OnBc ∷ OnBc ∷ OnCa ∷ OnCa ∷ OnCa ∷ OnAb ∷ OnAb ∷ OnAb ∷ [])
    ∷ []
unfolding position position_of on_line holds orient
position-sides = refl

-- in the middle; one off each side, and one off each corner
abbrev within : List Point
within =
    at 26000 27000
    ∷ at 40999 12000 ∷ at 41000 12001 ∷ at 29499 49900 ∷ at 29500 49899 ∷ at 11501 45400 ∷ at 11500 45399
    ∷ at 1001 2001 ∷ at 60999 17000 ∷ at 16000 63999 ∷ []

position-inside : positions within ≡ everywhere Inside within
unfolding position position_of on_line holds orient
position-inside = refl

-- far beyond each side; one off each side, and one off each corner
abbrev without : List Point
without =
    at 40000 1000 ∷ at 60000 60000 ∷ at 500 50000
    ∷ at 41001 12000 ∷ at 41000 11999 ∷ at 29501 49900 ∷ at 29500 49901 ∷ at 11499 45400 ∷ at 11500 45401
    ∷ at 999 2000 ∷ at 1000 1999 ∷ at 1000 2001
    ∷ at 61001 17000 ∷ at 61000 17001 ∷ at 16000 64001 ∷ at 16001 64000 ∷ at 15999 64000 ∷ []

position-outside : positions without ≡ everywhere Outside without
unfolding position position_of on_line holds orient
position-outside = refl

-- on the line of a side, beyond either end: D is zero for the side and below zero for another
abbrev beyond : List Point
beyond = at 996 1999 ∷ at 61004 17001 ∷ at 61045 16953 ∷ at 15955 64047 ∷ at 16015 64062 ∷ at 985 1938 ∷ []

position-beyond : positions beyond ≡ everywhere Outside beyond
unfolding position position_of on_line holds orient
position-beyond = refl

-- (2,3) (5,4) (3,9): D is 1 for each side in turn, then −1
position-by-one : map (λ p. position (tri 2 3 5 4 3 9) p) (at 4 4 ∷ at 4 6 ∷ at 3 8 ∷ at 3 3 ∷ at 4 7 ∷ at 2 4 ∷ [])
    ≡ Inside ∷ Inside ∷ Inside ∷ Outside ∷ Outside ∷ Outside ∷ []
unfolding position position_of on_line holds orient
position-by-one = refl

-- the points of document 01's case 6 in U, and a point inside and on ab and ca: what command 6 prints for them
position-marked : map (λ p. position (tri 0 0 65535 0 0 65535) p)
    (at 32768 32767 ∷ at 32768 32768 ∷ at 0 0 ∷ at 65535 0 ∷ at 0 65535 ∷ at 1 1 ∷ at 7 0 ∷ at 0 7 ∷ [])
    ≡ OnBc ∷ Outside ∷ AtA ∷ AtB ∷ AtC ∷ Inside ∷ OnAb ∷ OnCa ∷ []
unfolding position position_of on_line holds orient
position-marked = refl

-- corners on one line, and all at one point: what is held is at a, wherever on the line it is, and never outside
position-flat : map (λ p. position (tri 40000 50001 60000 60001 50000 55001) p)
    (at 40000 50001 ∷ at 60000 60001 ∷ at 50000 55001 ∷ at 40002 50002 ∷ at 2 30002 ∷ at 65534 62768 ∷ at 40002 50001 ∷ at 40002 50003 ∷ [])
    ≡ AtA ∷ AtA ∷ AtA ∷ AtA ∷ AtA ∷ AtA ∷ Outside ∷ Outside ∷ []
unfolding position position_of on_line holds orient
position-flat = refl

position-point : map (λ p. position (tri 40000 50001 40000 50001 40000 50001) p) (at 40000 50001 ∷ at 3 65535 ∷ []) ≡ AtA ∷ AtA ∷ []
unfolding position position_of on_line holds orient
position-point = refl

-- b and c exchanged, D below zero: no point is held, a corner neither
position-reversed : map (λ p. position (tri 1000 2000 16000 64000 61000 17000) p) (at 26000 27000 ∷ at 41000 12000 ∷ at 1000 2000 ∷ at 500 50000 ∷ [])
    ≡ Outside ∷ Outside ∷ Outside ∷ Outside ∷ []
unfolding position position_of on_line holds orient
position-reversed = refl

-- ---- what on a side means

-- (41000,12000) is twice as far from (1000,2000) as from (61000,17000)
on_side-example : OnSide (at 1000 2000) (at 61000 17000) (at 41000 12000)
on_side-example = record {
  m = 1;
  n = 2;
  some = omega arith;
  x = refl;
  y = refl;
  not_start = λ e. omega (arith, ap (λ p. p.x) e);
  not_end = λ e. omega (arith, ap (λ p. p.x) e);
}

-- neither end; beyond either end, and beside the side
abbrev Not : Point → Type 0
Not p = OnSide (at 1000 2000) (at 61000 17000) p → ⊥

on_side-not : ((Not (at 1000 2000) × Not (at 61000 17000)) × (Not (at 996 1999) × Not (at 61004 17001))) × (Not (at 41000 12001) × Not (at 40999 12000))
on_side-not = (
  ((λ s. s.not_start refl, λ s. s.not_end refl), (λ s. omega (arith, s.some, s.x), λ s. omega (arith, s.some, s.x))),
  (λ s. omega (arith, s.some, s.x, s.y), λ s. omega (arith, s.some, s.x, s.y)),
)
