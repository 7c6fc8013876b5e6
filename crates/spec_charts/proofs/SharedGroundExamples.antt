-- Examples of Overlay.antt: the order of pairs, common interior points, and the meetings of two tables' cells.
-- Assumes nothing.
use mathlib.Core.Path.{◌≡◌, refl}
use mathlib.Core.Bool.{true, false}
use mathlib.Core.List.{[], ◌∷◌}
use mathlib.Core.Logic.{inl, inr}
use native.Mathlib.Omega.{arith}
use lib.IntN.{pos}
use Rattle.spec_squares.specs.declared.Square.{Square}
use Rattle.spec_charts.specs.Table.{Table}
use Rattle.spec_charts.specs.Overlay.{pair, Earlier, SharesGround, ranges_overlap, cell_meetings}
use Rattle.spec_charts.proofs.Evaluate.{evaluate}
use Rattle.spec_charts.proofs.Written.{at}

-- i decides, then j
earlier-i-example : Earlier (pair 1 9) (pair 2 3)
earlier-i-example = inl (omega arith)

earlier-j-example : Earlier (pair 2 3) (pair 2 4)
earlier-j-example = inr (refl, omega arith)

-- no pair comes before itself, before one with a lower i, or before one with the same i and a lower j
later-examples : ((Earlier (pair 2 3) (pair 2 3) → ⊥) × (Earlier (pair 2 3) (pair 1 9) → ⊥)) × (Earlier (pair 2 4) (pair 2 3) → ⊥)
later-examples = ((no_same, no_lower), no-lower-j)
  where
    no_same : Earlier (pair 2 3) (pair 2 3) → ⊥
    no_same (inl h) = omega arith
    no_same (inr h) = omega arith

    no_lower : Earlier (pair 2 3) (pair 1 9) → ⊥
    no_lower (inl h) = omega arith
    no_lower (inr h) = omega arith

    no-lower-j : Earlier (pair 2 4) (pair 2 3) → ⊥
    no-lower-j (inl h) = omega arith
    no-lower-j (inr h) = omega arith

-- the top left quarter, the one right of it, and the second quarter of that
abbrev first : Square
first = record { x = 0; y = 0; level = 1 }

abbrev next : Square
next = record { x = 32768; y = 0; level = 1 }

abbrev inner : Square
inner = record { x = 49152; y = 0; level = 2 }

-- a square within another overlaps it, neighbours do not
ranges_overlap-example : ranges_overlap next inner ∷ ranges_overlap inner next ∷ ranges_overlap first next ∷ ranges_overlap next first ∷ ranges_overlap inner first ∷ ranges_overlap first inner ∷ []
    ≡ true ∷ true ∷ false ∷ false ∷ false ∷ false ∷ []
unfolding evaluate
ranges_overlap-example = refl

-- a triangle whose cells are four of level 2, then three of level 1
abbrev corner : Table
corner = record { a = at 0 0; b = at 65535 0; c = at 0 65535 } ∷ []

-- two triangles, of which the second covers a part of the first chart's
abbrev two : Table
two =
    record { a = at 40000 5000; b = at 45000 5000; c = at 60000 45000 }
    ∷ record { a = at 65535 65535; b = at 0 40000; c = at 60000 45000 }
    ∷ []

-- the one cell of an empty table meets each of seven, and of seven cells each meets itself alone
cell_meetings-example : cell_meetings corner [] ∷ cell_meetings [] corner ∷ cell_meetings [] [] ∷ cell_meetings corner corner ∷ []
    ≡ 7 ∷ 7 ∷ 1 ∷ 7 ∷ []
unfolding evaluate
cell_meetings-example = refl

-- triangle 0 of the one has a common interior point with triangle 1 of the other: (36001/3, 129001/3)
shares-example : SharesGround corner two 0 1
unfolding evaluate
shares-example = record {
  first = omega arith;
  second = omega arith;
  common = record { point = record { X = pos 36001; Y = pos 129001; W = 3 }; above = omega arith; first = tt; second = tt };
}

-- triangle 1 of the one and triangle 2 of the other are not there
no-first-example : SharesGround corner two 1 1 → ⊥
no-first-example h = let l = h.first in omega arith

no-second-example : SharesGround corner two 0 2 → ⊥
no-second-example h = let l = h.second in omega arith
