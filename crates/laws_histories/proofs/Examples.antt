-- Examples of Histories.antt.
-- Assumes nothing.
use mathlib.Core.Path.{◌≡◌, refl}
use mathlib.Core.List.{[], ◌∷◌, ◌++◌, map}
use lib.ListN.{length, replicate}
use Rattle.spec_charts.specs.Table.{Table}
use Rattle.spec_charts.specs.Cells.{cells}
use Rattle.spec_charts.specs.Overlay.{pair, cell_meetings}
use Rattle.spec_charts.proofs.Written.{at}
use Rattle.spec_calls.proofs.Evaluate.{evaluate}
use Rattle.laws_histories.specs.Histories.{overlay_answer}

-- a triangle whose cells are four of level 2, then three of level 1
abbrev pub corner : Table
corner = record { a = at 0 0; b = at 65535 0; c = at 0 65535 } ∷ []

-- two triangles whose cells are one of level 1, thirteen in the top right, one of level 1, four of level 2
abbrev pub two : Table
two =
    record { a = at 40000 5000; b = at 45000 5000; c = at 60000 45000 }
    ∷ record { a = at 65535 65535; b = at 0 40000; c = at 60000 45000 }
    ∷ []

-- the cells of each, and 4 + 13 + 1 + 4 meetings: more than the cells of either, and fewer than all of them
cell_meetings-example : length (cells corner) ∷ length (cells two) ∷ cell_meetings corner two ∷ cell_meetings two [] ∷ cell_meetings [] corner ∷ []
    ≡ 7 ∷ 19 ∷ 22 ∷ 19 ∷ 7 ∷ []
unfolding evaluate
cell_meetings-example = refl

-- two pairs in a list with one place more than asked, which stays
listed-example : overlay_answer (pair 3 5 ∷ pair 4 1 ∷ []) 8 (replicate 8193 7)
    ≡ record { number = 0; pair_count = 2; meets = 8; pairs = 3 ∷ 5 ∷ 4 ∷ 1 ∷ replicate 8188 0 ++ (7 ∷ []) }
unfolding evaluate overlay_answer
listed-example = refl

-- 4,096 pairs are listed, 4,097 are too many
limit-example : map (λ n. overlay_answer (replicate n (pair 3 3)) 8 (replicate 8194 7)) (4096 ∷ 4097 ∷ [])
    ≡ record { number = 0; pair_count = 4096; meets = 8; pairs = replicate 8192 3 ++ (7 ∷ 7 ∷ []) }
    ∷ record { number = 12; pair_count = 0; meets = 0; pairs = replicate 8192 0 ++ (7 ∷ 7 ∷ []) }
    ∷ []
unfolding evaluate overlay_answer
limit-example = refl
