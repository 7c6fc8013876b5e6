-- Examples of Overlay.antt: two different tables with different entries, some of them not their own.
-- Assumes nothing.
use mathlib.Core.Path.{◌≡◌, refl}
use mathlib.Core.Bool.{true, false}
use mathlib.Core.List.{List, [], ◌∷◌}
use Prim.Native.Nat.{ℕ}
use lib.ListN.{replicate}
use Rattle.theory_orthtree.specs.Entries.{Entry, entry}
use Rattle.spec_charts.specs.Table.{Table}
use Rattle.spec_charts.specs.declared.Refusal.TheVariants.{TooManyPairs}
use Rattle.spec_charts.specs.Refusals.{refused, done}
use Rattle.spec_charts.specs.Overlay.{pair, pair_numbers, pair_listed, pairs_listed, within_pairs, overlay_of}
use Rattle.spec_charts.proofs.Evaluate.{evaluate}
use Rattle.spec_charts.proofs.Written.{at, overlay_numbers}
use Rattle.spec_charts.proofs.EditExamples.{tri}

-- i then j
pair_numbers-example : pair_numbers (pair 3 5 ∷ pair 2 7 ∷ []) ≡ 3 ∷ 5 ∷ 2 ∷ 7 ∷ []
unfolding evaluate
pair_numbers-example = refl

-- Listed everywhere: the triangles decide

-- the second chart's triangles lie apart; the first chart's 0 overlaps 1 and 2, its 1 and 3 overlap 0, its 2 none
abbrev left : Table
left = tri (at 100 0) (at 300 0) (at 100 90) ∷ tri (at 0 200) (at 90 200) (at 0 300) ∷ tri (at 500 600) (at 510 600) (at 500 620) ∷ tri (at 0 220) (at 0 200) (at 40 200) ∷ []

abbrev right : Table
right = tri (at 10 201) (at 20 201) (at 10 210) ∷ tri (at 110 1) (at 120 1) (at 110 9) ∷ tri (at 200 1) (at 210 1) (at 200 9) ∷ []

abbrev all_left : List Entry
all_left = entry 0 0 0 ∷ entry 0 0 1 ∷ entry 0 0 2 ∷ []

abbrev all_right : List Entry
all_right = entry 0 0 0 ∷ entry 0 0 1 ∷ entry 0 0 2 ∷ []

-- no cell lists triangle 3 of the first chart
shared-ground-example : overlay_numbers (overlay_of left all_left right all_right) ≡ 0 ∷ 3 ∷ 1 ∷ 0 ∷ 1 ∷ 0 ∷ 2 ∷ 1 ∷ 0 ∷ []
unfolding evaluate
shared-ground-example = refl

pair_listed-example :
    pair_listed left all_left right all_right 0 1
    ∷ pair_listed left all_left right all_right 1 0
    ∷ pair_listed left all_left right all_right 0 0
    ∷ pair_listed left all_left right all_right 2 0
    ∷ pair_listed left all_left right all_right 3 0
    ∷ []
    ≡ true ∷ true ∷ false ∷ false ∷ false ∷ []
unfolding evaluate
pair_listed-example = refl

-- The same ground everywhere: the cells decide

abbrev same : ℕ → Table
same n = replicate n (tri (at 0 0) (at 60000 0) (at 0 50000))

-- four cells each, triangle 0 in the first of one and the second of the other: no pair, four meetings
apart-example : overlay_numbers
    (overlay_of
    (same 1)
    (entry 0 1 0 ∷ entry 1073741824 1 65535 ∷ entry 2147483648 1 65535 ∷ entry 3221225472 1 65535 ∷ [])
    (same 1)
    (entry 0 1 65535 ∷ entry 1073741824 1 0 ∷ entry 2147483648 1 65535 ∷ entry 3221225472 1 65535 ∷ []))
    ≡ 0 ∷ 0 ∷ 4 ∷ []
unfolding evaluate
apart-example = refl

-- seven cells each, in one chart the second square is quartered, in the other the first
abbrev es : List Entry
es =
    entry 0 1 0
    ∷ entry 1073741824 2 1
    ∷ entry 1342177280 2 2
    ∷ entry 1610612736 2 65535
    ∷ entry 1879048192 2 1
    ∷ entry 1879048192 2 2
    ∷ entry 2147483648 1 65535
    ∷ entry 3221225472 1 3
    ∷ []

abbrev fs : List Entry
fs =
    entry 0 2 1
    ∷ entry 268435456 2 65535
    ∷ entry 536870912 2 2
    ∷ entry 805306368 2 0
    ∷ entry 1073741824 1 2
    ∷ entry 2147483648 1 0
    ∷ entry 2147483648 1 1
    ∷ entry 3221225472 1 0
    ∷ []

-- ascending by i, then j, none twice: 0 with 0, 1, 2; 1 with 2; 2 with 2; 3 with 0; ten meetings
cells-decide-example : overlay_of (same 4) es (same 3) fs
    ≡ done (record { pairs = pair 0 0 ∷ pair 0 1 ∷ pair 0 2 ∷ pair 1 2 ∷ pair 2 2 ∷ pair 3 0 ∷ []; meets = 10 })
unfolding evaluate
cells-decide-example = refl

-- the charts exchanged
exchanged-example : overlay_of (same 3) fs (same 4) es
    ≡ done (record { pairs = pair 0 0 ∷ pair 0 3 ∷ pair 1 0 ∷ pair 2 0 ∷ pair 2 1 ∷ pair 2 2 ∷ []; meets = 10 })
unfolding evaluate
exchanged-example = refl

pairs_listed-example : pairs_listed (same 2) es (same 3) fs ≡ pair 0 0 ∷ pair 0 1 ∷ pair 0 2 ∷ pair 1 2 ∷ []
unfolding evaluate
pairs_listed-example = refl

-- within the limit the pairs and the meetings stay, beyond it nothing does
within_pairs-example : within_pairs (replicate 4096 (pair 3 5)) 8 ∷ within_pairs (replicate 4097 (pair 3 5)) 8 ∷ []
    ≡ done (record { pairs = replicate 4096 (pair 3 5); meets = 8 }) ∷ refused TooManyPairs ∷ []
unfolding evaluate
within_pairs-example = refl
