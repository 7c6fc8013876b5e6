-- Examples of the command program's log.
-- Assumes nothing.
use mathlib.Core.Path.{◌≡◌, refl}
use mathlib.Core.List.{[], ◌∷◌, ◌++◌, map}
use lib.ListN.{replicate}
use Rattle.spec_charts.specs.declared.Refusal.TheVariants.{TooManyPairs}
use Rattle.spec_charts.specs.Refusals.{refused}
use Rattle.spec_log.specs.Log.{log_of, wait_step, overlay_lines}
use Rattle.spec_log.proofs.Evaluate.{evaluate}

-- document 01's own input: 1 U, 2 0, 1 V, 2 1, 7
log-example : log_of
    (1 ∷ 0 ∷ 0 ∷ 0 ∷ 0 ∷ 255 ∷ 255 ∷ 0 ∷ 0 ∷ 0 ∷ 0 ∷ 255 ∷ 255 ∷ 2 ∷ 0
    ∷ 1 ∷ 255 ∷ 255 ∷ 255 ∷ 255 ∷ 0 ∷ 0 ∷ 255 ∷ 255 ∷ 255 ∷ 255 ∷ 0 ∷ 0 ∷ 2 ∷ 1 ∷ 7 ∷ [])
    ≡ 111 ∷ 118 ∷ 101 ∷ 114 ∷ 108 ∷ 97 ∷ 121 ∷ 32 ∷ 108 ∷ 111 ∷ 103 ∷ 10 ∷ 50 ∷ 32 ∷ 48 ∷ 32 ∷ 55 ∷ 10 ∷ 50 ∷ 32 ∷ 48 ∷ 32 ∷ 52 ∷ 10 ∷ 55 ∷ 32 ∷ 48 ∷ 32 ∷ 48 ∷ 32 ∷ 55 ∷ 10 ∷ []
unfolding evaluate
log-example = refl

-- two empty loads, an insert that no triangle holds, and then a byte that is no command, at offset 10
bad-example : log_of (2 ∷ 1 ∷ 2 ∷ 0 ∷ 3 ∷ 0 ∷ 0 ∷ 1 ∷ 9 ∷ 0 ∷ 8 ∷ 7 ∷ [])
    ≡ 111 ∷ 118 ∷ 101 ∷ 114 ∷ 108 ∷ 97 ∷ 121 ∷ 32 ∷ 108 ∷ 111 ∷ 103 ∷ 10 ∷ 50 ∷ 32 ∷ 48 ∷ 32 ∷ 49 ∷ 10 ∷ 50 ∷ 32 ∷ 48 ∷ 32 ∷ 49 ∷ 10 ∷ 51 ∷ 32 ∷ 55 ∷ 10 ∷ 98 ∷ 97 ∷ 100 ∷ 32 ∷ 49 ∷ 48 ∷ 10 ∷ []
unfolding evaluate
bad-example = refl

-- a chart number above 1; a cut operand
chart-example : log_of (2 ∷ 2 ∷ []) ++ log_of (7 ∷ 6 ∷ 1 ∷ 1 ∷ 2 ∷ 3 ∷ [])
    ≡ 111 ∷ 118 ∷ 101 ∷ 114 ∷ 108 ∷ 97 ∷ 121 ∷ 32 ∷ 108 ∷ 111 ∷ 103 ∷ 10 ∷ 98 ∷ 97 ∷ 100 ∷ 32 ∷ 48 ∷ 10 ∷ 111 ∷ 118 ∷ 101 ∷ 114 ∷ 108 ∷ 97 ∷ 121 ∷ 32 ∷ 108 ∷ 111 ∷ 103 ∷ 10 ∷ 55 ∷ 32 ∷ 48 ∷ 32 ∷ 48 ∷ 32 ∷ 49 ∷ 10 ∷ 98 ∷ 97 ∷ 100 ∷ 32 ∷ 49 ∷ 10 ∷ []
unfolding evaluate
chart-example = refl

-- 65,536 bytes, of which the first is no command
long-example : log_of (replicate 65536 9) ≡ 111 ∷ 118 ∷ 101 ∷ 114 ∷ 108 ∷ 97 ∷ 121 ∷ 32 ∷ 108 ∷ 111 ∷ 103 ∷ 10 ∷ 98 ∷ 97 ∷ 100 ∷ 32 ∷ 48 ∷ 10 ∷ []
unfolding evaluate
long-example = refl

-- the 512th waiting triangle is kept, a 513th is dropped, and any later one
waiting-example :
    map (λ n. wait_step (1 ∷ 2 ∷ 3 ∷ 4 ∷ 5 ∷ 6 ∷ []) (record { chart0 = []; chart1 = []; waiting = replicate n 9 })) (3066 ∷ 3072 ∷ 65542 ∷ [])
    ≡ record { printed = []; after = record { chart0 = []; chart1 = []; waiting = replicate 3066 9 ++ (1 ∷ 2 ∷ 3 ∷ 4 ∷ 5 ∷ 6 ∷ []) } }
    ∷ record { printed = 49 ∷ 32 ∷ 52 ∷ 10 ∷ []; after = record { chart0 = []; chart1 = []; waiting = replicate 3072 9 } }
    ∷ record { printed = 49 ∷ 32 ∷ 52 ∷ 10 ∷ []; after = record { chart0 = []; chart1 = []; waiting = replicate 65542 9 } }
    ∷ []
unfolding evaluate
waiting-example = refl

-- chart 1 gets two triangles and chart 0 one; locate in both; the overlay's pair is 0 1
locate-log-example : log_of (1 ∷ 64 ∷ 156 ∷ 136 ∷ 19 ∷ 200 ∷ 175 ∷ 136 ∷ 19 ∷ 96 ∷ 234 ∷ 200 ∷ 175 ∷ 1 ∷ 255 ∷ 255 ∷ 255 ∷ 255 ∷ 0 ∷ 0 ∷ 64 ∷ 156 ∷ 96 ∷ 234 ∷ 200 ∷ 175 ∷ 2 ∷ 1 ∷ 6 ∷ 1 ∷ 200 ∷ 175 ∷ 136 ∷ 19 ∷ 6 ∷ 1 ∷ 48 ∷ 117 ∷ 5 ∷ 0 ∷ 6 ∷ 0 ∷ 200 ∷ 175 ∷ 136 ∷ 19 ∷ 1 ∷ 0 ∷ 0 ∷ 96 ∷ 234 ∷ 32 ∷ 78 ∷ 0 ∷ 0 ∷ 200 ∷ 175 ∷ 32 ∷ 78 ∷ 2 ∷ 0 ∷ 7 ∷ [])
    ≡ 111 ∷ 118 ∷ 101 ∷ 114 ∷ 108 ∷ 97 ∷ 121 ∷ 32 ∷ 108 ∷ 111 ∷ 103 ∷ 10 ∷ 50 ∷ 32 ∷ 48 ∷ 32 ∷ 50 ∷ 48 ∷ 10 ∷ 54 ∷ 32 ∷ 48 ∷ 32 ∷ 48 ∷ 32 ∷ 53 ∷ 10 ∷ 54 ∷ 32 ∷ 48 ∷ 32 ∷ 54 ∷ 53 ∷ 53 ∷ 51 ∷ 53 ∷ 10 ∷ 54 ∷ 32 ∷ 48 ∷ 32 ∷ 54 ∷ 53 ∷ 53 ∷ 51 ∷ 53 ∷ 10 ∷ 50 ∷ 32 ∷ 48 ∷ 32 ∷ 55 ∷ 10 ∷ 55 ∷ 32 ∷ 48 ∷ 32 ∷ 49 ∷ 32 ∷ 50 ∷ 50 ∷ 10 ∷ 48 ∷ 32 ∷ 49 ∷ 10 ∷ []
unfolding evaluate
locate-log-example = refl

-- a faulty triangle at place 1 and, later, at place 0; an insert at a corner; the chart stays as it was
refused-log-example : log_of (1 ∷ 64 ∷ 156 ∷ 136 ∷ 19 ∷ 200 ∷ 175 ∷ 136 ∷ 19 ∷ 96 ∷ 234 ∷ 200 ∷ 175 ∷ 1 ∷ 1 ∷ 0 ∷ 1 ∷ 0 ∷ 2 ∷ 0 ∷ 2 ∷ 0 ∷ 3 ∷ 0 ∷ 3 ∷ 0 ∷ 2 ∷ 1 ∷ 1 ∷ 64 ∷ 156 ∷ 136 ∷ 19 ∷ 200 ∷ 175 ∷ 136 ∷ 19 ∷ 96 ∷ 234 ∷ 200 ∷ 175 ∷ 1 ∷ 255 ∷ 255 ∷ 255 ∷ 255 ∷ 0 ∷ 0 ∷ 64 ∷ 156 ∷ 96 ∷ 234 ∷ 200 ∷ 175 ∷ 2 ∷ 1 ∷ 1 ∷ 1 ∷ 0 ∷ 1 ∷ 0 ∷ 2 ∷ 0 ∷ 2 ∷ 0 ∷ 3 ∷ 0 ∷ 3 ∷ 0 ∷ 2 ∷ 1 ∷ 3 ∷ 1 ∷ 200 ∷ 175 ∷ 136 ∷ 19 ∷ 6 ∷ 1 ∷ 80 ∷ 195 ∷ 80 ∷ 195 ∷ [])
    ≡ 111 ∷ 118 ∷ 101 ∷ 114 ∷ 108 ∷ 97 ∷ 121 ∷ 32 ∷ 108 ∷ 111 ∷ 103 ∷ 10 ∷ 50 ∷ 32 ∷ 53 ∷ 32 ∷ 49 ∷ 10 ∷ 50 ∷ 32 ∷ 48 ∷ 32 ∷ 50 ∷ 48 ∷ 10 ∷ 50 ∷ 32 ∷ 53 ∷ 32 ∷ 48 ∷ 10 ∷ 51 ∷ 32 ∷ 49 ∷ 52 ∷ 10 ∷ 54 ∷ 32 ∷ 48 ∷ 32 ∷ 49 ∷ 32 ∷ 48 ∷ 10 ∷ []
unfolding evaluate
refused-log-example = refl

-- a flip of 0 and 1, an insert inside triangle 1, a point in one of its parts, and its take-out
edit-log-example : log_of (1 ∷ 60 ∷ 0 ∷ 10 ∷ 0 ∷ 70 ∷ 0 ∷ 50 ∷ 0 ∷ 0 ∷ 0 ∷ 0 ∷ 0 ∷ 1 ∷ 5 ∷ 0 ∷ 40 ∷ 0 ∷ 0 ∷ 0 ∷ 0 ∷ 0 ∷ 70 ∷ 0 ∷ 50 ∷ 0 ∷ 2 ∷ 0 ∷ 5 ∷ 0 ∷ 0 ∷ 0 ∷ 1 ∷ 0 ∷ 6 ∷ 0 ∷ 1 ∷ 0 ∷ 1 ∷ 0 ∷ 3 ∷ 0 ∷ 10 ∷ 0 ∷ 20 ∷ 0 ∷ 6 ∷ 0 ∷ 2 ∷ 0 ∷ 10 ∷ 0 ∷ 4 ∷ 0 ∷ 10 ∷ 0 ∷ 20 ∷ 0 ∷ [])
    ≡ 111 ∷ 118 ∷ 101 ∷ 114 ∷ 108 ∷ 97 ∷ 121 ∷ 32 ∷ 108 ∷ 111 ∷ 103 ∷ 10 ∷ 50 ∷ 32 ∷ 48 ∷ 32 ∷ 52 ∷ 49 ∷ 10 ∷ 53 ∷ 32 ∷ 48 ∷ 32 ∷ 52 ∷ 48 ∷ 10 ∷ 54 ∷ 32 ∷ 48 ∷ 32 ∷ 49 ∷ 32 ∷ 48 ∷ 10 ∷ 51 ∷ 32 ∷ 48 ∷ 32 ∷ 53 ∷ 51 ∷ 10 ∷ 54 ∷ 32 ∷ 48 ∷ 32 ∷ 49 ∷ 32 ∷ 48 ∷ 10 ∷ 52 ∷ 32 ∷ 48 ∷ 32 ∷ 52 ∷ 48 ∷ 10 ∷ []
unfolding evaluate
edit-log-example = refl

-- an insert on a side of U: document 01's case 9, accepted by wish 4
side-log-example : log_of (1 ∷ 0 ∷ 0 ∷ 0 ∷ 0 ∷ 255 ∷ 255 ∷ 0 ∷ 0 ∷ 0 ∷ 0 ∷ 255 ∷ 255 ∷ 2 ∷ 0 ∷ 3 ∷ 0 ∷ 0 ∷ 128 ∷ 255 ∷ 127 ∷ [])
    ≡ 111 ∷ 118 ∷ 101 ∷ 114 ∷ 108 ∷ 97 ∷ 121 ∷ 32 ∷ 108 ∷ 111 ∷ 103 ∷ 10 ∷ 50 ∷ 32 ∷ 48 ∷ 32 ∷ 55 ∷ 10 ∷ 51 ∷ 32 ∷ 48 ∷ 32 ∷ 49 ∷ 52 ∷ 10 ∷ []
unfolding evaluate
side-log-example = refl

-- an overlay with too many pairs prints two numbers
over-log-example : overlay_lines (refused TooManyPairs) ≡ 55 ∷ 32 ∷ 49 ∷ 50 ∷ 10 ∷ []
unfolding evaluate
over-log-example = refl
