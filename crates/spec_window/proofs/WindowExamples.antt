-- Examples of Window.antt: entries that are not those of the table, so that each test decides alone; none symmetric in x and y.
-- Assumes nothing.
use mathlib.Core.Path.{◌≡◌, refl}
use mathlib.Core.Bool.{true, false}
use mathlib.Core.List.{List, [], ◌∷◌, map}
use Prim.Native.Nat.{ℕ}
use Rattle.theory_orthtree.specs.Entries.{Entry, entry}
use Rattle.spec_plane.specs.Box.{Box}
use Rattle.spec_charts.specs.Table.{Table}
use Rattle.spec_charts.proofs.Written.{at}
use Rattle.spec_charts.proofs.EditExamples.{tri}
use Rattle.spec_window.specs.Window.{entry_square, cell_touches, listed_near, window_of, empty_window}
use Rattle.spec_window.proofs.Evaluate.{evaluate}

-- the rectangle with these sides
abbrev pub box : ℕ → ℕ → ℕ → ℕ → Box
box left top right bottom = record { left = left; top = top; right = right; bottom = bottom }

-- the square of level 3 at (8192, 40960), of side 8192, and the deepest at the right end of the grid
entry_square-example : entry_square (entry 2348810240 3 9) ∷ entry_square (entry 1431655765 16 2) ∷ []
    ≡ record { x = 8192; y = 40960; level = 3 } ∷ record { x = 65535; y = 0; level = 16 } ∷ []
unfolding evaluate
entry_square-example = refl

-- the first of these: windows that lie at its right, left, lower and upper side and just beyond it, and one within it and one around it
touches-example :
    map (λ w. cell_touches w (entry 2348810240 3 9))
    (box 16384 41000 20000 42000
    ∷ box 16385 41000 20000 42000
    ∷ box 100 41000 8192 42000
    ∷ box 100 41000 8191 42000
    ∷ box 9000 49152 9100 60000
    ∷ box 9000 49153 9100 60000
    ∷ box 9000 100 9100 40960
    ∷ box 9000 100 9100 40959
    ∷ box 9000 41000 9000 41000
    ∷ box 0 0 65535 65535
    ∷ [])
    ≡ true ∷ false ∷ true ∷ false ∷ true ∷ false ∷ true ∷ false ∷ true ∷ true ∷ []
unfolding evaluate
touches-example = refl

-- four triangles, of which 3 reaches into all quarters, in four quarters that list what they like
abbrev table : Table
table =
    tri (at 1000 200) (at 9000 300) (at 2000 7000)
    ∷ tri (at 40000 100) (at 60000 200) (at 50000 30000)
    ∷ tri (at 100 40000) (at 20000 50000) (at 200 60000)
    ∷ tri (at 1000 200) (at 60000 40000) (at 1500 30000)
    ∷ []

abbrev es : List Entry
es =
    entry 0 1 0
    ∷ entry 0 1 3
    ∷ entry 1073741824 1 1
    ∷ entry 1073741824 1 2
    ∷ entry 2147483648 1 2
    ∷ entry 3221225472 1 65535
    ∷ []

-- listed in the quarter that the window touches, in one that it does not, in both; at the lines between the quarters
near-example :
    map (λ i. listed_near es (box 40000 100 50000 32767) i) (0 ∷ 1 ∷ 2 ∷ 3 ∷ 4 ∷ 65535 ∷ [])
    ≡ false ∷ true ∷ true ∷ false ∷ false ∷ false ∷ []
unfolding evaluate
near-example = refl

near-line-example :
    map (λ i. listed_near es (box 32768 100 50000 32767) i) (0 ∷ 1 ∷ 2 ∷ 3 ∷ 4 ∷ [])
    ≡ true ∷ true ∷ true ∷ true ∷ false ∷ []
unfolding evaluate
near-line-example = refl

-- all; 3 has ground in the window but is not listed near it, 2 is but has none; listed near it by a line; below that quarter; none
window-example :
    map (λ w. window_of table es w)
    (box 0 0 65535 65535
    ∷ box 40000 26500 50000 32767
    ∷ box 32768 26500 50000 32767
    ∷ box 0 32768 40000 65535
    ∷ box 61000 61000 65535 65535
    ∷ [])
    ≡ (0 ∷ 1 ∷ 2 ∷ 3 ∷ []) ∷ (1 ∷ []) ∷ (1 ∷ 3 ∷ []) ∷ (2 ∷ 3 ∷ []) ∷ [] ∷ []
unfolding evaluate
window-example = refl

-- a thin triangle: windows of no width that have a point of it, though none of the grid; at its corners; on its sides, and beside them
thin-example :
    map (λ w. window_of (tri (at 40000 9) (at 40003 10) (at 40005 11) ∷ []) (entry 0 0 0 ∷ []) w)
    (box 40001 9 40001 10
    ∷ box 40004 10 40004 11
    ∷ box 40004 11 40004 11
    ∷ box 40001 10 40002 10
    ∷ box 40002 10 40003 10
    ∷ box 40000 9 40000 9
    ∷ box 40005 11 40005 11
    ∷ box 39999 9 39999 11
    ∷ [])
    ≡ (0 ∷ []) ∷ (0 ∷ []) ∷ [] ∷ [] ∷ (0 ∷ []) ∷ (0 ∷ []) ∷ (0 ∷ []) ∷ [] ∷ []
unfolding evaluate
thin-example = refl

-- no width and no height are allowed; right less than left, bottom less than top, and both
empty-example :
    map (λ w. empty_window w) (box 7 9 7 9 ∷ box 7 9 6 9 ∷ box 7 9 7 8 ∷ box 7 9 6 8 ∷ box 7 9 8 10 ∷ box 65535 0 65534 65535 ∷ [])
    ≡ false ∷ true ∷ true ∷ true ∷ false ∷ true ∷ []
unfolding evaluate
empty-example = refl
