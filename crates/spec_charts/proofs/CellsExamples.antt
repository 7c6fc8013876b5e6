-- Examples of Cells.antt, the parts: sides and triangles that meet a square, when it is stopped, and one cell's entries.
-- Assumes nothing.
use mathlib.Core.Path.{◌≡◌, refl}
use mathlib.Core.Bool.{true, false}
use mathlib.Core.List.{[], ◌∷◌, map}
use Prim.Native.Nat.{ℕ}
use Rattle.spec_plane.specs.declared.Point.{Point}
use Rattle.spec_plane.specs.Triangle.{Side}
use Rattle.spec_squares.specs.declared.Square.{Square}
use Rattle.spec_charts.specs.Table.{Table}
use Rattle.spec_charts.specs.Cells.{sides_meeting, is_end, common_end, stopped, cells_in, cells, triangles_meeting, or_mark, entry_of, cell_entries, entries_in}
use Rattle.spec_charts.proofs.Evaluate.{evaluate}
use Rattle.spec_charts.proofs.Written.{at, entry_numbers, cell_numbers}
use Rattle.spec_charts.proofs.EditExamples.{pa, pb, pc, pd, tri}

-- the square with the corner x, y
abbrev square : ℕ → ℕ → ℕ → Square
square x y level = record { x = x; y = y; level = level }

-- the side from p to q
abbrev side : Point → Point → Side
side p q = record { start = p; end = q }

-- two triangles with a corner in common, and one that is one unit wide
abbrev pair : Table
pair = tri (at 40000 5000) (at 45000 5000) (at 60000 45000) ∷ tri (at 65535 65535) (at 0 40000) (at 60000 45000) ∷ []

abbrev small : Table
small = tri (at 1000 301) (at 1001 301) (at 1000 302) ∷ []

-- two, five, none and all three sides
sides_meeting-example : map (λ s. sides_meeting pair s) (square 0 32768 1 ∷ square 49152 32768 2 ∷ square 0 0 1 ∷ square 32768 0 1 ∷ [])
    ≡ (side (at 65535 65535) (at 0 40000) ∷ side (at 0 40000) (at 60000 45000) ∷ [])
    ∷ (side (at 45000 5000) (at 60000 45000) ∷ side (at 60000 45000) (at 40000 5000) ∷ side (at 0 40000) (at 60000 45000) ∷ side (at 60000 45000) (at 65535 65535) ∷ [])
    ∷ []
    ∷ (side (at 40000 5000) (at 45000 5000) ∷ side (at 45000 5000) (at 60000 45000) ∷ side (at 60000 45000) (at 40000 5000) ∷ [])
    ∷ []
unfolding evaluate
sides_meeting-example = refl

-- the start, the end, neither
is_end-example : map (λ d. is_end pa d) (side pa pb ∷ side pb pa ∷ side pb pc ∷ []) ≡ true ∷ true ∷ false ∷ []
unfolding evaluate
is_end-example = refl

-- no side; one; all from the first one's start, or its end, in both directions; sides that touch two by two; one side apart,
-- last or second
common_end-example :
    map (λ ds. common_end ds)
    ([]
    ∷ (side pa pb ∷ [])
    ∷ (side pa pb ∷ side pa pc ∷ side pd pa ∷ [])
    ∷ (side pa pb ∷ side pc pb ∷ side pb pd ∷ [])
    ∷ (side pa pb ∷ side pb pc ∷ side pc pa ∷ [])
    ∷ (side pa pb ∷ side pa pc ∷ side pc pd ∷ [])
    ∷ (side pa pb ∷ side pc pd ∷ side pa pd ∷ [])
    ∷ (side pa pb ∷ side pb pc ∷ side pc pd ∷ [])
    ∷ (side pa pb ∷ side pc pd ∷ side pb pd ∷ [])
    ∷ [])
    ≡ true ∷ true ∷ true ∷ true ∷ false ∷ false ∷ false ∷ false ∷ false ∷ []
unfolding evaluate
common_end-example = refl

-- level 16 with three sides, level 15 with the same three, four sides with a common end, no side
stopped-example :
    stopped small (square 1000 301 16)
    ∷ stopped small (square 1000 300 15)
    ∷ stopped pair (square 49152 32768 2)
    ∷ stopped pair (square 0 0 1)
    ∷ stopped pair (square 32768 32768 1)
    ∷ []
    ≡ true ∷ false ∷ true ∷ true ∷ false ∷ []
unfolding evaluate
stopped-example = refl

-- the cells within the square top right, and within one that is stopped
cells_in-example : cell_numbers (cells_in pair (square 32768 32768 1)) ∷ cell_numbers (cells_in pair (square 0 32768 1)) ∷ cell_numbers (cells_in small (square 1000 300 15)) ∷ []
    ≡ (3221225472 ∷ 2 ∷ 3489660928 ∷ 2 ∷ 3758096384 ∷ 2 ∷ 4026531840 ∷ 2 ∷ [])
    ∷ (2147483648 ∷ 1 ∷ [])
    ∷ (482528 ∷ 16 ∷ 482529 ∷ 16 ∷ 482530 ∷ 16 ∷ 482531 ∷ 16 ∷ [])
    ∷ []
unfolding evaluate
cells_in-example = refl

cells-example : cell_numbers (cells pair)
    ≡ 0 ∷ 1 ∷ 1073741824 ∷ 3 ∷ 1140850688 ∷ 4 ∷ 1157627904 ∷ 4 ∷ 1174405120 ∷ 5 ∷ 1178599424 ∷ 5 ∷ 1182793728 ∷ 5 ∷ 1186988032 ∷ 5 ∷ 1191182336 ∷ 4 ∷ 1207959552 ∷ 3 ∷ 1275068416 ∷ 3 ∷ 1342177280 ∷ 2 ∷ 1610612736 ∷ 2 ∷ 1879048192 ∷ 2 ∷ 2147483648 ∷ 1 ∷ 3221225472 ∷ 2 ∷ 3489660928 ∷ 2 ∷ 3758096384 ∷ 2 ∷ 4026531840 ∷ 2 ∷ []
unfolding evaluate
cells-example = refl

-- ascending numbers, from 0
triangles_meeting-example : map (λ s. triangles_meeting pair s) (square 0 0 1 ∷ square 32768 0 1 ∷ square 0 32768 1 ∷ square 49152 32768 2 ∷ [])
    ≡ [] ∷ (0 ∷ []) ∷ (1 ∷ []) ∷ (0 ∷ 1 ∷ []) ∷ []
unfolding evaluate
triangles_meeting-example = refl

or_mark-example : map (λ is. or_mark is) ([] ∷ (3 ∷ 5 ∷ []) ∷ []) ≡ (65535 ∷ []) ∷ (3 ∷ 5 ∷ []) ∷ []
unfolding evaluate
or_mark-example = refl

-- the key of the corner, the level, the triangle
entry_of-example : entry_of (square 32768 0 1) 7 ≡ record { key = 1073741824; level = 1; item = 7 }
unfolding evaluate
entry_of-example = refl

cell_entries-example : map (λ s. entry_numbers (cell_entries pair s)) (square 0 0 1 ∷ square 49152 32768 2 ∷ [])
    ≡ (0 ∷ 1 ∷ 65535 ∷ []) ∷ (3489660928 ∷ 2 ∷ 0 ∷ 3489660928 ∷ 2 ∷ 1 ∷ []) ∷ []
unfolding evaluate
cell_entries-example = refl

entries_in-example : map (λ s. entry_numbers (entries_in pair s)) (square 32768 32768 1 ∷ square 0 32768 1 ∷ [])
    ≡ (3221225472 ∷ 2 ∷ 1 ∷ 3489660928 ∷ 2 ∷ 0 ∷ 3489660928 ∷ 2 ∷ 1 ∷ 3758096384 ∷ 2 ∷ 1 ∷ 4026531840 ∷ 2 ∷ 1 ∷ [])
    ∷ (2147483648 ∷ 1 ∷ 1 ∷ [])
    ∷ []
unfolding evaluate
entries_in-example = refl
