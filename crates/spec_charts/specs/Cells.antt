-- Document 01, "Cells and entries".
-- Assumes nothing.
use Rattle.std.specs.Prelude.{Bool, true, ◌||◌, ℕ, ◌-◌, eqb}
use mathlib.Core.List.{List, [], ◌∷◌, map, flat_map}
use Rattle.theory_lists.specs.Lists.{all, filter, places_from}
use Rattle.theory_orthtree.specs.Leaves.{leaves_below}
use Rattle.theory_orthtree.specs.Entries.{Entry, empty_mark}
use Rattle.spec_plane.specs.declared.Point.{Point}
use Rattle.spec_plane.specs.Point.{same_point}
use Rattle.spec_plane.specs.Triangle.{Side}
use Rattle.spec_plane.specs.Box.{side_meets, triangle_meets}
use Rattle.spec_squares.specs.declared.Square.{Square}
use Rattle.spec_squares.specs.Square.{depth, quarters, whole_square, square_key, square_box}
use Rattle.spec_charts.specs.Table.{Table, table_sides}

-- the sides of the table that meet the square
unfoldable pub sides_meeting : Table → Square → List Side
sides_meeting table s = filter (λ d. side_meets d (square_box s)) (table_sides table)

-- p is an end of the side
unfoldable pub is_end : Point → Side → Bool
is_end p d = same_point p d.start || same_point p d.end

-- "some point is an end of every side": one of the first side's two ends, if there is a side
unfoldable pub common_end : List Side → Bool
common_end [] = true
common_end (d ∷ ds) = all (λ e. is_end d.start e) ds || all (λ e. is_end d.end e) ds

-- "A square is stopped when its level is 16, or some point is an end of every side of the table that meets it (so also when
-- none meets it)"
unfoldable pub stopped : Table → Square → Bool
stopped table s = eqb s.level depth || common_end (sides_meeting table s)

-- the cells within a square: "the whole square if stopped, else the cells of its four quarters in order"
unfoldable pub cells_in : Table → Square → List Square
cells_in table s = leaves_below (λ q. quarters q) (λ q. stopped table q) (depth - s.level) s

-- "The cells of a table"
unfoldable pub cells : Table → List Square
cells table = cells_in table whole_square

-- the numbers of the triangles that meet the square, ascending
unfoldable pub triangles_meeting : Table → Square → List ℕ
triangles_meeting table s = places_from (λ t. triangle_meets t (square_box s)) 0 table

-- "a cell that none meets has one entry with the mark 65,535"
unfoldable pub or_mark : List ℕ → List ℕ
or_mark [] = empty_mark ∷ []
or_mark (i ∷ is) = i ∷ is

-- the entry of a cell and a triangle number
unfoldable pub entry_of : Square → ℕ → Entry
entry_of s i = record { key = square_key s; level = s.level; item = i }

-- "Each cell has one entry for each triangle that meets it, ascending"
unfoldable pub cell_entries : Table → Square → List Entry
cell_entries table s = map (λ i. entry_of s i) (or_mark (triangles_meeting table s))

-- the entries of the cells within a square
unfoldable pub entries_in : Table → Square → List Entry
entries_in table s = flat_map (λ q. cell_entries table q) (cells_in table s)

-- the entries of a table, cell after cell
unfoldable pub entries_of : Table → List Entry
entries_of table = flat_map (λ s. cell_entries table s) (cells table)

-- "At most 16,384 entries"
abbrev pub max_entries : ℕ
max_entries = 16384
