-- Ways to write results as numbers, for examples.
-- Assumes nothing.
use mathlib.Core.List.{List, [], ◌∷◌, ◌++◌, flat_map}
use mathlib.Core.Option.{Option, none, some}
use Prim.Native.Nat.{ℕ}
use lib.ListN.{length}
use Rattle.theory_orthtree.specs.Entries.{Entry}
use Rattle.spec_plane.specs.declared.Point.{Point}
use Rattle.spec_plane.specs.Position.{position_number}
use Rattle.spec_squares.specs.declared.Square.{Square}
use Rattle.spec_squares.specs.Square.{square_key}
use Rattle.spec_charts.specs.Table.{Table, table_numbers}
use Rattle.spec_charts.specs.Cells.{entries_of}
use Rattle.spec_charts.specs.Refusals.{row_of, Outcome, refused, done}
use Rattle.spec_charts.specs.Overlay.{OverlayAnswer, pair_numbers, overlay_of}
use Rattle.spec_charts.specs.Reading.{located, found_position}

-- the point x, y
abbrev pub at : ℕ → ℕ → Point
at x y = record { x = x; y = y }

-- key, level and triangle of each entry
abbrev pub entry_numbers : List Entry → List ℕ
entry_numbers es = flat_map (λ e. e.key ∷ e.level ∷ e.item ∷ []) es

-- key and level of each cell
abbrev pub cell_numbers : List Square → List ℕ
cell_numbers ss = flat_map (λ s. square_key s ∷ s.level ∷ []) ss

-- 1 and the triangle, or 0 for nowhere
abbrev pub found_numbers : Option ℕ → List ℕ
found_numbers none = 0 ∷ []
found_numbers (some i) = 1 ∷ i ∷ []

-- 0 and the table's numbers, or the refusal's number and value
abbrev pub outcome_numbers : Outcome Table → List ℕ
outcome_numbers (refused r) = (row_of r).number ∷ (row_of r).value ∷ []
outcome_numbers (done t) = 0 ∷ table_numbers t

-- 0, pair count, meetings and pairs, or the refusal's number
abbrev pub overlay_numbers : Outcome OverlayAnswer → List ℕ
overlay_numbers (refused r) = (row_of r).number ∷ []
overlay_numbers (done h) = 0 ∷ length h.pairs ∷ h.meets ∷ pair_numbers h.pairs

-- locate in a table, indexed, and the position's number
abbrev pub located_in : Table → Point → List ℕ
located_in t p =
    let found : Option ℕ = located t (entries_of t) p in
    found_numbers found ++ (position_number (found_position t p found) ∷ [])

-- overlay of two tables, indexed
abbrev pub overlaid : Table → Table → List ℕ
overlaid s t = overlay_numbers (overlay_of s (entries_of s) t (entries_of t))
