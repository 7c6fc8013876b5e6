-- Document 02, wish 5: what lies in a window, a closed rectangle with upright sides.
-- Assumes nothing.
use Rattle.std.specs.Prelude.{Bool, not, ◌&&◌, ◌||◌, List, ℕ, ltb, eqb, length}
use Rattle.theory_lists.specs.Lists.{any, filter, up_to}
use Rattle.theory_orthtree.specs.Entries.{Entry}
use Rattle.spec_plane.specs.Box.{Box, apart, triangle_meets}
use Rattle.spec_squares.specs.declared.Square.{Square}
use Rattle.spec_squares.specs.Square.{square_of_key, square_box}
use Rattle.spec_charts.specs.Table.{Table, numbered}

-- the square of an entry's cell
unfoldable pub entry_square : Entry → Square
entry_square e = square_of_key e.key e.level

-- "a cell whose closed square shares a point with the rectangle"
unfoldable pub cell_touches : Box → Entry → Bool
cell_touches w e = not (apart (square_box (entry_square e)) w)

-- triangle i is "listed in a cell" of that kind
unfoldable pub listed_near : List Entry → Box → ℕ → Bool
listed_near es w i = any (λ e. eqb e.item i && cell_touches w e) es

-- "every triangle of a chart that has a point in common with that closed rectangle, and no other, ascending, each once", where "only
-- triangles listed in a cell whose closed square shares a point with the rectangle count"
unfoldable pub window_of : Table → List Entry → Box → List ℕ
window_of table es w = filter (λ i. triangle_meets (numbered table i) w && listed_near es w i) (up_to (length table))

-- 15: "right is less than left or bottom less than top"
unfoldable pub empty_window : Box → Bool
empty_window w = ltb w.right w.left || ltb w.bottom w.top

-- "a lent list of 512"
abbrev pub window_length : ℕ
window_length = 512
