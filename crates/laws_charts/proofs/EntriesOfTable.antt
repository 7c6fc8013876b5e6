-- How the cells and entries within a square, and the triangles and sides that meet it, come from its quarters and from the
-- squares above it.
-- The idea: the recursion over squares gives the entries; what meets a part meets the whole, so what meets a quarter is found among
-- what meets the square.
-- Assumes nothing.
use mathlib.Core.Path.{◌≡◌, refl, sym, ◌∙◌, ap}
use mathlib.Core.Bool.{true, false}
use mathlib.Core.List.{List, [], ◌∷◌, ◌++◌, flat_map, append-nil}
use Prim.Native.Nat.{ℕ, ◌-◌, ◌<◌}
use native.Mathlib.Omega.{arith}
use lib.Dec.{T}
use lib.ListN.{length}
use Rattle.theory_lists.specs.Lists.{filter, up_to}
use Rattle.theory_lists.proofs.Reflects.{test-false}
use Rattle.theory_lists.proofs.ListsLaws.{Every, every-cons, up_to-to}
use Rattle.theory_lists.proofs.EveryLaws.{every-nil}
use Rattle.theory_lists.proofs.FilterLaws.{filter_none}
use Rattle.theory_lists.proofs.FlatMapLaws.{flat_map-flat_map, filter-flat_map, flat_map-filter, filter-narrow, places-filter, flat_map-places}
use Rattle.theory_orthtree.proofs.LeavesLaws.{leaves-stopped, leaves-split}
use Rattle.spec_plane.specs.Triangle.{Side, sides, proper}
use Rattle.spec_plane.specs.Box.{side_meets, triangle_meets}
use Rattle.laws_separation.proofs.Boxes.{NotEmpty}
use Rattle.laws_separation.proofs.Parts.{BoxWithin, triangle_meets-part}
use Rattle.laws_separation.proofs.SideMeets.{side-triangle-meets}
use Rattle.spec_squares.specs.declared.Square.{Square}
use Rattle.spec_squares.specs.Square.{depth, whole_square, top_left, top_right, bottom_left, bottom_right, quarters, square_box}
use Rattle.spec_squares.proofs.SquareLaws.{side-half, quarters-level}
use Rattle.spec_charts.specs.Table.{Table, table_sides, numbered, no_triangle}
use Rattle.spec_charts.specs.Cells.{sides_meeting, stopped, cells_in, cells, triangles_meeting, cell_entries, entries_in, entries_of}
use Rattle.laws_charts.proofs.TableLaws.{numbered-proper}

-- a stopped square is its only cell
pub cells_in-stopped : (table : Table) (s : Square) → stopped table s ≡ true → cells_in table s ≡ s ∷ []
unfolding cells_in
cells_in-stopped table s e = leaves-stopped (λ q. quarters q) (λ q. stopped table q) (depth - s.level) s e

-- the cells of a square that is not stopped are those of its quarters
pub cells_in-split : (table : Table) (s : Square) → s.level < 16 → stopped table s ≡ false
    → cells_in table s ≡ flat_map (λ q. cells_in table q) (quarters s)
unfolding cells_in
cells_in-split table s l e = leaves-split depth (λ q. quarters q) (λ q. q.level) (λ q. stopped table q) s l (quarters-level s) e

-- the entries of a stopped square are those of one cell
pub entries_in-stopped : (table : Table) (s : Square) → stopped table s ≡ true → entries_in table s ≡ cell_entries table s
unfolding entries_in flat_map
entries_in-stopped table s e = ap (flat_map (λ q. cell_entries table q)) (cells_in-stopped table s e) ∙ append-nil (cell_entries table s)

-- the entries of a square that is not stopped are those of its quarters, in order
pub entries_in-split : (table : Table) (s : Square) → s.level < 16 → stopped table s ≡ false
    → entries_in table s
    ≡ entries_in table (top_left s) ++ (entries_in table (top_right s) ++ (entries_in table (bottom_left s) ++ entries_in table (bottom_right s)))
unfolding entries_in flat_map quarters
entries_in-split table s l e =
    ap (flat_map (λ q. cell_entries table q)) (cells_in-split table s l e)
    ∙ flat_map-flat_map (λ q. cell_entries table q) (λ q. cells_in table q) (quarters s)
    ∙ ap
    (λ r. entries_in table (top_left s) ++ (entries_in table (top_right s) ++ (entries_in table (bottom_left s) ++ r)))
    (append-nil (entries_in table (bottom_right s)))

-- the entries within the whole square are those of the table
pub entries_in-whole : (table : Table) → entries_in table whole_square ≡ entries_of table
unfolding entries_in entries_of cells
entries_in-whole table = refl

-- the triangles that meet a square, looked for among all numbers
pub meeting-filter : (table : Table) (s : Square)
    → filter (λ i. triangle_meets (numbered table i) (square_box s)) (up_to (length table)) ≡ triangles_meeting table s
unfolding numbered triangles_meeting
meeting-filter table s = places-filter no_triangle (λ t. triangle_meets t (square_box s)) table

-- the triangles that meet a part of a square, looked for among those that meet the square
pub meeting-narrow : (table : Table) (s q : Square) → BoxWithin (square_box q) (square_box s)
    → filter (λ i. triangle_meets (numbered table i) (square_box q)) (triangles_meeting table s) ≡ triangles_meeting table q
meeting-narrow table s q w =
    ap (filter (λ i. triangle_meets (numbered table i) (square_box q))) (sym (meeting-filter table s))
    ∙ filter-narrow (λ i. triangle_meets (numbered table i) (square_box q)) (λ i. triangle_meets (numbered table i) (square_box s))
    (up_to (length table)) (λ i m. triangle_meets-part (numbered table i) w)
    ∙ meeting-filter table q

module _ (s : Square) (l : s.level < 16) where
  -- the top left quarter is a part of its square
  pub top_left-within : BoxWithin (square_box (top_left s)) (square_box s)
  unfolding square_box top_left
  top_left-within = omega (arith, side-half s.level l)

  -- the top right quarter is a part of its square
  pub top_right-within : BoxWithin (square_box (top_right s)) (square_box s)
  unfolding square_box top_right
  top_right-within = omega (arith, side-half s.level l)

  -- the bottom left quarter is a part of its square
  pub bottom_left-within : BoxWithin (square_box (bottom_left s)) (square_box s)
  unfolding square_box bottom_left
  bottom_left-within = omega (arith, side-half s.level l)

  -- the bottom right quarter is a part of its square
  pub bottom_right-within : BoxWithin (square_box (bottom_right s)) (square_box s)
  unfolding square_box bottom_right
  bottom_right-within = omega (arith, side-half s.level l)

  -- the quarters are parts of their square
  pub quarter-within : Every (λ q. BoxWithin (square_box q) (square_box s)) (quarters s)
  unfolding quarters
  quarter-within =
      let none = every-nil (λ q. BoxWithin (square_box q) (square_box s)) in
      every-cons (top_left-within, every-cons (top_right-within, every-cons (bottom_left-within, every-cons (bottom_right-within, none))))

-- a square has points
pub square-not-empty : (s : Square) → NotEmpty (square_box s)
unfolding square_box
square-not-empty s = omega arith

module _ (table : Table) (good : Every (λ t. T (proper t)) table) (s : Square) where
  abbrev meeting : ℕ → List Side
  meeting i = filter (λ d. side_meets d (square_box s)) (sides (numbered table i))

  -- a triangle that does not meet the square has no side that does
  no-side : (i : ℕ) → i < length table → triangle_meets (numbered table i) (square_box s) ≡ false → meeting i ≡ []
  no-side i h e =
      filter_none (λ d. side_meets d (square_box s)) (sides (numbered table i)) (λ d m.
      test-false (λ t. rw e at (side-triangle-meets (numbered table i) (square_box s) d (numbered-proper table good i h) (square-not-empty s) m t)))

  -- the sides that meet a square are sides of the triangles that meet it
  pub sides-narrow : sides_meeting table s ≡ flat_map (λ i. filter (λ d. side_meets d (square_box s)) (sides (numbered table i))) (triangles_meeting table s)
  unfolding sides_meeting table_sides numbered
  sides-narrow =
      filter-flat_map (λ t. sides t) (λ d. side_meets d (square_box s)) table
      ∙ sym (flat_map-places no_triangle (λ t. filter (λ d. side_meets d (square_box s)) (sides t)) table)
      ∙ sym (flat_map-filter meeting (λ i. triangle_meets (numbered table i) (square_box s)) (up_to (length table))
      (λ i m. no-side i (up_to-to m)))
      ∙ ap (flat_map meeting) (meeting-filter table s)
