-- The meetings of the entries of two tables are the pairs of their cells whose key ranges overlap.
-- The idea: the cells of a table tile the keys, so neighbouring cells differ and each has one first entry.
-- Assumes nothing.
use mathlib.Core.Path.{◌≡◌}
use mathlib.Core.List.{List, [], ◌∷◌, map}
use Prim.Native.Nat.{ℕ, ◌+◌, ◌^◌, ◌≤◌, ◌<◌}
use native.Mathlib.Omega.{arith}
use lib.ListN.{length, get_or}
use Rattle.theory_lists.proofs.Reflects.{Reflects, reflects-iff}
use Rattle.theory_orthtree.specs.Entries.{Entry, cell_heads, span, range_end, overlaps, meetings}
use Rattle.theory_orthtree.proofs.RangeLaws.{Within}
use Rattle.theory_orthtree.proofs.EntriesLaws.{span-positive, overlaps-reflects}
use Rattle.theory_orthtree.proofs.TilingLaws.{Tiles}
use Rattle.theory_orthtree.proofs.MeetingsLaws.{heads-of-tiling, meetings-of-heads}
use Rattle.theory_orthtree.proofs.MeetingsBound.{tilings-meet}
use Rattle.spec_squares.specs.declared.Square.{Square}
use Rattle.spec_squares.specs.Square.{arity, depth, square_key}
use Rattle.spec_squares.proofs.SquareLeavesLaws.{whole-tiles}
use Rattle.spec_charts.specs.Table.{Table}
use Rattle.spec_charts.specs.Overlay.{keys_of, ranges_overlap, cell_meetings}
use Rattle.spec_charts.specs.Cells.{stopped, cells_in, cells, triangles_meeting, or_mark, entry_of, cell_entries, entries_of}

-- the cells of a table tile the keys
pub cells-tile : (table : Table) → Tiles (λ s. square_key s) (λ s. span arity depth s.level) 0 (cells table) (2 ^ 32)
unfolding cells cells_in
cells-tile table = whole-tiles (λ s. stopped table s)

some_item : (is : List ℕ) → 0 < length (or_mark is)
unfolding or_mark
some_item [] = omega arith
some_item (i ∷ is) = omega arith

-- the first entry of a cell: its lowest triangle number, or the mark
abbrev pub first_entry : Table → Square → Entry
first_entry table s = entry_of s (get_or (or_mark (triangles_meeting table s)) 0 0)

-- the first entries of the cells are one for each cell of the table, in order
pub cell-heads : (table : Table) → cell_heads (entries_of table) ≡ map (λ s. first_entry table s) (cells table)
unfolding entries_of cell_entries entry_of
cell-heads table =
    heads-of-tiling arity depth (omega arith) (λ s. square_key s) (λ s. s.level) (λ s. or_mark (triangles_meeting table s)) (cells-tile table)
    (λ s m. some_item (triangles_meeting table s))

-- "whose key ranges overlap, that is, have a key in common"
pub record RangesOverlap (q r : Square) : Type 0 where
  pub key : ℕ
  pub first : Within (square_key q) (keys_of q) key
  pub second : Within (square_key r) (keys_of r) key

-- the test decides it
pub ranges_overlap-reflects : (q r : Square) → Reflects (ranges_overlap q r) (RangesOverlap q r)
unfolding ranges_overlap overlaps range_end entry_of
ranges_overlap-reflects q r =
    reflects-iff
    (λ c. record {
      key = c.key;
      first = record { starts = c.first.starts; ends = c.first.ends };
      second = record { starts = c.second.starts; ends = c.second.ends };
    })
    (λ c. record {
      key = c.key;
      first = record { starts = c.first.starts; ends = c.first.ends };
      second = record { starts = c.second.starts; ends = c.second.ends };
    })
    (overlaps-reflects arity depth (omega arith) (entry_of q 0) (entry_of r 0))

module _ (s t : Table) where
  -- "the meetings, the number of pairs of cells (one from each chart) whose key ranges overlap"
  pub meetings-of-cells : meetings arity depth (entries_of s) (entries_of t)
      ≡ cell_meetings s t
  unfolding cell_meetings ranges_overlap overlaps range_end entry_of
  meetings-of-cells =
      meetings-of-heads arity depth (λ q. first_entry s q) (λ r. first_entry t r) (cells s) (cells t) (entries_of s) (entries_of t)
      (cell-heads s) (cell-heads t)

  -- at most cells + cells - 1
  pub meetings-of-cells-bound : meetings arity depth (entries_of s) (entries_of t) + 1 ≤ length (cells s) + length (cells t)
  unfolding cell_meetings ranges_overlap
  meetings-of-cells-bound =
      rw meetings-of-cells
      (tilings-meet (λ r. square_key r) (λ r. keys_of r) (λ q. square_key q) (λ q. keys_of q) (omega arith)
      (λ q m. span-positive arity depth q.level (omega arith)) (cells-tile s) (cells-tile t))
