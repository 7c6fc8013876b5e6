-- Demand 3: what two charts hold after two lists of events, one for each, and what the overlay after them answers. The answer is
-- said of the plain tables alone, of their triangles and their cells: no chart and no entry has a part in it.
-- Assumes nothing.
use Rattle.std.specs.Prelude.{◌≡◌, true, false, ◌↔◌, ℕ, ◌+◌, ◌≤◌, ◌<◌, ltb, length, get_or, drop, replicate}
use mathlib.Core.List.{List, ◌++◌, Memᴰ}
use Rattle.spec_charts.specs.Table.{Table}
use Rattle.spec_charts.specs.Cells.{cells, entries_of}
use Rattle.spec_charts.specs.Edits.{Event, plain_table}
use Rattle.spec_charts.specs.Overlay.{Pair, pair, Earlier, pair_numbers, max_pairs, SharesGround, cell_meetings}
use Rattle.spec_calls.specs.Buffers.{Chart, chart_table, chart_entries, indexed_chart, padded, pairs_length}
use Rattle.spec_calls.specs.Calls.{Overlaid}

-- the answer where the pairs ps share ground, with m meetings: "When more than 4,096 pairs share ground, it returns 12, and the
-- pair count and the meetings are 0", with document 01's "8,192 zeros in pairs". "Otherwise it returns 0 and lists" them, "the pair
-- count is their number", and the meetings are m. What lies beyond place 8,192 of the pairs list stays
unfoldable pub overlay_answer : List Pair → ℕ → List ℕ → Overlaid
overlay_answer ps m before =
    elim (ltb max_pairs (length ps)) [
      | true ↦ record { number = 12; pair_count = 0; meets = 0; pairs = replicate pairs_length 0 ++ drop pairs_length before }
      | false ↦ record { number = 0; pair_count = length ps; meets = m; pairs = padded pairs_length (pair_numbers ps) before }
    ]

-- what the overlay of the plain tables s and t answers, in a pairs list that held `before`: `shared` is the list of the pairs that
-- share ground, "exactly when it shares ground, once, ascending by i, then j". The meetings are "at most the cells of the first plus the
-- cells of the second minus 1"
pub record TablesOverlaid (s t : Table) (before : List ℕ) (o : Overlaid) : Type 0 where
  pub shared : List Pair
  pub exactly : (i j : ℕ) → Memᴰ (pair i j) shared ↔ SharesGround s t i j
  pub ascending : (m n : ℕ) (d : Pair) → m < n → n < length shared → Earlier (get_or shared m d) (get_or shared n d)
  pub answer : o ≡ overlay_answer shared (cell_meetings s t) before
  pub bound : cell_meetings s t + 1 ≤ length (cells s) + length (cells t)

-- "each chart holds document 01's plain table .., with that table's entries": chart d does, in the buffers that were c. All of its
-- lists and counts are as document 01 says (`is`), so the table and the entries are read from them
pub record HoldsTable (c d : Chart) (t : Table) : Type 0 where
  pub is : d ≡ indexed_chart c t
  pub table : chart_table d ≡ t
  pub entries : chart_entries d ≡ entries_of t

-- charts c and d and a pairs list came to charts c' and d' and to the overlay's answer o as demand 3 says, by the lists of events es
-- and fs
pub record HistoriesOverlaid (c d : Chart) (before : List ℕ) (es fs : List Event) (c' d' : Chart) (o : Overlaid) : Type 0 where
  pub first : HoldsTable c c' (plain_table es)
  pub second : HoldsTable d d' (plain_table fs)
  pub overlaid : TablesOverlaid (plain_table es) (plain_table fs) before o
