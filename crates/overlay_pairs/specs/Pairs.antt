-- The pairs of an overlay, from two tables and a table of marks: row i has a bit for each triangle of the second table.
-- Assumes nothing.
use Rattle.std.specs.Prelude.{◌≡◌, Bool, ◌&&◌, cond, ℕ, ◌+◌, ◌*◌, ◌≤◌, ◌<◌, Option, MatchOption, length, get_or, drop}
use mathlib.Core.List.{List, [], ◌∷◌, map, flat_map}
use Rattle.std.proofs.lemmas.List.Edits.{sets}
use Rattle.theory_lists.specs.Lists.{filter, up_to}
use Rattle.spec_plane.specs.Interior.{interiors_meet}
use Rattle.spec_charts.specs.Table.{max_triangles, numbers_per_triangle, triangle_at}
use Rattle.spec_charts.specs.Overlay.{Pair, pair_numbers, max_pairs}
use Rattle.spec_calls.specs.Buffers.{pairs_length}
use Rattle.spec_calls.specs.Lent.{Lent}
use Rattle.base_boxes.specs.Boxes.{BoxedTable}
use Rattle.overlay_candidates.specs.declared.MarkedBoxes.{MarkedBoxes}
use Rattle.overlay_candidates.specs.RowCandidates.{marked_at, RowPlaces}

-- triangle i of the first table has a common interior point with triangle j of the second
abbrev pub meets_at : List ℕ → List ℕ → ℕ → ℕ → Bool
meets_at first second i j = interiors_meet (triangle_at first i) (triangle_at second j)

-- the pair of i and j, or nothing
abbrev pub pair_if : Bool → ℕ → ℕ → List Pair
pair_if b i j = cond b (record { i = i; j = j } ∷ []) []

-- the pairs of triangle i with those of a list with which it has a common interior point
unfoldable pub near_pairs : List ℕ → List ℕ → ℕ → List ℕ → List Pair
near_pairs first second i js = map (λ j. record { i = i; j = j }) (filter (λ j. meets_at first second i j) js)

-- the marked pairs of triangle i that have a common interior point, among the first m triangles of the second table
unfoldable pub row_pairs : List ℕ → List ℕ → ℕ → List ℕ → ℕ → List Pair
row_pairs first second m rows i =
    map (λ j. record { i = i; j = j }) (filter (λ j. meets_at first second i j && marked_at rows i j) (up_to m))

-- those of the first n triangles of the first table, ascending
unfoldable pub marked_pairs : List ℕ → ℕ → List ℕ → ℕ → List ℕ → List Pair
marked_pairs first n second m rows = flat_map (λ i. row_pairs first second m rows i) (up_to n)

-- pairs are written after the first `at`: how many there are then, or none where they are more than may be; where they may be, they
-- are stored; and what comes after the lent places stays
pub record Wrote (ps : List Pair) (at : ℕ) (next : Option ℕ) (before after : List ℕ) : Type 0 where
  pub count : MatchOption next (max_pairs < at + length ps) (λ n. (n ≡ at + length ps) × (n ≤ max_pairs))
  pub stored : at + length ps ≤ max_pairs → after ≡ sets before (2 * at) (pair_numbers ps)
  pub beyond : drop pairs_length after ≡ drop pairs_length before
  pub kept : length after ≡ length before

-- triangle i is one of a table's: its number may be, and its corners are there
pub record TriangleIn (table : List ℕ) (i : ℕ) : Type 0 where
  pub few : i < max_triangles
  pub room : numbers_per_triangle * (i + 1) ≤ length table

-- the numbers of a list are those of triangles of a table
abbrev pub NearTriangles : List ℕ → List ℕ → Type 0
NearTriangles table near = (k : ℕ) → k < length near → TriangleIn table (get_or near k 0)

-- a list has room for all pairs, and those found so far are at most one more than may be
pub record PairsRoom (found : ℕ) (pairs : List ℕ) : Type 0 where
  pub few : found ≤ max_pairs + 1
  pub room : pairs_length ≤ length pairs

-- the triangles of the second table with their boxes, and where candidates are found and listed
pub record SecondTable (second : List ℕ) (marked : MarkedBoxes) (near : List ℕ) : Type 0 where
  pub few : marked.triangles ≤ max_triangles
  pub boxed : BoxedTable second marked.boxes.now marked.triangles
  pub places : RowPlaces marked.rows.now near

-- the marked pairs of triangle i are written, and the list of candidates is as long as it was
pub record RowWrote (first second : List ℕ) (m : ℕ) (rows : List ℕ) (i found : ℕ) (next : Option ℕ) (near pairs : Lent) : Type 0 where
  pub wrote : Wrote (row_pairs first second m rows i) found next pairs.entry.now pairs.exit.now
  pub kept : length near.exit.now ≡ length near.entry.now
