-- Demand 2: what a chart holds after an accepted load or edit, and the triangle found under a point.
-- Assumes nothing.
use Rattle.std.specs.Prelude.{◌≡◌, true, false, ◌↔◌, ℕ, suc, ◌+◌, ◌^◌, ◌≤◌, ◌<◌, T, length, get_or}
use mathlib.Core.List.{List, map, flat_map, Memᴰ}
use Rattle.std.proofs.Math.Option.{none, some}
use Rattle.spec_plane.specs.declared.Point.{Point}
use Rattle.spec_plane.specs.declared.Position.{Position}
use Rattle.spec_plane.specs.declared.Position.TheVariants.{Outside}
use Rattle.spec_plane.specs.Triangle.{holds}
use Rattle.spec_plane.specs.Position.{Means}
use Rattle.spec_plane.specs.Box.{triangle_meets}
use Rattle.spec_squares.specs.declared.Square.{Square}
use Rattle.spec_squares.specs.Square.{whole_square, square_key, square_box}
use Rattle.spec_charts.specs.Table.{Table, numbered}
use Rattle.spec_charts.specs.Cells.{cells, or_mark, entry_of}
use Rattle.spec_charts.specs.Refusals.{done}
use Rattle.spec_charts.specs.Edits.{Event, event_on}
use Rattle.spec_charts.specs.Overlay.{keys_of}
use Rattle.spec_calls.specs.Buffers.{Chart, too_short, chain_rule, indexed, chart_table, chart_entries, indexed_chart}
use Rattle.spec_calls.specs.Calls.{locate_call}

-- "in Z-order": the squares' key ranges follow one another without gap or overlap, from 0 up to 2^32
pub record InZOrder (ss : List Square) : Type 0 where
  pub some : 0 < length ss
  pub first : square_key (get_or ss 0 whole_square) ≡ 0
  pub next : (n : ℕ) → suc n < length ss
      → square_key (get_or ss (suc n) whole_square) ≡ square_key (get_or ss n whole_square) + keys_of (get_or ss n whole_square)
  pub last : (n : ℕ) → suc n ≡ length ss → square_key (get_or ss n whole_square) + keys_of (get_or ss n whole_square) ≡ 2 ^ 32

-- "all the triangles that meet it and no other", document 01's "ascending": `is` are the numbers of the triangles that meet the square
pub record AllMeeting (table : Table) (s : Square) (is : List ℕ) : Type 0 where
  pub exactly : (i : ℕ) → Memᴰ i is ↔ ((i < length table) × T (triangle_meets (numbered table i) (square_box s)))
  pub ascending : (m n : ℕ) → m < n → n < length is → get_or is m 0 < get_or is n 0

-- the chart's entries are "the leaf cells of the published star-quadtree rule on our grid, in Z-order, each with all the triangles that
-- meet it and no other", a cell that none meets with document 01's mark: cell after cell, an entry for each of its triangles
pub record LeafCells (d : Chart) : Type 0 where
  pub items : Square → List ℕ
  pub meeting : (s : Square) → Memᴰ s (cells (chart_table d)) → AllMeeting (chart_table d) s (items s)
  pub order : InZOrder (cells (chart_table d))
  pub entries : chart_entries d ≡ flat_map (λ s. map (λ i. entry_of s i) (or_mark (items s))) (cells (chart_table d))

-- triangle i is the lowest numbered of the table that holds p
pub record LowestHolding (table : Table) (p : Point) (i : ℕ) : Type 0 where
  pub below : i < length table
  pub holding : T (holds (numbered table i) p)
  pub lowest : (j : ℕ) → j < i → T (holds (numbered table j) p) → ⊥

-- "The triangle found under a point is the one document 01 names": locate answers 0, and finds the lowest numbered triangle of the
-- whole table that holds p; "else nowhere". By wish 1 it says where p lies by that triangle, and outside when nowhere
pub record FoundUnder (d : Chart) (p : Point) : Type 0 where
  pub number : (locate_call d p).number ≡ 0
  pub found : (i : ℕ) → ((locate_call d p).found ≡ some i) ↔ LowestHolding (chart_table d) p i
  pub nowhere : ((locate_call d p).found ≡ none) ↔ ((i : ℕ) → i < length (chart_table d) → T (holds (numbered (chart_table d) i) p) → ⊥)
  pub position : (i : ℕ) → (locate_call d p).found ≡ some i
      → (q : Position) → ((locate_call d p).position ≡ q) ↔ Means (numbered (chart_table d) i) p q
  pub outside : (locate_call d p).found ≡ none → (locate_call d p).position ≡ Outside

-- what the event e, accepted, left of the chart c: the chart d. Its table is what the event makes of the table before it, its lists and
-- counts are all as document 01 says (`is`), it passes refusals 1, 2 and 3 of the next call, its entries are the leaf cells, and the
-- triangle under each point of the grid is found
pub record AcceptedLeaves (e : Event) (c d : Chart) : Type 0 where
  pub made : event_on e (chart_table c) ≡ done (chart_table d)
  pub is : d ≡ indexed_chart c (chart_table d)
  pub long : too_short d ≡ false
  pub chained : chain_rule d ≡ true
  pub same : indexed d ≡ true
  pub leaves : LeafCells d
  pub under : (p : Point) → p.x ≤ 65535 → p.y ≤ 65535 → FoundUnder d p
