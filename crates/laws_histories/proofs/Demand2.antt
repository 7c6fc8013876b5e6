-- Demand 2, one claim about every accepted load or edit of any chart.
-- Assumes nothing.
use mathlib.Core.Path.{◌≡◌, sym, ◌∙◌, ap}
use Prim.Native.Nat.{◌≤◌}
use Rattle.spec_plane.specs.declared.Point.{Point}
use Rattle.spec_charts.specs.Table.{numbered}
use Rattle.spec_charts.specs.Refusals.{done}
use Rattle.spec_charts.specs.Reading.{found_position}
use Rattle.spec_charts.specs.Edits.{Event}
use Rattle.laws_separation.proofs.PositionMeaning.{position-means}
use Rattle.laws_charts.proofs.TableLaws.{numbered-proper}
use Rattle.spec_calls.specs.Buffers.{Chart, chart_table, indexed_chart}
use Rattle.spec_calls.specs.History.{event_call}
use Rattle.laws_calls.proofs.BufferLaws.{ruled}
use Rattle.laws_calls.proofs.IndexedLaws.{Editable, indexed-table}
use Rattle.laws_calls.proofs.ReaderLaws.{located-done}
use Rattle.laws_calls.proofs.LocateLaws.{entries-indexed, locate-position, locate-lowest}
use Rattle.laws_calls.proofs.AcceptedLaws.{event-accepted, event-indexed}
use Rattle.laws_histories.specs.LeafCells.{FoundUnder, AcceptedLeaves}
use Rattle.laws_histories.proofs.LeafCellsLaws.{table-leaves, first_found, first-nowhere}

-- the triangle under a point of the grid, on a chart that passes refusals 1, 2 and 3
found-under : (d : Chart) → Editable d → (p : Point) → p.x ≤ 65535 → p.y ≤ 65535 → FoundUnder d p
unfolding found_position
found-under d g p x y =
    let e = locate-lowest d p g.chained g.long (record { x = x; y = y }) g.same in
    let good = (ruled d g.chained).good in
    record {
      number = sym (ap (λ l. l.number) (located-done d g.long g.chained p));
      found = λ i. rw e (first_found (chart_table d) p i);
      nowhere = rw e (first-nowhere (chart_table d) p);
      position = λ i f q.
          let below = ((first_found (chart_table d) p i).0 (sym e ∙ f)).below in
          rw (locate-position d p ∙ ap (found_position (chart_table d) p) f)
          (position-means (numbered (chart_table d) i) p (numbered-proper (chart_table d) good i below) q);
      outside = λ f. locate-position d p ∙ ap (found_position (chart_table d) p) f;
    }

-- "After every accepted load or edit, the filed chart is the leaf cells of the published star-quadtree rule on our grid, in Z-order, each
-- with all the triangles that meet it and no other. The triangle found under a point is the one document 01 names." The chart, its lists
-- and its counts are any, and so are the event's numbers; the point is one of the grid
pub demand-2 : (e : Event) (c : Chart) → (event_call e c).number ≡ 0 → AcceptedLeaves e c (event_call e c).chart
demand-2 e c z =
    let a = event-accepted e c z in
    let g = event-indexed e c z in
    let d = (event_call e c).chart in
    let t : chart_table d ≡ a.table = ap chart_table a.is ∙ indexed-table c a.table in
    record {
      made = a.made ∙ ap done (sym t);
      is = a.is ∙ ap (indexed_chart c) (sym t);
      long = g.long;
      chained = g.chained;
      same = g.same;
      leaves = table-leaves d (entries-indexed d g.same);
      under = found-under d g;
    }
