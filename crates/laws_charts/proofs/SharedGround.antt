-- The overlay of the entries of two tables lists exactly the pairs of triangles that have a common interior point.
-- The idea: a point strictly inside both triangles lies, with the grid point above and left of it, in one cell of each table. Both cells
-- list their triangle, as it meets the cell, and both have the key of that grid point.
-- Assumes nothing.
use mathlib.Core.Path.{subst}
use mathlib.Core.List.{Memᴰ}
use mathlib.Core.Logic.{◌↔◌}
use Prim.Native.Nat.{ℕ}
use lib.Dec.{T}
use Rattle.theory_orthtree.proofs.TogetherLaws.{ListedTogether}
use Rattle.spec_plane.specs.Triangle.{holds_at}
use Rattle.laws_separation.proofs.Weights.{weights, inside-held}
use Rattle.spec_squares.specs.Square.{arity, depth, z_order}
use Rattle.spec_charts.specs.Table.{Table, numbered, IsTable}
use Rattle.spec_charts.specs.Cells.{entries_of}
use Rattle.spec_charts.specs.Overlay.{pairs_listed, pair, SharesGround}
use Rattle.laws_charts.proofs.TableLaws.{numbered-proper}
use Rattle.laws_charts.proofs.GridLaws.{table-proper}
use Rattle.laws_charts.proofs.CellOfPoint.{corners-at, floor_of, floor-grid, held-listed}
use Rattle.laws_charts.proofs.OverlayLaws.{pairs-listed-iff}

module _ (s t : Table) (sok : IsTable s) (tok : IsTable t) where
  -- triangles with a common interior point are listed in overlapping cells
  pub ground-listed : {i j : ℕ} → SharesGround s t i j → ListedTogether arity depth (entries_of s) (entries_of t) i j
  ground-listed {i} {j} h =
      let p = h.common.point in
      let good = numbered-proper s (table-proper sok) i h.first in
      let fine = numbered-proper t (table-proper tok) j h.second in
      let held = inside-held (numbered s i) p h.common.first in
      let v = weights (numbered s i) p good h.common.above held in
      let z = v.point in
      let g = floor-grid (numbered s i) (corners-at s sok i h.first) v in
      let e = held-listed s i h.first good z v.above g (subst (λ q. T (holds_at (numbered s i) q)) v.is held) in
      let f = held-listed t j h.second fine z v.above g
      (subst (λ q. T (holds_at (numbered t j) q)) v.is (inside-held (numbered t j) p h.common.second)) in
      record {
        first = e.value;
        second = f.value;
        first_listed = e.member;
        second_listed = f.member;
        first_item = e.has.0;
        second_item = f.has.0;
        common = record { key = z_order (floor_of z); first = e.has.1; second = f.has.1 };
      }

  -- the overlay of two tables with their entries lists a pair exactly when it has a common interior point
  pub pairs-of-tables : (i j : ℕ) → Memᴰ (pair i j) (pairs_listed s (entries_of s) t (entries_of t)) ↔ SharesGround s t i j
  pairs-of-tables i j =
      let e = pairs-listed-iff s (entries_of s) t (entries_of t) (table-proper sok) (table-proper tok) i j in (
        λ m. let h = e.0 m in record { first = h.first; second = h.second; common = h.common },
        λ h. e.1 (record { first = h.first; second = h.second; listed = ground-listed h; common = h.common }),
      )
