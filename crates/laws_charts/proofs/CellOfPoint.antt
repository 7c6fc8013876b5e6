-- The cell over a point, which may be fractional: the grid point above and left of it lies on the grid and in one cell of the table,
-- with the point, and a triangle that holds the point is listed in that cell.
-- Assumes nothing.
use mathlib.Core.Path.{◌≡◌, refl, subst}
use mathlib.Core.List.Memᴰ
use mathlib.Core.List.{List, [], ◌∷◌, Memᴰ}
use Prim.Native.Nat.{ℕ, ◌/◌, ◌<◌}
use native.Mathlib.Nat.{le_of_suc-le-suc, le-div_iff_mul-le, div-lt_iff_lt-mul}
use native.Mathlib.Omega.{arith}
use lib.Dec.{T}
use lib.ListN.{length}
use Rattle.theory_lists.specs.Lists.{up_to}
use Rattle.theory_lists.proofs.ListsLaws.{Some, get_or-member, up_to-from}
use Rattle.theory_lists.proofs.MemberLaws.{filter-from, flat_map-from}
use Rattle.theory_orthtree.specs.Entries.{range_end}
use Rattle.theory_orthtree.proofs.EntriesLaws.{InRange}
use Rattle.spec_plane.specs.declared.Point.{Point}
use Rattle.spec_plane.specs.Point.{FracPoint}
use Rattle.spec_plane.specs.Triangle.{Triangle, proper, holds_at}
use Rattle.spec_plane.specs.Box.{triangle_meets}
use Rattle.laws_separation.proofs.Radon.{Triple}
use Rattle.laws_separation.proofs.Cone.{◌•◌}
use Rattle.laws_separation.proofs.Sides.{fraction}
use Rattle.laws_separation.proofs.Weights.{Average}
use Rattle.laws_separation.proofs.Averages.{at-average}
use Rattle.laws_separation.proofs.Boxes.{InBox, in_box-iff, to_right, to_bottom}
use Rattle.laws_separation.proofs.Meets.{holds_at-meets}
use Rattle.spec_squares.specs.declared.Square.{Square}
use Rattle.spec_squares.specs.Square.{arity, depth, z_order, square_box}
use Rattle.spec_plane.proofs.ExtremeLaws.{OnGrid, CornersOnGrid}
use Rattle.spec_squares.proofs.ZOrderLaws.{InSquare, point-in-square}
use Rattle.spec_squares.proofs.SquareLeavesLaws.{leaf-of-point}
use Rattle.spec_charts.specs.Table.{Table, numbered, no_triangle, IsTable}
use Rattle.spec_charts.specs.Cells.{stopped, cells_in, cells, triangles_meeting, or_mark, entry_of, cell_entries, entries_of}
use Rattle.laws_charts.proofs.EntriesOfTable.{meeting-filter}
use Rattle.laws_charts.proofs.ChainOfTable.{cells-aligned}
use Rattle.laws_charts.proofs.GridLaws.{table-triangles}

-- the corners of a triangle are points of the grid where the table is one of document 01
pub corners-at : (table : Table) → IsTable table → (i : ℕ) → i < length table → CornersOnGrid (numbered table i)
unfolding numbered
corners-at table ok i h =
    let t = table-triangles ok _ (get_or-member table i no_triangle h) in record { a = t.a; b = t.b; c = t.c }

-- the grid point above and left of a fractional point
abbrev pub floor_of : Triple → Point
floor_of z = record { x = z.x / z.w; y = z.y / z.w }

pub floor-grid : (t : Triangle) → CornersOnGrid t → {p : FracPoint} (v : Average t p) → OnGrid (floor_of v.point)
unfolding ◌•◌
floor-grid t g v =
    let a = g.a in
    let b = g.b in
    let c = g.c in
    let r = at-average (to_right 65535) v (omega arith) (omega arith) (omega arith) in
    let d = at-average (to_bottom 65535) v (omega arith) (omega arith) (omega arith) in
    let w = v.above in
    record {
      x = le_of_suc-le-suc ((div-lt_iff_lt-mul w).1 (omega arith));
      y = le_of_suc-le-suc ((div-lt_iff_lt-mul w).1 (omega arith));
    }

-- a square that has it has the fractional point, the border included
pub floor-box : (z : Triple) → 0 < z.w → (q : Square) → InSquare q (floor_of z) → InBox (square_box q) (fraction z)
unfolding ◌•◌ square_box
floor-box z w q h =
    let a = (le-div_iff_mul-le {x = q.x} {y = z.x} w).0 h.across.starts in
    let b = (div-lt_iff_lt-mul {x = z.x} w).0 h.across.ends in
    let c = (le-div_iff_mul-le {x = q.y} {y = z.y} w).0 h.down.starts in
    let d = (div-lt_iff_lt-mul {x = z.y} w).0 h.down.ends in
    (in_box-iff (square_box q) z).1 (omega arith)

-- an item of a cell is listed in it
pub mark-member : {i : ℕ} (is : List ℕ) → Memᴰ i is → Memᴰ i (or_mark is)
unfolding or_mark
mark-member [] m = absurd (Memᴰ.not-nil m)
mark-member (j ∷ is) m = m

module _ (table : Table) (i : ℕ) (h : i < length table) where
  -- a cell that the triangle meets lists it
  pub cell-entry : (q : Square) → Memᴰ q (cells table) → T (triangle_meets (numbered table i) (square_box q)) → Memᴰ (entry_of q i) (entries_of table)
  unfolding entries_of cell_entries
  cell-entry q m t =
      let n = filter-from (λ k. triangle_meets (numbered table k) (square_box q)) (up_to (length table)) (up_to-from h) t in
      flat_map-from (λ s. cell_entries table s) (cells table) m
      (Memᴰ.map (entry_of q) (mark-member (triangles_meeting table q) (subst (λ is. Memᴰ i is) (meeting-filter table q) n)))

  module _ (good : T (proper (numbered table i))) (z : Triple) (w : 0 < z.w) (g : OnGrid (floor_of z)) (t : T (holds_at (numbered table i) (fraction z))) where
    -- the cell that has the grid point above and left of a point that the triangle holds lists the triangle
    pub held-cell : Some (λ q. InSquare q (floor_of z) × Memᴰ (entry_of q i) (entries_of table)) (cells table)
    unfolding cells cells_in
    held-cell =
        let c = leaf-of-point (λ q. stopped table q) (floor_of z) g in
        let q = c.value in
        record {
          value = q;
          member = c.member;
          has = (c.has, cell-entry q c.member (holds_at-meets (numbered table i) (square_box q) (fraction z) good w t (floor-box z w q c.has)));
        }

    -- an entry of the triangle whose cell has the key of that grid point
    pub held-listed : Some (λ e. (e.item ≡ i) × InRange arity depth (z_order (floor_of z)) e) (entries_of table)
    unfolding entry_of range_end
    held-listed =
        let c = held-cell in
        let q = c.value in
        let k = (point-in-square q (cells-aligned table q c.member) (floor_of z) g).0 c.has.0 in
        record { value = entry_of q i; member = c.has.1; has = (refl, record { starts = k.starts; ends = k.ends }) }
