-- What lies in a window: the test of each triangle by common points, which may be fractional, and that the window of a table with its
-- own entries is that of the whole table.
-- The idea: a point that a triangle and the window have in common lies, with the grid point above and left of it, in one cell of the
-- table. The cell lists the triangle, which meets it, and its closed square has the point.
-- Assumes nothing.
use mathlib.Core.Path.{◌≡◌, refl, ◌∙◌, subst}
use mathlib.Core.Bool.{Bool, ◌&&◌, and-true}
use mathlib.Core.List.{List, Memᴰ}
use mathlib.Core.Logic.{◌↔◌}
use Prim.Native.Nat.{ℕ, ◌≤◌, ◌<◌}
use native.Mathlib.Nat.{le_of_suc-le-suc, mul-le-mul_left, div-lt_iff_lt-mul}
use native.Mathlib.Omega.{arith}
use lib.Dec.{T, eqb}
use lib.ListN.{length}
use Rattle.theory_lists.specs.Lists.{filter, up_to}
use Rattle.theory_lists.proofs.Reflects.{Reflects, reflects-and, reflects-eqb, reflects-iff, reflects-true}
use Rattle.theory_lists.proofs.ListsLaws.{Every, any-reflects, up_to-to, up_to-from}
use Rattle.theory_lists.proofs.MemberLaws.{filter-to, filter-from}
use Rattle.theory_lists.proofs.FilterLaws.{filter-length, filter-agree}
use Rattle.theory_lists.proofs.IndexLaws.{up_to-length}
use Rattle.theory_lists.proofs.TestLaws.{and_then}
use Rattle.theory_lists.proofs.Order.{Rising, ordered-imp, ordered-filter, ordered-rising}
use Rattle.theory_lists.proofs.OrderLaws.{up_to-ordered}
use Rattle.theory_orthtree.specs.Entries.{Entry}
use Rattle.spec_plane.specs.Triangle.{Triangle, proper, holds_at}
use Rattle.spec_plane.specs.Box.{Box, triangle_meets}
use Rattle.spec_plane.proofs.ExtremeLaws.{OnGrid}
use Rattle.laws_separation.proofs.Radon.{Triple}
use Rattle.laws_separation.proofs.Cone.{◌•◌}
use Rattle.laws_separation.proofs.Sides.{fraction}
use Rattle.laws_separation.proofs.Boxes.{InBox, in_box-iff, triple_of, in_box-fraction, NotEmpty}
use Rattle.laws_separation.proofs.BoxesMeet.{BoxesMeet, boxes-touch}
use Rattle.laws_separation.proofs.Meets.{CommonPoint, triangle-meets-iff}
use Rattle.spec_squares.specs.Square.{square_box}
use Rattle.spec_squares.proofs.KeySquareLaws.{square-of-key}
use Rattle.spec_charts.specs.Table.{Table, numbered}
use Rattle.spec_charts.specs.Cells.{entry_of, entries_of}
use Rattle.spec_window.specs.Window.{entry_square, cell_touches, listed_near, window_of}
use Rattle.laws_charts.proofs.TableLaws.{numbered-proper}
use Rattle.laws_charts.proofs.EntriesOfTable.{square-not-empty}
use Rattle.laws_charts.proofs.ChainOfTable.{cells-aligned}
use Rattle.laws_charts.proofs.CellOfPoint.{floor_of, floor-box, held-cell}

-- triangle i is "listed in a cell whose closed square shares a point with the rectangle"
pub record ListedNear (es : List Entry) (w : Box) (i : ℕ) : Type 0 where
  pub entry : Entry
  pub listed : Memᴰ entry es
  pub item : entry.item ≡ i
  pub shares : BoxesMeet (square_box (entry_square entry)) w

-- the numbers below n that pass a test, where the test decides a claim
kept-iff : {f : ℕ → Bool} {P : ℕ → Type 0} (n : ℕ) → ((i : ℕ) → i < n → Reflects (f i) (P i))
    → (i : ℕ) → Memᴰ i (filter f (up_to n)) ↔ ((i < n) × P i)
kept-iff {f} n r i = (
  (λ m. let h = filter-to f (up_to n) m in let l = up_to-to h.0 in (l, (r i l).to h.1)),
  λ h. filter-from f (up_to n) (up_to-from h.0) ((r i h.0).from h.1),
)

module _ (table : Table) (es : List Entry) (w : Box) where
  -- triangle i is listed
  abbrev test : ℕ → Bool
  test i = triangle_meets (numbered table i) w && listed_near es w i

  -- "ascending, each once", whatever the table, the entries and the window are
  pub window-rising : Rising 0 (length table) (window_of table es w)
  unfolding window_of
  window-rising =
      ordered-rising (ordered-imp (λ i j h. h.0) (ordered-filter test (up_to-ordered (length table))))
      (λ i m. (omega arith, up_to-to (filter-to test (up_to (length table)) m).0))

  -- so no more than the table has
  pub window-few : length (window_of table es w) ≤ length table
  unfolding window_of
  window-few = omega (arith, filter-length test (up_to (length table)), up_to-length (length table))

module _ (w : Box) (full : NotEmpty w) where
  meets-reflects : (t : Triangle) → T (proper t) → Reflects (triangle_meets t w) (CommonPoint t w)
  meets-reflects t d = let e = triangle-meets-iff t w d full in record { to = e.1; from = e.0 }

  -- the test `listed_near` decides that the triangle is listed near the window
  pub near-reflects : (es : List Entry) (i : ℕ) → Reflects (listed_near es w i) (ListedNear es w i)
  unfolding listed_near cell_touches
  near-reflects es i =
      reflects-iff
      (λ s. record { entry = s.value; listed = s.member; item = s.has.0; shares = s.has.1 })
      (λ l. record { value = l.entry; member = l.listed; has = (l.item, l.shares) })
      (any-reflects (λ e. eqb e.item i && cell_touches w e) (λ e.
      reflects-and (reflects-eqb e.item i) (boxes-touch (square_box (entry_square e)) w (square-not-empty (entry_square e)) full)) es)

  module _ (table : Table) (good : Every (λ t. T (proper t)) table) where
    -- "For a chart that passes check 2 and is not filed, only triangles listed in a cell whose closed square shares a point with the
    -- rectangle count"; "every triangle of a chart that has a point in common with that closed rectangle, and no other"
    pub window-listed : (es : List Entry) (i : ℕ)
        → Memᴰ i (window_of table es w) ↔ ((i < length table) × (CommonPoint (numbered table i) w × ListedNear es w i))
    unfolding window_of
    window-listed es i =
        kept-iff (length table) (λ j l. reflects-and (meets-reflects (numbered table j) (numbered-proper table good j l)) (near-reflects es j)) i

    -- "left, top, right and bottom, 16-bit numbers"
    module _ (grid : OnGrid (record { x = w.right; y = w.bottom })) where
      -- the grid point above and left of a point of the window
      floor-window : (z : Triple) → 0 < z.w → InBox w (fraction z) → OnGrid (floor_of z)
      unfolding ◌•◌
      floor-window z above h =
          let r = (in_box-iff w z).0 h in
          record {
            x = le_of_suc-le-suc ((div-lt_iff_lt-mul above).1 (omega (arith, mul-le-mul_left z.w grid.x)));
            y = le_of_suc-le-suc ((div-lt_iff_lt-mul above).1 (omega (arith, mul-le-mul_left z.w grid.y)));
          }

      -- a triangle that has a point in common with the window is listed in a cell that has that point
      common-near : (i : ℕ) → i < length table → CommonPoint (numbered table i) w → ListedNear (entries_of table) w i
      unfolding entry_square entry_of
      common-near i l c =
          let z = triple_of c.point in
          let is = in_box-fraction c.in_box in
          let inside = subst (InBox w) is c.in_box in
          let held = subst (λ p. T (holds_at (numbered table i) p)) is c.held in
          let q = held-cell table i l (numbered-proper table good i l) z c.above (floor-window z c.above inside) held in
          record {
            entry = entry_of q.value i;
            listed = q.has.1;
            item = refl;
            shares = record {
              point = fraction z;
              above = c.above;
              first = rw (square-of-key q.value (cells-aligned table q.value q.member)) (floor-box z c.above q.value q.has.0);
              second = inside;
            };
          }

      -- "For a filed chart, the list is that of the whole table, not only of the cells visited"
      pub window-of-table : window_of table (entries_of table) w ≡ filter (λ i. triangle_meets (numbered table i) w) (up_to (length table))
      unfolding window_of
      window-of-table =
          filter-agree (test table (entries_of table) w) (λ i. triangle_meets (numbered table i) w) (up_to (length table))
          (λ i m.
          let l = up_to-to m in
          let t = triangle_meets (numbered table i) w in
          let r = meets-reflects (numbered table i) (numbered-proper table good i l) in
          and_then t (λ e. reflects-true (near-reflects (entries_of table) i) (common-near i l (r.to (rw e tt)))) ∙ and-true t)

      -- "list every triangle of a chart that has a point in common with that closed rectangle, and no other", where "The common point may
      -- be fractional"
      pub window-meaning : (i : ℕ)
          → Memᴰ i (window_of table (entries_of table) w) ↔ ((i < length table) × CommonPoint (numbered table i) w)
      window-meaning i =
          let e = window-listed (entries_of table) i in (
            (λ m. let h = e.0 m in (h.0, h.1.0)),
            λ h. e.1 (h.0, (h.1, common-near i h.0 h.1)),
          )
