-- Locating a point by the entries of a table: the first listed triangle that passes a test that only triangles pass that hold the
-- point is the first of the whole table.
-- The idea: the entries that cover the point's key are those of the cell that the point lies in, and a triangle that holds the
-- point meets that cell.
-- Assumes nothing.
use mathlib.Core.Path.{◌≡◌, refl, sym, ◌∙◌, ap}
use mathlib.Core.Bool.{Bool, true, not}
use mathlib.Core.List.{List, ◌∷◌, map, map-map, map-id, Memᴰ}
use Prim.Native.Nat.{ℕ, ◌≤◌}
use native.Mathlib.Omega.{arith}
use lib.Dec.{T, not_T}
use lib.ListN.{length}
use Rattle.theory_lists.specs.Lists.{filter, first, up_to}
use Rattle.theory_lists.proofs.Reflects.{test-true}
use Rattle.theory_lists.proofs.ListsLaws.{Every, up_to-to}
use Rattle.theory_lists.proofs.EveryLaws.{every_map}
use Rattle.theory_lists.proofs.FilterLaws.{filter-all}
use Rattle.theory_lists.proofs.FlatMapLaws.{first-narrow}
use Rattle.theory_lists.proofs.Order.{Rising, rising_none, rising-more, rising-members}
use Rattle.theory_orthtree.specs.Entries.{empty_mark, is_mark}
use Rattle.theory_orthtree.proofs.ChainLaws.{is_mark-reflects}
use Rattle.spec_plane.specs.declared.Point.{Point}
use Rattle.spec_plane.specs.Triangle.{proper, holds}
use Rattle.spec_plane.specs.Box.{triangle_meets}
use Rattle.laws_separation.proofs.Meets.{holds-meets}
use Rattle.spec_squares.specs.declared.Square.{Square}
use Rattle.spec_squares.specs.Square.{square_box}
use Rattle.spec_plane.proofs.ExtremeLaws.{OnGrid}
use Rattle.spec_squares.proofs.ZOrderLaws.{InSquare}
use Rattle.spec_squares.proofs.SquareLeavesLaws.{leaf-of-point, cell-of-point}
use Rattle.spec_charts.specs.Table.{Table, max_triangles, numbered}
use Rattle.spec_charts.specs.Cells.{stopped, cells_in, cells, triangles_meeting, or_mark, entry_of, cell_entries, entries_of}
use Rattle.spec_charts.specs.Reading.{cell_of, listing}
use Rattle.laws_charts.proofs.TableLaws.{numbered-proper}
use Rattle.laws_charts.proofs.EntriesOfTable.{meeting-filter}
use Rattle.laws_charts.proofs.ChainOfTable.{meeting-rising}

-- the items of a cell's entries, without the mark
unmarked : (s : Square) {n : ℕ} {is : List ℕ} → n ≤ max_triangles → Rising 0 n is
    → map (λ e. e.item) (filter (λ e. not (is_mark e)) (map (λ i. entry_of s i) (or_mark is))) ≡ is
unfolding or_mark entry_of is_mark empty_mark filter
unmarked s few rising_none = refl
unmarked s few (rising-more {i = i} {is = is} a b r) =
    let es = map (λ j. entry_of s j) (i ∷ is) in
    let h : Every (λ e. not (is_mark e) ≡ true) es =
    every_map (λ e. not (is_mark e) ≡ true) (λ j. entry_of s j) (i ∷ is) (λ j m.
    let k = rising-members (rising-more a b r) j m in
    test-true (not_T (is_mark (entry_of s j)) (λ t. let e = (is_mark-reflects (entry_of s j)).to t in omega arith)))
    in
    ap (map (λ e. e.item)) (filter-all (λ e. not (is_mark e)) es h) ∙ map-map (λ e. e.item) (λ j. entry_of s j) (i ∷ is) ∙ map-id (i ∷ is)

module _ (table : Table) (few : length table ≤ max_triangles) (p : Point) (g : OnGrid p) where
  -- the cell listing of a point is that of the triangles that meet the cell that the point lies in
  pub listing-cell : {s : Square} → Memᴰ s (cells table) → InSquare s p → listing (entries_of table) p ≡ triangles_meeting table s
  unfolding listing cell_of entries_of cells cells_in cell_entries entry_of
  listing-cell {s} m u =
      ap (λ es. map (λ e. e.item) (filter (λ e. not (is_mark e)) es))
      (cell-of-point (λ q. stopped table q) (λ q. or_mark (triangles_meeting table q)) p g m u)
      ∙ unmarked s few (meeting-rising table s)

  -- a triangle that holds a point of a square meets the square
  square-meets : (i : ℕ) (s : Square) → T (proper (numbered table i)) → InSquare s p → T (holds (numbered table i) p)
      → T (triangle_meets (numbered table i) (square_box s))
  unfolding square_box
  square-meets i s k u h =
      let a = u.across in
      let b = u.down in
      holds-meets (numbered table i) (square_box s) p k h (omega arith) (omega arith) (omega arith) (omega arith)

  module _ (good : Every (λ t. T (proper t)) table) where
    -- of the listed triangles, the first that passes a test that only triangles pass that hold the point is the first of the whole
    -- table
    pub first-of-table : (f : ℕ → Bool) → ((i : ℕ) → T (f i) → T (holds (numbered table i) p))
        → first f (listing (entries_of table) p) ≡ first f (up_to (length table))
    unfolding cells cells_in
    first-of-table f only =
        let c = leaf-of-point (λ q. stopped table q) p g in
        let s = c.value in
        ap (first f) (listing-cell c.member c.has ∙ sym (meeting-filter table s))
        ∙ first-narrow f (λ i. triangle_meets (numbered table i) (square_box s)) (up_to (length table))
        (λ i m h. square-meets i s (numbered-proper table good i (up_to-to m)) c.has (only i h))
