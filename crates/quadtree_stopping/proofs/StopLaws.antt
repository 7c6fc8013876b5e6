-- The stopping test in code is the definition's: the sides that it reads from the masks of the candidates are the sides of the
-- table that meet the square.
-- The idea: a mask of tests has the sides that pass, and a triangle with a side that meets the square is a candidate.
-- Assumes nothing.
use mathlib.Core.Path.{◌≡◌, refl, sym, ◌∙◌, ap}
use mathlib.Core.Bool.{Bool, true, ◌||◌}
use mathlib.Core.List.{List, flat_map, Memᴰ}
use Prim.Native.Nat.{ℕ, ◌+◌, ◌*◌, ◌<◌}
use native.Mathlib.Nat.{le_of_suc-le-suc}
use borrow.Author.Tests.{eq-eqb, ne_eqb}
use lib.Dec.{T}
use lib.ListN.{length, get_or}
use Rattle.theory_lists.specs.Lists.{filter, up_to}
use Rattle.theory_lists.specs.Masks.{mask_of, masked}
use Rattle.theory_lists.proofs.Reflects.{reflects-test}
use Rattle.theory_lists.proofs.ListsLaws.{Every, all-reflects}
use Rattle.theory_lists.proofs.Order.{rising-members}
use Rattle.theory_lists.proofs.EditedLists.{places-pass}
use Rattle.theory_lists.proofs.EveryLaws.{every_map, flat_map-agree}
use Rattle.theory_lists.proofs.MaskLaws.{masked-filter}
use Rattle.spec_plane.specs.Triangle.{Triangle, Side, sides, proper}
use Rattle.spec_plane.specs.Box.{Box, Framed, side_meets, triangle_meets}
use Rattle.spec_plane.proofs.ExtremeLaws.{OnGrid, CornersOnGrid}
use Rattle.spec_charts.specs.Table.{Table, point_at, triangle_at, table_of, numbered, no_triangle, numbers_per_triangle}
use Rattle.spec_squares.specs.declared.Square.{Square}
use Rattle.spec_squares.specs.Square.{square_box, Aligned}
use Rattle.spec_squares.proofs.SquareLaws.{square_box-framed}
use Rattle.spec_charts.specs.Cells.{sides_meeting, common_end, stopped, triangles_meeting}
use Rattle.laws_charts.proofs.EntriesOfTable.{sides-narrow}
use Rattle.laws_charts.proofs.ChainOfTable.{meeting-rising}
use Rattle.laws_charts.proofs.TableLaws.{numbered-at, table_of-length}
use Rattle.quadtree_shapes.proofs.ShapeLaws.{sides-meet}
use Rattle.quadtree_stopping.specs.Stopping.{sides_at}
use Rattle.quadtree_cells.specs.Stack.{Prepared}

-- ---- the triangles of a table

-- the corners of its triangles are grid points
pub corners-small : (ns : List ℕ) (n : ℕ) → ((k : ℕ) → get_or ns k 0 < 65536) → (t : Triangle) → Memᴰ t (table_of ns n) → CornersOnGrid t
unfolding table_of triangle_at point_at
corners-small ns n small =
    let on : (k : ℕ) → OnGrid (point_at ns k) = λ k. record { x = le_of_suc-le-suc (small k); y = le_of_suc-le-suc (small (k + 1)) } in
    every_map (λ t. CornersOnGrid t) (λ i. triangle_at ns i) (up_to n)
    (λ i m. record { a = on (numbers_per_triangle * i); b = on (numbers_per_triangle * i + 2); c = on (numbers_per_triangle * i + 4) })

module _ (n : ℕ) (ns s o : List ℕ) (h : Prepared n ns s o) (b : Box) (f : Framed b) where
  -- the sides of triangle i that meet the box, where the triangle does
  sides-at : (i : ℕ) → i < n → T (triangle_meets (numbered (table_of ns n) i) b)
      → sides_at ns s o b i ≡ filter (λ d. side_meets d b) (sides (numbered (table_of ns n) i))
  unfolding sides_at triangle_at
  sides-at i l t =
      let table = table_of ns n in
      let k : i < length table = rw (table_of-length ns n) l in
      let g = corners-small ns n h.small in
      let at = numbered-at ns n i l in
      let m : Side → Bool = λ d. side_meets d b in
      ap (λ bs. masked (mask_of bs) (sides (triangle_at ns i))) (rw at at (sides-meet table s o h.shaped i k g b f t))
      ∙ masked-filter m (sides (triangle_at ns i))
      ∙ ap (λ t. filter m (sides t)) (sym at)

  -- the sides of these triangles
  pub sides_all : (is : List ℕ) → Every (λ i. i < n) is → Every (λ i. T (triangle_meets (numbered (table_of ns n) i) b)) is
      → flat_map (λ i. sides_at ns s o b i) is ≡ flat_map (λ i. filter (λ d. side_meets d b) (sides (numbered (table_of ns n) i))) is
  sides_all is v w = flat_map-agree _ _ is (λ i m. sides-at i (v i m) (w i m))

-- ---- squares

-- the triangles that meet a square are of the table
pub meeting-below : (table : Table) (s : Square) → Every (λ i. i < length table) (triangles_meeting table s)
meeting-below table s i m = (rising-members (meeting-rising table s) i m).1

-- the triangles that meet a square do
meeting-meets : (table : Table) (s : Square) → Every (λ i. T (triangle_meets (numbered table i) (square_box s))) (triangles_meeting table s)
unfolding triangles_meeting numbered
meeting-meets table s = places-pass (λ t. triangle_meets t (square_box s)) no_triangle table

module _ (n : ℕ) (ns sh o : List ℕ) (h : Prepared n ns sh o) (s : Square) where
  -- the triangles of the table have D > 0
  pub good : Every (λ t. T (proper t)) (table_of ns n)
  good = (all-reflects (λ t. proper t) (λ t. reflects-test (proper t)) (table_of ns n)).to h.good

  pub stopped-deep : s.level ≡ 16 → true ≡ stopped (table_of ns n) s
  unfolding stopped
  stopped-deep e = rw (eq-eqb s.level 16 e) refl

  pub stopped-sides : (s.level ≡ 16 → ⊥) → Aligned s → (is : List ℕ) → is ≡ triangles_meeting (table_of ns n) s
      → common_end (flat_map (λ i. sides_at ns sh o (square_box s) i) is) ≡ stopped (table_of ns n) s
  unfolding stopped
  stopped-sides d p is e =
      let table = table_of ns n in
      let below : Every (λ i. i < n) is = λ i m. rw (table_of-length ns n) at (meeting-below table s i (rw e at m)) in
      let met : Every (λ i. T (triangle_meets (numbered table i) (square_box s))) is = λ i m. meeting-meets table s i (rw e at m) in
      ap common_end (sides_all n ns sh o h (square_box s) (square_box-framed s p) is below met)
      ∙ ap (λ x. common_end (flat_map (λ i. filter (λ d. side_meets d (square_box s)) (sides (numbered table i))) x)) e
      ∙ ap common_end (sym (sides-narrow table good s))
      ∙ sym (ap (λ b. b || common_end (sides_meeting table s)) (ne_eqb s.level 16 d))
