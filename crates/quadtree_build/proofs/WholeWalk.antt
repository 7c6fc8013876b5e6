-- The whole square: all triangles of the table are its candidates, once their numbers stand on the stack.
-- Assumes nothing.
use mathlib.Core.Path.{◌≡◌, refl, sym, ◌∙◌, ap}
use mathlib.Core.Bool.{true}
use mathlib.Core.List.{List}
use Prim.Native.Nat.{ℕ, ◌+◌, ◌*◌, ◌-◌, ◌≤◌, ◌<◌}
use native.Mathlib.Nat.{zero-add}
use native.Mathlib.Omega.{arith}
use lib.ListN.{length, get_or, take}
use lib.Seq.{sets}
use Rattle.theory_lists.specs.Lists.{all, filter, up_to, part}
use Rattle.theory_lists.proofs.ListsLaws.{up_to-to}
use Rattle.theory_lists.proofs.IndexLaws.{up_to-length}
use Rattle.theory_lists.proofs.FlatMapLaws.{flat_map-length, places-filter}
use Rattle.theory_lists.proofs.StoredLaws.{take-stored}
use Rattle.theory_orthtree.specs.Morton.{lowest_bits, morton_key}
use Rattle.spec_plane.specs.Box.{triangle_meets}
use Rattle.spec_plane.specs.Triangle.{proper}
use Rattle.spec_squares.specs.declared.Square.{Square}
use Rattle.spec_squares.specs.Square.{whole_square, square_box, square_key, z_order}
use Rattle.spec_charts.specs.Table.{table_of, numbered, numbers_per_triangle}
use Rattle.spec_charts.specs.Cells.{triangles_meeting}
use Rattle.laws_charts.proofs.TableLaws.{table_of-length}
use Rattle.quadtree_shapes.specs.Shape.{triangle_sides, shape_numbers, shape_of, offsets_of}
use Rattle.quadtree_shapes.proofs.ShapeLaws.{shape-length, offsets-length}
use Rattle.quadtree_prepare.specs.Prepare.{ShapeRoom, StoredShapes}
use Rattle.quadtree_cells.specs.Stack.{Ready, Prepared}
use Rattle.quadtree_cells.proofs.ReadyLaws.{ready-stored}
use Rattle.quadtree_build.specs.Build.{Candidates}

-- a part from the start on
part-whole : (n : ℕ) (l : List ℕ) → part 0 n l ≡ take n l
part-whole n l =
    let e : n - 0 ≡ n = omega arith in
    ap (λ m. take m l) e

-- they are ready as candidates
pub whole_ready : (n : ℕ) (l : List ℕ) {table shape offsets l' : List ℕ} → numbers_per_triangle * n ≤ length table → shape_numbers * n ≤ length shape → triangle_sides * n ≤ length offsets
    → n ≤ length l → l' ≡ sets l 0 (up_to n) → Ready n 0 n table shape offsets l'
whole_ready n l {table} {shape} {offsets} t s o h el =
    let e : 0 + length (up_to n) ≡ n = zero-add (length (up_to n)) ∙ up_to-length n in
    rw el (rw e at (ready-stored {n = n} {f = 0} {t = 0} {table = table} {shape = shape} {offsets = offsets} {l = l} (up_to n)
    (record { order = omega arith; within = omega arith; held = λ k a b. absurd (omega arith); tables = t; shapes = s; offs = o })
    (omega arith) (λ i m. up_to-to m)))

-- and among them are those that meet the square
pub whole-candidates : (n : ℕ) (ns l : List ℕ) {l' : List ℕ} {s : Square} → n ≤ length l → l' ≡ sets l 0 (up_to n) → s ≡ whole_square → Candidates n 0 n ns l' s
unfolding triangles_meeting numbered
whole-candidates n ns l h el es = rw (el, es) (record {
  few = omega arith;
  among =
      ap (filter (λ i. triangle_meets (numbered (table_of ns n) i) (square_box whole_square))) (part-whole n (sets l 0 (up_to n)) ∙ take-stored l (up_to n) n (up_to-length n) h)
      ∙ ap (λ m. filter (λ i. triangle_meets (numbered (table_of ns n) i) (square_box whole_square)) (up_to m)) (sym (table_of-length ns n))
      ∙ places-filter _ (λ t. triangle_meets t (square_box whole_square)) (table_of ns n);
})

-- its key
pub whole-key : 0 ≡ square_key whole_square
unfolding whole_square square_key z_order morton_key lowest_bits
whole-key = refl

-- the numbers of its triangles are kept
pub whole-prepared : (n : ℕ) (ns : List ℕ) {sh o cs sh' o' cs' : List ℕ} → ShapeRoom n sh o cs → StoredShapes (table_of ns n) sh o cs sh' o' cs'
    → ((k : ℕ) → get_or ns k 0 < 65536) → all (λ t. proper t) (table_of ns n) ≡ true → Prepared n ns sh' o'
whole-prepared n ns {sh} {o} room s small good =
    let e = table_of-length ns n in
    record {
      small = small;
      good = rw good tt;
      shaped = record {
        shapes = rw s.shapes (take-stored sh _ (shape_numbers * length (table_of ns n)) (flat_map-length (λ t. shape_of t) shape_numbers shape-length (table_of ns n)) (rw e room.shapes));
        offs = rw s.offs (take-stored o _ (triangle_sides * length (table_of ns n)) (flat_map-length (λ t. offsets_of t) triangle_sides offsets-length (table_of ns n)) (rw e room.offs));
      };
    }
