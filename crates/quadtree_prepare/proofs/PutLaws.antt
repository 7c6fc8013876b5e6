-- What runs of stores leave: the numbers of a triangle, and of a table.
-- Assumes nothing.
use mathlib.Core.Path.{◌≡◌, refl, sym, ◌∙◌, ap}
use mathlib.Core.List.{List, [], ◌∷◌, ◌++◌, flat_map, append-nil}
use Prim.Native.Nat.{ℕ, ◌+◌, ◌*◌, ◌≤◌}
use native.Mathlib.Numerals.{add-one, add-two}
use native.Mathlib.Omega.{arith}
use lib.ListN.{length, set}
use lib.Seq.{sets}
use Rattle.theory_lists.specs.Lists.{count_from, up_to}
use Rattle.theory_lists.proofs.ListsLaws.{sets-join, sets-length}
use Rattle.theory_lists.proofs.FlatMapLaws.{flat_map-append, flat_map-length}
use Rattle.spec_plane.specs.Triangle.{Triangle}
use Rattle.spec_plane.specs.Box.{triangle_box}
use Rattle.spec_charts.specs.Table.{Table, triangle_at, table_of}
use Rattle.laws_charts.proofs.TableLaws.{table_of-length, table_of-suc}
use Rattle.quadtree_shapes.specs.Shape.{triangle_sides, triangle_corners, shape_numbers, second_side, third_side, whole_box, box_shape, line_shape, side_shape, shape_of, offsets_of, corners_of}
use Rattle.quadtree_shapes.proofs.ShapeLaws.{shape-length, offsets-length, corners-length}
use Rattle.quadtree_prepare.specs.Prepare.{ShapeRoom, StoredShape, StoredShapes}

-- three sides and a box, each stored where the one before it ends
pub put-shape : (l s₁ s₂ s₃ s₄ : List ℕ) (k : ℕ) (t : Triangle)
    → s₁ ≡ sets l k (side_shape t.a t.b)
    → s₂ ≡ sets s₁ (k + second_side) (side_shape t.b t.c)
    → s₃ ≡ sets s₂ (k + third_side) (side_shape t.c t.a)
    → s₄ ≡ sets s₃ (k + whole_box) (box_shape (triangle_box t))
    → s₄ ≡ sets l k (shape_of t)
unfolding shape_of side_shape line_shape
put-shape l s₁ s₂ s₃ s₄ k t e₁ e₂ e₃ e₄ =
    let ab = side_shape t.a t.b in
    let bc = side_shape t.b t.c in
    let ca = side_shape t.c t.a in
    let box = box_shape (triangle_box t) in
    e₄ ∙ ap (λ s. sets s (k + whole_box) box) e₃ ∙ sets-join s₂ (k + third_side) (k + whole_box) ca box (omega arith)
    ∙ ap (λ s. sets s (k + third_side) (ca ++ box)) e₂ ∙ sets-join s₁ (k + second_side) (k + third_side) bc (ca ++ box) (omega arith)
    ∙ ap (λ s. sets s (k + second_side) (bc ++ (ca ++ box))) e₁ ∙ sets-join l k (k + second_side) ab (bc ++ (ca ++ box)) (omega arith)

-- three numbers, one after another
pub put_three : (l : List ℕ) (k : ℕ) {u v w x y z : ℕ} → u ≡ x → v ≡ y → w ≡ z
    → set (set (set l k u) (k + 1) v) (k + 2) w ≡ sets l k (x ∷ y ∷ z ∷ [])
put_three l k e f g = cc (add-one k, add-two k)

-- ---- a table's numbers, one triangle after another

table_of-empty : (ns : List ℕ) → table_of ns 0 ≡ []
unfolding table_of up_to count_from
table_of-empty ns = refl

module _ (f : Triangle → List ℕ) (c : ℕ) (size : (t : Triangle) → length (f t) ≡ c) where
  -- storing the numbers of triangle i after those of the triangles before it
  pub stored_next : (l l' l'' ns : List ℕ) (i : ℕ)
      → l' ≡ sets l 0 (flat_map f (table_of ns i))
      → l'' ≡ sets l' (c * i) (f (triangle_at ns i))
      → l'' ≡ sets l 0 (flat_map f (table_of ns (i + 1)))
  unfolding flat_map
  stored_next l l' l'' ns i e g =
      g
      ∙ ap (λ s. sets s (c * i) (f (triangle_at ns i))) e
      ∙ sets-join l 0 (c * i) (flat_map f (table_of ns i)) (f (triangle_at ns i)) (rw (flat_map-length f c size, table_of-length) (omega arith))
      ∙ ap (sets l 0) (sym (flat_map-append f (table_of ns i) (triangle_at ns i ∷ []) ∙ ap (λ r. flat_map f (table_of ns i) ++ r) (append-nil (f (triangle_at ns i)))) ∙ ap (flat_map f) (sym (table_of-suc ns i) ∙ ap (table_of ns) (sym (add-one i))))

  -- before the first triangle nothing is stored
  pub stored-none : (l ns : List ℕ) → l ≡ sets l 0 (flat_map f (table_of ns 0))
  unfolding flat_map
  stored-none l ns = rw (table_of-empty ns) refl

-- before the first triangle
pub shapes-none : (ns shape offsets corners : List ℕ) → StoredShapes (table_of ns 0) shape offsets corners shape offsets corners
shapes-none ns shape offsets corners = record {
  shapes = stored-none (λ t. shape_of t) shape_numbers shape-length shape ns;
  offs = stored-none (λ t. offsets_of t) triangle_sides offsets-length offsets ns;
  points = stored-none (λ t. corners_of t) triangle_corners corners-length corners ns;
}

module _ {shape₀ offsets₀ corners₀ shape offsets corners : List ℕ} where
  -- one triangle more
  pub shapes-next : (ns : List ℕ) (i : ℕ) → StoredShapes (table_of ns i) shape₀ offsets₀ corners₀ shape offsets corners
      → {shape' offsets' corners' : List ℕ} → StoredShape (triangle_at ns i) i shape offsets corners shape' offsets' corners'
      → StoredShapes (table_of ns (i + 1)) shape₀ offsets₀ corners₀ shape' offsets' corners'
  shapes-next ns i s t = record {
    shapes = stored_next (λ t. shape_of t) shape_numbers shape-length shape₀ _ _ ns i s.shapes t.shapes;
    offs = stored_next (λ t. offsets_of t) triangle_sides offsets-length offsets₀ _ _ ns i s.offs t.offs;
    points = stored_next (λ t. corners_of t) triangle_corners corners-length corners₀ _ _ ns i s.points t.points;
  }

  -- there is room as before
  pub shapes_room : (m n : ℕ) → m ≤ n → {table : Table} → StoredShapes table shape₀ offsets₀ corners₀ shape offsets corners
      → ShapeRoom n shape₀ offsets₀ corners₀ → ShapeRoom m shape offsets corners
  shapes_room m n h {table} s r = record {
    shapes = omega (arith, r.shapes, sets-length shape₀ 0 (flat_map (λ t. shape_of t) table) s.shapes);
    offs = omega (arith, r.offs, sets-length offsets₀ 0 (flat_map (λ t. offsets_of t) table) s.offs);
    points = omega (arith, r.points, sets-length corners₀ 0 (flat_map (λ t. corners_of t) table) s.points);
  }
