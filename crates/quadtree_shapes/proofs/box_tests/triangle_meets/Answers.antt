use mathlib.Core.Path.{sym, ◌∙◌, ap, ap₂}
use mathlib.Core.Bool.{◌&&◌}
use Prim.Native.Nat.{◌+◌, ◌*◌}
use lib.Dec.{leb}
use lib.ListN.{get_or}
use Rattle.quadtree_shapes.specs.Shape.{triangle_sides, shape_numbers, second_side, third_side, frame_box, largest_at, triangle_meets_at}
use Rattle.quadtree_shapes.proofs.box_tests.triangle_meets.Goals as goal

pub returns-then-touches : goal.returns-then-touches
unfolding triangle_meets_at
returns-then-touches c =
    let o = c.args.offsets.now in
    let i = c.args.i in
    ap₂ ◌&&◌
    (ap₂ ◌&&◌
    (ap₂ ◌&&◌ (sym c.if-touches.true ∙ c.touches.ensures) (ap (leb (get_or o (triangle_sides * i) 0)) c.largest_value.ensures))
    (ap (leb (get_or o (triangle_sides * i + 1) 0)) c.largest_value-then-touches.ensures))
    (ap (leb (get_or o (triangle_sides * i + 2) 0)) c.largest_value-then-touches-2.ensures)

pub returns : goal.returns
unfolding triangle_meets_at
returns c =
    let s = c.args.shape.now in
    let o = c.args.offsets.now in
    let i = c.args.i in
    let b = frame_box c.args.f in
    ap
    (λ t.
    t
    && leb (get_or o (triangle_sides * i) 0) (largest_at s (shape_numbers * i) b)
    && leb (get_or o (triangle_sides * i + 1) 0) (largest_at s (shape_numbers * i + second_side) b)
    && leb (get_or o (triangle_sides * i + 2) 0) (largest_at s (shape_numbers * i + third_side) b))
    (sym c.if-touches.false ∙ c.touches.ensures)
