-- Of the candidates before place k no side meets the frame.
use Rattle.std.proofs.Common.{refl, ◌∙◌, ap}
use mathlib.Core.List.{flat_map}
use Rattle.theory_lists.specs.Masks.{mask_of}
use Rattle.quadtree_shapes.specs.Shape.{coordinates, frame_box}
use Rattle.quadtree_shapes.specs.Masks.{sides_met}
use Rattle.quadtree_stopping.specs.Stopping.{sides_at}
use Rattle.quadtree_stopping.proofs.EndLaws.{none-next, sides-absent}
use Rattle.quadtree_stopping.proofs.Shapes.first_met.Goals as goal

pub loop-k-init : goal.loop-k-init
unfolding flat_map
loop-k-init c = refl

pub loop-k-preserved : goal.loop-k-preserved
loop-k-preserved c =
    let v = c.args.self in
    let b = frame_box c.args.f in
    let table = coordinates v.corners.now in
    let mask = c.sides_met-m.ensures.0 ∙ ap (λ i. mask_of (sides_met v.shape.now v.offsets.now b i)) c.from.ensures in
    none-next (sides_at table v.shape.now v.offsets.now b) c.args.candidates.now c.loop-k.k c.loop-k-test.true c.loop-k.invariant
    (sides-absent table v.shape.now v.offsets.now b _ mask c.if-m-ne0.false)
