-- The candidates are the triangles that meet the square, so their sides that meet it are all sides that do.
use Rattle.std.proofs.Common.{◌∙◌, ap}
use Rattle.spec_charts.specs.Cells.{common_end}
use Rattle.quadtree_shapes.specs.Shape.{coordinates}
use Rattle.quadtree_stopping.specs.Stopping.{triangle_total, sides_of}
use Rattle.quadtree_stopping.proofs.StopLaws.{stopped-deep, stopped-sides}
use Rattle.quadtree_stopping.proofs.Shapes.is_stopped.Goals as goal

pub returns-then-s-eq16 : goal.returns-then-s-eq16
returns-then-s-eq16 c =
    let v = c.args.self in
    stopped-deep (triangle_total v.corners.now) (coordinates v.corners.now) v.shape.now v.offsets.now c.requires.prepared c.args.s c.if-s-eq16.true

pub returns : goal.returns
returns c =
    let v = c.args.self in
    let p = c.requires in
    c.common_end.ensures
    ∙ ap (λ b. common_end (sides_of v b c.args.candidates.now)) p.border.box
    ∙ stopped-sides (triangle_total v.corners.now) (coordinates v.corners.now) v.shape.now v.offsets.now p.prepared c.args.s c.if-s-eq16.false p.aligned
    c.args.candidates.now p.triangles
