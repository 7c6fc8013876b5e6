-- Each of two masks has the sides seen so far that miss one of the two points; when neither is empty, no point is left.
use Rattle.std.proofs.Common.{arith}
use Rattle.quadtree_shapes.specs.Shape.{coordinates, frame_box}
use Rattle.quadtree_stopping.specs.Stopping.{sides_at}
use Rattle.quadtree_stopping.proofs.EndLaws.{tested-none, tested-more, tested-out, tested-all}
use Rattle.quadtree_stopping.proofs.Shapes.either_end.Goals as goal

pub loop-candidate-init : goal.loop-candidate-init
loop-candidate-init c =
    let v = c.args.self in
    tested-none (sides_at (coordinates v.corners.now) v.shape.now v.offsets.now (frame_box c.args.f)) c.args.candidates.now

pub returns-then-first-second : goal.returns-then-first-second
returns-then-first-second c =
    let v = c.args.self in
    let tested = tested-more c.args.p c.args.q c.missed-first.result c.missed-second.result c.loop-candidate.invariant c.loop-candidate-test.true
    (record { number = c.from-i.ensures; mask = c.sides_met-m.ensures.0; triangle = c.corners_at-t.ensures }) c.missed-first.ensures c.missed-second.ensures
    in
    tested-out (sides_at (coordinates v.corners.now) v.shape.now v.offsets.now (frame_box c.args.f)) c.args.candidates.now tested c.if-first-second.true

pub loop-candidate-preserved : goal.loop-candidate-preserved
loop-candidate-preserved c =
    tested-more c.args.p c.args.q c.missed-first.result c.missed-second.result c.loop-candidate.invariant c.loop-candidate-test.true
    (record { number = c.from-i.ensures; mask = c.sides_met-m.ensures.0; triangle = c.corners_at-t.ensures }) c.missed-first.ensures c.missed-second.ensures

pub returns : goal.returns
returns c =
    let v = c.args.self in
    tested-all (sides_at (coordinates v.corners.now) v.shape.now v.offsets.now (frame_box c.args.f)) c.args.candidates.now c.loop-candidate.invariant (omega arith)
