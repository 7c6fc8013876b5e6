-- Each of two masks has the sides seen so far that miss one of the two points; when neither is empty, no point is left.
use Rattle.quadtree_shapes.specs.Shape.{coordinates, frame_box}
use Rattle.quadtree_shapes.specs.Masks.{unpacked}
use Rattle.quadtree_stopping.specs.Stopping.{sides_at, Tested}
use Rattle.quadtree_stopping.proofs.Shapes.either_end.Given as goal

abbrev pub invariant-loop-candidate : goal.invariant-loop-candidate
invariant-loop-candidate l =
    Tested (sides_at (coordinates l.self.corners.now) l.self.shape.now l.self.offsets.now (frame_box l.f)) l.candidates
    (unpacked l.p) (unpacked l.q) l.x l.y l.candidate-index l.first l.second
