-- Those of the candidates before place k that meet the frame are stored on top of the stack.
use Rattle.quadtree_shapes.specs.Shape.{frame_box, triangle_meets_at}
use Rattle.quadtree_cells.specs.Stack.{Narrowing}
use Rattle.quadtree_cells.proofs.candidates.narrow.Given as goal

abbrev pub invariant-loop-k : goal.invariant-loop-k
invariant-loop-k l =
    Narrowing (λ i. triangle_meets_at l.shape l.offsets i (frame_box l.f)) l.initial.stack l.stack l.from l.to l.k l.top
