-- Of the candidates before place k no side meets the frame.
use Rattle.std.proofs.Common.{◌≡◌, [], take}
use Rattle.quadtree_shapes.specs.Shape.{frame_box}
use Rattle.quadtree_stopping.specs.Stopping.{sides_of}
use Rattle.quadtree_stopping.proofs.Shapes.first_met.Given as goal

abbrev pub invariant-loop-k : goal.invariant-loop-k
invariant-loop-k l = sides_of l.self (frame_box l.f) (take l.k l.candidates) ≡ []
