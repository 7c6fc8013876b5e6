use Rattle.quadtree_shapes.specs.Shape.{touches_at}
use Rattle.quadtree_shapes.proofs.box_tests.touches.Goals as goal

pub returns : goal.returns
unfolding touches_at
returns c =
    cc
