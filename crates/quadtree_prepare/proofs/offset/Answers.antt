use Rattle.quadtree_shapes.specs.Shape.{side_offset}
use Rattle.quadtree_prepare.proofs.offset.Goals as goal

pub returns : goal.returns
unfolding side_offset
returns c =
    cc
