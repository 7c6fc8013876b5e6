use Rattle.quadtree_shapes.specs.Shape.{smallest_at}
use Rattle.quadtree_shapes.proofs.shapes.smallest_value.Goals as goal

pub returns : goal.returns
unfolding smallest_at
returns c =
    c.value_at.ensures
