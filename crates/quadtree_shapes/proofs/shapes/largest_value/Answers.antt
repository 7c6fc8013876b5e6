use Rattle.quadtree_shapes.specs.Shape.{largest_at}
use Rattle.quadtree_shapes.proofs.shapes.largest_value.Goals as goal

pub returns : goal.returns
unfolding largest_at
returns c =
    c.value_at.ensures
