use mathlib.Core.Path.{ap, ap₂}
use mathlib.Core.Bool.{◌&&◌}
use lib.Dec.{leb}
use Rattle.quadtree_shapes.specs.Shape.{side_meets_at}
use Rattle.quadtree_shapes.proofs.box_tests.side_meets.Goals as goal

pub returns : goal.returns
unfolding side_meets_at
returns c =
    ap₂ ◌&&◌ c.touches.ensures (ap (λ x. leb x c.args.v) c.smallest_value.ensures)
