use native.Mathlib.Numerals.{add-one, add-two, add-three}
use Rattle.quadtree_shapes.specs.Shape.{line_shape}
use Rattle.quadtree_prepare.proofs.put_line.Goals as goal

pub returns : goal.returns
unfolding line_shape
returns c =
    let k = c.args.k in
    cc (add-one k, add-two k, add-three k)
