use mathlib.Core.Path.{◌∙◌, ap₂}
use Prim.Native.Nat.{◌+◌}
use lib.Seq.{sets}
use native.Mathlib.Omega.{arith}
use Rattle.theory_lists.proofs.ListsLaws.{sets-join}
use Rattle.spec_plane.specs.Box.{side_box}
use Rattle.quadtree_shapes.specs.Shape.{line_numbers, line_shape, box_shape, side_shape}
use Rattle.quadtree_prepare.proofs.put_side.Goals as goal

pub returns : goal.returns
unfolding side_shape line_shape
returns c =
    let a = c.args in
    c.put_box.ensures
    ∙ ap₂ (λ s b. sets s (a.k + line_numbers) (box_shape b)) c.put_line.ensures c.side_bounds.ensures
    ∙ sets-join a.shape.now a.k (a.k + line_numbers) (line_shape a.p a.q) (box_shape (side_box (record { start = a.p; end = a.q }))) (omega arith)
