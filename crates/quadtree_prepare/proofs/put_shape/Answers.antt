use mathlib.Core.Path.{◌∙◌, ap}
use lib.Seq.{sets}
use Prim.Native.Nat.{◌+◌}
use Rattle.spec_plane.specs.Triangle.{triangle_of, corner_at}
use Rattle.quadtree_shapes.specs.Shape.{whole_box, box_shape}
use Rattle.quadtree_prepare.proofs.PutLaws.{put-shape}
use Rattle.quadtree_prepare.proofs.put_shape.Goals as goal

pub returns : goal.returns
unfolding triangle_of corner_at
returns c =
    let a = c.args in
    put-shape a.shape.now c.put_side.new.shape c.put_side-2.new.shape c.put_side-3.new.shape c.put_box.new.shape
    a.k (triangle_of a.t)
    c.put_side.ensures
    c.put_side-2.ensures
    c.put_side-3.ensures
    (c.put_box.ensures ∙ ap (λ b. sets c.put_side-3.new.shape (a.k + whole_box) (box_shape b)) c.triangle_bounds.ensures)
