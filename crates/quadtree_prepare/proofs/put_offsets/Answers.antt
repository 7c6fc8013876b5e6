use Rattle.spec_plane.specs.Triangle.{triangle_of, corner_at}
use Rattle.quadtree_shapes.specs.Shape.{offsets_of}
use Rattle.quadtree_prepare.proofs.PutLaws.{put_three}
use Rattle.quadtree_prepare.proofs.put_offsets.Goals as goal

pub returns : goal.returns
unfolding offsets_of triangle_of corner_at
returns c =
    let a = c.args in
    put_three a.offsets.now a.k c.offset.ensures c.offset-2.ensures c.offset-3.ensures
