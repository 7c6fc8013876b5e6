use Rattle.spec_plane.specs.Triangle.{triangle_of, corner_at}
use Rattle.quadtree_shapes.specs.Shape.{corners_of}
use Rattle.quadtree_prepare.proofs.PutLaws.{put_three}
use Rattle.quadtree_prepare.proofs.put_corners.Goals as goal

pub returns : goal.returns
unfolding corners_of triangle_of corner_at
returns c =
    let a = c.args in
    put_three a.corners.now a.k c.packed_point.ensures c.packed_point-2.ensures c.packed_point-3.ensures
