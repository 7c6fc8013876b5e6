use mathlib.Core.Path.{◌≡◌, ap}
use Rattle.spec_plane.specs.Triangle.{triangle_of, corner_at}
use Rattle.spec_charts.specs.Table.{triangle_at}
use Rattle.quadtree_prepare.proofs.prepare_triangle.Goals as goal

pub returns : goal.returns
unfolding triangle_of corner_at
returns c =
    let a = c.args in
    let e : triangle_of c.triangle_at-t.result ≡ triangle_at a.table.now a.i = ap triangle_of c.triangle_at-t.ensures in
    record {
      shapes = rw e at c.put_shape.ensures;
      offs = rw e at c.put_offsets.ensures;
      points = rw e at c.put_corners.ensures;
    }
