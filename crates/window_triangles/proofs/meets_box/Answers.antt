use Rattle.spec_plane.specs.Triangle.{triangle_of, corner_at}
use Rattle.spec_plane.specs.Box.{apart, triangle_meets}
use Rattle.window_triangles.proofs.meets_box.Goals as goal

pub returns : goal.returns
unfolding triangle_meets triangle_of corner_at apart
returns c =
    rw (← c.triangle_bounds-b.ensures, c.is_outer.ensures, c.is_outer-2.ensures, c.is_outer-3.ensures)
