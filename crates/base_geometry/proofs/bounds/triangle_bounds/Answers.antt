use borrow.Author.Rules.{rules}
use Rattle.spec_plane.specs.Triangle.{triangle_of, corner_at}
use Rattle.spec_plane.specs.Box.{triangle_box}
use Rattle.base_geometry.proofs.bounds.triangle_bounds.Goals as goal

pub returns : goal.returns
unfolding triangle_box triangle_of corner_at
returns c =
    search rules
