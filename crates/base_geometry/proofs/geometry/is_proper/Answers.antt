use Rattle.spec_plane.specs.Triangle.{proper, triangle_of, corner_at}
use borrow.Author.Rules.{rules}
use Rattle.base_geometry.proofs.geometry.is_proper.Goals as goal

pub returns : goal.returns
unfolding proper triangle_of corner_at
returns c =
    search rules
