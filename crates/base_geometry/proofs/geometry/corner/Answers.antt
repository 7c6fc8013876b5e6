use Rattle.spec_plane.specs.Triangle.{corner_at}
use borrow.Author.Rules.{rules}
use Rattle.base_geometry.proofs.geometry.corner.Goals as goal

pub returns : goal.returns
unfolding corner_at
returns c =
    search rules
