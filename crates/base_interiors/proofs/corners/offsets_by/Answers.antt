use borrow.Author.Rules.{rules}
use Rattle.spec_plane.specs.Triangle.{triangle_of, corner_at}
use Rattle.base_interiors.proofs.corners.offsets_by.Goals as goal

pub returns : goal.returns
unfolding triangle_of corner_at
returns c =
    search rules
