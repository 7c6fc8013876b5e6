use borrow.Author.Rules.{rules}
use Rattle.spec_plane.specs.Box.{side_box}
use Rattle.base_geometry.proofs.bounds.side_bounds.Goals as goal

pub returns : goal.returns
unfolding side_box
returns c =
    search rules
