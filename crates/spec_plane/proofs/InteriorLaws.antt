-- A common interior point does not depend on the order of the two triangles.
-- Assumes nothing.
use mathlib.Core.Path.{◌≡◌}
use mathlib.Core.Bool.{and_comm}
use Rattle.spec_plane.specs.Triangle.{Triangle}
use Rattle.spec_plane.specs.Interior.{no_side_separates, interiors_meet}

-- the test for a common interior point is symmetric
pub interiors_meet-sym : (s t : Triangle) → interiors_meet s t ≡ interiors_meet t s
unfolding interiors_meet
interiors_meet-sym s t = and_comm (no_side_separates s t) (no_side_separates t s)
