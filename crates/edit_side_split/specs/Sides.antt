-- The side of a side split: the rotation that starts with it, and the triangle on its other side.
-- Assumes nothing.
use Rattle.std.specs.Prelude.{List, ℕ, Option as CodeOption, Some, None}
use Rattle.std.proofs.Math.Option.{Option, none, some}
use Rattle.spec_plane.specs.declared.Point.{Point}
use Rattle.spec_plane.specs.declared.Position.{Position}
use Rattle.spec_plane.specs.Triangle.{triangle_of}
use Rattle.spec_charts.specs.Edits.{side_first, Neighbour}
use Rattle.edit_sides.specs.Sharing.{RotationFound}
use Rattle.edit_side_split.specs.declared.neighbours.Neighbour.{Neighbour as CodeNeighbour}

-- the number of the rotation with the point on its side ab, where the point lies at q by the triangle, whichever that is
abbrev pub SideRotation : Position → CodeOption ℕ → Type 0
SideRotation q r = (s : List Point) → RotationFound (side_first q (triangle_of s)) s r

-- the neighbour that is found
abbrev pub neighbour_of : CodeOption CodeNeighbour → Option Neighbour
neighbour_of None = none
neighbour_of (Some u) = some (record { number = u.number; rotation = triangle_of u.rotation })
