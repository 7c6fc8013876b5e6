-- The invariant: no triangle before number j is on the other side.
use Rattle.spec_plane.specs.Triangle.{triangle_of}
use Rattle.edit_side_split.proofs.NeighbourSteps.{Unshared}
use Rattle.edit_side_split.proofs.neighbours.lowest_neighbour.Given as goal

abbrev pub invariant-loop-j : goal.invariant-loop-j
invariant-loop-j l = Unshared (triangle_of l.s) l.table l.n l.j
