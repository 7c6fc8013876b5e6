-- The invariant: the rotations before number k do not share the side.
use Rattle.spec_plane.specs.Triangle.{triangle_of}
use Rattle.edit_sides.specs.Sharing.{first_sharing}
use Rattle.edit_sides.proofs.RotationSteps.{RotationsSkipped}
use Rattle.edit_sides.proofs.sharing_rotation.Given as goal

abbrev pub invariant-loop-k : goal.invariant-loop-k
invariant-loop-k l = RotationsSkipped (first_sharing (triangle_of l.s)) l.u l.k
