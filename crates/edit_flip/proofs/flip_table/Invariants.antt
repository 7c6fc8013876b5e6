-- The invariant: rotations of triangle i before number k share no side with triangle j.
use Rattle.spec_plane.specs.Triangle.{triangle_of}
use Rattle.spec_charts.specs.Table.{table_of}
use Rattle.spec_charts.specs.Edits.{rotations, flip_among}
use Rattle.edit_sides.proofs.RotationSteps.{RotationsSkipped}
use Rattle.edit_flip.proofs.flip_table.Given as goal

abbrev pub invariant-loop-k : goal.invariant-loop-k
invariant-loop-k l = RotationsSkipped (flip_among (table_of l.table l.n) l.i l.j (rotations (triangle_of l.u))) l.s l.k
