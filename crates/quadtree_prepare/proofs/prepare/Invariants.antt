-- The numbers of the first i triangles are stored.
use Rattle.spec_charts.specs.Table.{table_of}
use Rattle.quadtree_prepare.specs.Prepare.{StoredShapes}
use Rattle.quadtree_prepare.proofs.prepare.Given as goal

abbrev pub invariant-loop-i : goal.invariant-loop-i
invariant-loop-i l =
    StoredShapes (table_of l.table l.i) l.initial.shape l.initial.offsets l.initial.corners l.shape l.offsets l.corners
