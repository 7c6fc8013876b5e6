-- The first i boxes are there.
use Rattle.base_boxes.specs.Boxes.{Boxes}
use Rattle.base_boxes.proofs.boxes.BoxTable.put_boxes.Given as goal

abbrev pub invariant-loop-i : goal.invariant-loop-i
invariant-loop-i l = Boxes l.table l.self l.i
