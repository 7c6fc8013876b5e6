-- The places below k whose boxes overlap b are listed.
use Rattle.base_geometry.specs.Bounds.{bounds_box}
use Rattle.base_boxes.specs.Boxes.{box_at}
use Rattle.base_boxes.specs.Near.{Collected}
use Rattle.base_boxes.proofs.boxes.BoxTable.collect.Given as goal

abbrev pub invariant-loop-k : goal.invariant-loop-k
invariant-loop-k l = Collected (bounds_box l.b) (box_at l.self) l.initial.near l.near l.k l.n
