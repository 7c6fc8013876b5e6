-- The places of the first q groups of boxes that overlap b are listed.
use Prim.Native.Nat.{◌*◌}
use Rattle.base_geometry.specs.Bounds.{bounds_box}
use Rattle.base_boxes.specs.Boxes.{box_at}
use Rattle.base_boxes.specs.Near.{lanes, Collected}
use Rattle.base_boxes.proofs.boxes.BoxTable.collect_before.Given as goal

abbrev pub invariant-loop-q : goal.invariant-loop-q
invariant-loop-q l = Collected (bounds_box l.b) (box_at l.self) l.initial.near l.near (lanes * l.q) l.c
