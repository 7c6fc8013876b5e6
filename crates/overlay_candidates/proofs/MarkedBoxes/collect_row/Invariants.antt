-- Word after word: the candidates of the words before word q are listed.
use Prim.Native.Nat.{◌*◌}
use Rattle.base_geometry.specs.Bounds.{bounds_box}
use Rattle.base_boxes.specs.Boxes.{box_at}
use Rattle.overlay_candidates.specs.RowCandidates.{Collected}
use Rattle.overlay_candidates.proofs.MarkedBoxes.collect_row.Given as goal

abbrev pub invariant-loop-q : goal.invariant-loop-q
invariant-loop-q l = Collected (bounds_box l.b) (box_at l.self.boxes.now) l.self.rows.now l.self.triangles l.i l.initial.near l.near (64 * l.q) l.c
