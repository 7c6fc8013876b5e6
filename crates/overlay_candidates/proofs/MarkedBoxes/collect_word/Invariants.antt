-- Mark after mark: the lowest bit that is left is the next place, and a word without a bit adds nothing.
use Prim.Native.Nat.{◌+◌, ◌*◌, ◌-◌}
use Rattle.base_geometry.specs.Bounds.{bounds_box}
use Rattle.base_boxes.specs.Boxes.{box_at}
use Rattle.overlay_candidates.proofs.NearLaws.{MarksDone}
use Rattle.overlay_candidates.proofs.MarkedBoxes.collect_word.Given as goal

abbrev pub invariant-loop-w : goal.invariant-loop-w
invariant-loop-w l =
    MarksDone (bounds_box l.b) (box_at l.self.boxes.now) l.self.rows.now l.self.triangles l.i l.initial.near l.near l.q l.w l.j l.c

abbrev pub decreases-loop-w : goal.decreases-loop-w
decreases-loop-w l = 64 * (l.q + 1) - l.j
