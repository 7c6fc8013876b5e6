-- Word after word: the candidates of the words before word q are listed.
use mathlib.Core.Path.{refl}
use Rattle.base_geometry.specs.Bounds.{bounds_box}
use Rattle.base_boxes.specs.Boxes.{box_at}
use Rattle.overlay_candidates.proofs.NearLaws.{near_none}
use Rattle.overlay_candidates.proofs.MarkedBoxes.collect_row.Goals as goal

pub loop-q-init : goal.loop-q-init
loop-q-init c =
    let a = c.args in
    record { near = near_none (bounds_box a.b) (box_at a.self.boxes.now) a.self.rows.now a.self.triangles a.i a.near.now; kept = refl }
