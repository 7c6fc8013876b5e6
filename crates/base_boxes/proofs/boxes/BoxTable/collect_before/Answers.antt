-- The places of the first q groups of boxes that overlap b are listed.
use mathlib.Core.Path.{refl}
use Rattle.theory_lists.proofs.CompactLaws.{compact-none}
use Rattle.base_geometry.specs.Bounds.{bounds_box}
use Rattle.base_boxes.specs.Boxes.{box_at, boxes_overlap}
use Rattle.base_boxes.proofs.boxes.BoxTable.collect_before.Goals as goal

pub loop-q-init : goal.loop-q-init
loop-q-init c =
    let a = c.args in
    record { near = compact-none (λ k. boxes_overlap (bounds_box a.b) (box_at a.self.now) k) a.near.now; same = refl }
