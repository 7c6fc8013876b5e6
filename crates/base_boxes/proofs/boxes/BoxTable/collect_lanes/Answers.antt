-- Where all boxes in the lanes are separate from b, none of their places is listed.
use mathlib.Core.Path.{refl, sym, ◌∙◌}
use Rattle.base_geometry.specs.Bounds.{bounds_box}
use Rattle.base_boxes.specs.Boxes.{box_at}
use Rattle.base_boxes.specs.Near.{lanes}
use Rattle.base_boxes.proofs.NearLaws.{near-skip}
use Rattle.base_boxes.proofs.boxes.BoxTable.collect_lanes.Goals as goal

pub returns-then-lanes_separate : goal.returns-then-lanes_separate
returns-then-lanes_separate c =
    let a = c.args in
    record {
      near =
          near-skip (bounds_box a.b) (box_at a.self.now) c.requires.near lanes
          (sym c.lanes_separate.ensures ∙ c.if-lanes_separate.true);
      same = refl;
    }
