use native.Mathlib.Omega.{arith}
use Rattle.base_geometry.specs.Bounds.{bounds_box}
use Rattle.base_boxes.proofs.BoxesLaws.{stored}
use Rattle.base_boxes.proofs.boxes.BoxTable.put_box.Goals as goal

pub returns : goal.returns
returns c =
    rw (← c.triangle_box-b.ensures) (stored c.args.self.now (bounds_box c.triangle_box-b.result) c.args.i (omega arith) (omega arith) (omega arith) (omega arith))
