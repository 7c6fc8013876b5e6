use Rattle.base_boxes.proofs.BoxesLaws.{boxes-more}
use Rattle.base_boxes.proofs.boxes.BoxTable.put_boxes.Goals as goal

pub loop-i-preserved : goal.loop-i-preserved
loop-i-preserved c = boxes-more c.args.table.now c.loop-i.i c.loop-i.invariant c.put_box.ensures
