-- The first k boxes are separate from b.
use mathlib.Core.Path.{sym}
use Prim.Native.Nat.{◌+◌}
use Rattle.theory_lists.proofs.IndexLaws.{all-below-none, all-below-step}
use Rattle.base_geometry.specs.Bounds.{bounds_box}
use Rattle.base_boxes.specs.Boxes.{separate, box_at}
use Rattle.base_boxes.proofs.boxes.BoxTable.lanes_separate.Goals as goal

pub loop-k-init : goal.loop-k-init
loop-k-init c = let a = c.args in sym (all-below-none (λ n. separate (bounds_box a.b) (box_at a.self.now (a.j + n))))

pub loop-k-preserved : goal.loop-k-preserved
loop-k-preserved c =
    let a = c.args in
    let l = c.loop-k in
    all-below-step (λ n. separate (bounds_box a.b) (box_at a.self.now (a.j + n))) l.k l.invariant c.is_separate-o.ensures
