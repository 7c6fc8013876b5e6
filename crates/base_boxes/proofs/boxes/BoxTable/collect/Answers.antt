-- The places below k whose boxes overlap b are listed.
use native.Mathlib.Omega.{arith}
use Rattle.base_geometry.specs.Bounds.{bounds_box}
use Rattle.base_boxes.specs.Boxes.{box_at}
use Rattle.base_boxes.proofs.BoxesLaws.{set-length}
use Rattle.base_boxes.proofs.NearLaws.{near-more}
use Rattle.base_boxes.proofs.boxes.BoxTable.collect.Goals as goal

pub loop-k-preserved : goal.loop-k-preserved
loop-k-preserved c =
    let a = c.args in
    let l = c.loop-k in
    let v = l.invariant in
    let call = c.append_if_near-n in
    record {
      near =
          near-more (bounds_box a.b) (box_at a.self.now) v.near a.m (omega arith) _ call.result
          (omega (arith, v.near.few, v.same, c.requires.collectable.0.room)) call.ensures.near_after call.ensures.value;
      same = set-length l.near _ l.n l.k _ call.ensures.near_after v.same;
    }
