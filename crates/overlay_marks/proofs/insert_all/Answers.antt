-- The items before that place are inserted.
use native.Mathlib.Omega.{arith}
use Rattle.overlay_marks.proofs.SetLaws.{insert-start, insert-more}
use Rattle.overlay_marks.proofs.insert_all.Goals as goal

pub loop-item-init : goal.loop-item-init
loop-item-init c = insert-start c.args.set.now

pub loop-item-preserved : goal.loop-item-preserved
loop-item-preserved c = insert-more c.args.items.now c.loop-item.item-index c.loop-item.invariant (omega arith) c.place.ensures c.insert.ensures
