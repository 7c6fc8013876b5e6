-- The rows of the items before that place have the set's bits.
use native.Mathlib.Omega.{arith}
use Rattle.overlay_marks.proofs.SetLaws.{join-start, join_more}
use Rattle.overlay_marks.proofs.join_all.Goals as goal

pub loop-item-init : goal.loop-item-init
loop-item-init c = join-start c.args.rows.now c.args.set.now

pub loop-item-preserved : goal.loop-item-preserved
loop-item-preserved c =
    let a = c.args in
    join_more a.items.now c.loop-item.item-index a.set.now c.loop-item.invariant (omega arith) c.requires.1 c.place.ensures c.join.ensures
