-- The items before that place are inserted.
use lib.ListN.{take}
use Rattle.overlay_marks.specs.PairMarks.{ItemsInserted}
use Rattle.overlay_marks.proofs.insert_all.Given as goal

abbrev pub invariant-loop-item : goal.invariant-loop-item
invariant-loop-item l = ItemsInserted l.initial.set (take l.item-index l.items) l.set
