-- The rows of the items before that place have the set's bits.
use lib.ListN.{take}
use Rattle.overlay_marks.specs.PairMarks.{SetJoined}
use Rattle.overlay_marks.proofs.join_all.Given as goal

abbrev pub invariant-loop-item : goal.invariant-loop-item
invariant-loop-item l = SetJoined l.initial.rows (take l.item-index l.items) l.set l.rows
