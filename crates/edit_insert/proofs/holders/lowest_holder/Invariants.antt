-- The invariant: no triangle before number i holds the point.
use Rattle.edit_insert.proofs.InsertSteps.{Unheld}
use Rattle.edit_insert.proofs.holders.lowest_holder.Given as goal

abbrev pub invariant-loop-i : goal.invariant-loop-i
invariant-loop-i l = Unheld l.table l.n l.p l.i
