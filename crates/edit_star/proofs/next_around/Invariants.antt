-- The invariant: from the first number on, no triangle before number i has the corner.
use Rattle.edit_star.proofs.AroundSteps.{RowsSkipped}
use Rattle.edit_star.proofs.next_around.Given as goal

abbrev pub invariant-loop-i : goal.invariant-loop-i
invariant-loop-i l = RowsSkipped l.p l.table l.n l.first l.i
