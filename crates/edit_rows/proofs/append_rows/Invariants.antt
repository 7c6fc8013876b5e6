-- The invariant: the rows copied so far stand behind those that the scratch table had.
use Rattle.edit_rows.proofs.CopyLaws.{Appending}
use Rattle.edit_rows.proofs.append_rows.Given as goal

abbrev pub invariant-loop-i : goal.invariant-loop-i
invariant-loop-i l = Appending l.table l.first l.initial.scratch l.m l.scratch l.i
