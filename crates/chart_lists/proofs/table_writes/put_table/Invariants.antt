-- The table holds the numbers before i, and else what it held.
use Rattle.theory_lists.proofs.CopyLaws.{Copying}
use Rattle.chart_lists.proofs.table_writes.put_table.Given as goal

abbrev pub invariant-loop-i : goal.invariant-loop-i
invariant-loop-i l = Copying (λ x. x) l.given l.initial.table l.table 0 l.i l.n
