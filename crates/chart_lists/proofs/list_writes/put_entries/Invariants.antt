-- The three lists hold key, level and item of the entries before i, and else what they held.
use lib.ListN.{length}
use Rattle.chart_lists.proofs.ColumnLaws.{Unpacking}
use Rattle.chart_lists.proofs.list_writes.put_entries.Given as goal

abbrev pub invariant-loop-i : goal.invariant-loop-i
invariant-loop-i l =
    Unpacking l.entries l.i (length l.entries) (record { keys = l.initial.keys; levels = l.initial.levels; items = l.initial.items }) (record { keys = l.keys; levels = l.levels; items = l.items })
