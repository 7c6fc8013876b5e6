-- Row after row: the pairs of the rows before row i are written.
use Rattle.overlay_pairs.proofs.PairLaws.{RowsDone}
use Rattle.overlay_pairs.proofs.pair_rows.put_rows.Given as goal

abbrev pub invariant-loop-i : goal.invariant-loop-i
invariant-loop-i l =
    RowsDone l.first l.second l.marked.triangles l.marked.rows.now l.i l.found l.initial.near l.near l.initial.pairs l.pairs
