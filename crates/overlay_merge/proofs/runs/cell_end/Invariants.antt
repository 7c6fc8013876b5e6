-- Keys are passed as long as they are that of the first place.
use lib.ListN.{length}
use Rattle.overlay_merge.proofs.WalkLaws.{CellPassed}
use Rattle.overlay_merge.proofs.runs.cell_end.Given as goal

abbrev pub invariant-loop-r : goal.invariant-loop-r
invariant-loop-r l = CellPassed l.keys (length l.keys) l.at l.key l.r
