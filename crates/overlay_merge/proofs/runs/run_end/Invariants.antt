-- Keys are passed as long as they are below the end, and each that differs from the one before it starts a cell.
use lib.ListN.{length}
use Rattle.overlay_merge.proofs.WalkLaws.{RunPassed}
use Rattle.overlay_merge.proofs.runs.run_end.Given as goal

abbrev pub invariant-loop-r : goal.invariant-loop-r
invariant-loop-r l = RunPassed l.keys (length l.keys) l.p l.end l.r l.cells
