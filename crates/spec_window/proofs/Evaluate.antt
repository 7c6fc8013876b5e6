-- `unfolding evaluate` opens these definitions and all that they are written in, so that closed facts about them compute.
-- Assumes nothing.
use Rattle.spec_charts.proofs.Evaluate.{evaluate as plainly}
use Rattle.spec_window.specs.Window.{entry_square, cell_touches, listed_near, window_of, empty_window}

unfoldable pub evaluate : Unit {0}
unfolding plainly entry_square cell_touches listed_near window_of empty_window
evaluate = tt
