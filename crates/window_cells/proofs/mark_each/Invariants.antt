-- The marks are those of the first k entries.
use Rattle.base_geometry.specs.Bounds.{bounds_box}
use Rattle.window_cells.specs.Marks.{Marked}
use Rattle.window_cells.proofs.mark_each.Given as goal

abbrev pub invariant-loop-k : goal.invariant-loop-k
invariant-loop-k l = Marked (bounds_box l.w) l.keys l.levels l.items l.k l.near
