-- The marks are those of the first blocks of so many entries as there are lanes.
use Prim.Native.Nat.{◌*◌}
use Rattle.base_geometry.specs.Bounds.{bounds_box}
use Rattle.window_cells.specs.Marks.{lanes, Marked}
use Rattle.window_cells.proofs.mark_near.Given as goal

abbrev pub invariant-loop-block : goal.invariant-loop-block
invariant-loop-block l = Marked (bounds_box l.w) l.keys l.levels l.items (lanes * l.block) l.near
