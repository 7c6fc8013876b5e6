-- The marks are those of the first k entries.
use native.Mathlib.Omega.{arith}
use Rattle.base_geometry.specs.Bounds.{bounds_box}
use Rattle.window_cells.proofs.MarkLaws.{marked_more}
use Rattle.window_cells.proofs.mark_each.Goals as goal

pub loop-k-preserved : goal.loop-k-preserved
loop-k-preserved c =
    let a = c.args in
    let l = c.loop-k in
    marked_more (bounds_box a.w) a.keys.now a.levels.now a.items.now l.k a.to (omega arith) c.requires.markable.0.room l.near _ c.mark.ensures l.invariant
