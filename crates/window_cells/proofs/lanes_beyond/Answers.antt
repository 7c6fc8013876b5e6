-- The first k entries of the lanes lie beyond a side.
use mathlib.Core.Path.{sym}
use lib.ListN.{get_or}
use Rattle.theory_lists.proofs.IndexLaws.{all-below-none, all-below-step}
use Rattle.window_keys.specs.Sides.{beyond}
use Rattle.window_cells.proofs.lanes_beyond.Goals as goal

pub loop-k-init : goal.loop-k-init
loop-k-init c =
    let a = c.args in sym (all-below-none (λ i. beyond a.s (get_or a.keys.now i 0) (get_or a.levels.now i 0)))

pub loop-k-preserved : goal.loop-k-preserved
loop-k-preserved c =
    let a = c.args in
    all-below-step (λ i. beyond a.s (get_or a.keys.now i 0) (get_or a.levels.now i 0)) c.loop-k.k c.loop-k.invariant c.is_beyond-o.ensures
