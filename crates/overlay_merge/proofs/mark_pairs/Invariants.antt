-- The walk along both lists: at places a and b both are cut at one key, the rows mark what is listed together before it, and the sum is
-- the meetings before it. A block moves both places on, and the lists end together.
use Prim.Native.Nat.{◌-◌}
use lib.ListN.{length}
use Rattle.overlay_merge.specs.Merge.{keyed}
use Rattle.overlay_merge.proofs.StepLaws.{Merging}
use Rattle.overlay_merge.proofs.mark_pairs.Given as goal

abbrev pub invariant-loop-first_at : goal.invariant-loop-first_at
invariant-loop-first_at l =
    Merging l.tree_end (keyed l.first) (keyed l.second) l.initial.rows l.rows l.meetings l.first_at l.second_at

abbrev pub decreases-loop-first_at : goal.decreases-loop-first_at
decreases-loop-first_at l = length l.first.keys.now - l.first_at
