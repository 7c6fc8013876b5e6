-- The first k entries of the lanes lie beyond a side.
use mathlib.Core.Path.{◌≡◌}
use lib.ListN.{get_or}
use Rattle.theory_lists.specs.Lists.{all, up_to}
use Rattle.window_keys.specs.Sides.{beyond}
use Rattle.window_cells.proofs.lanes_beyond.Given as goal

abbrev pub invariant-loop-k : goal.invariant-loop-k
invariant-loop-k l = l.o ≡ all (λ i. beyond l.s (get_or l.keys i 0) (get_or l.levels i 0)) (up_to l.k)
