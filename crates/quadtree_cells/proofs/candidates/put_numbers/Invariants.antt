-- The numbers below i are stored.
use mathlib.Core.Path.{◌≡◌}
use lib.Seq.{sets}
use Rattle.theory_lists.specs.Lists.{up_to}
use Rattle.quadtree_cells.proofs.candidates.put_numbers.Given as goal

abbrev pub invariant-loop-i : goal.invariant-loop-i
invariant-loop-i l = l.stack ≡ sets l.initial.stack 0 (up_to l.i)
