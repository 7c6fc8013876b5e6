-- The entries of the items before k are stored, and nothing else of the list has changed.
use Prim.Native.Nat.{◌+◌}
use lib.ListN.{length}
use Rattle.theory_lists.proofs.CopyLaws.{Copying}
use Rattle.quadtree_cells.proofs.leaves.put_candidates.Given as goal

abbrev pub invariant-loop-k : goal.invariant-loop-k
invariant-loop-k l = Copying (λ i. l.head + i) l.items l.initial.out l.out l.at l.k (length l.items)
