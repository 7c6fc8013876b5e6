-- The entries of the items before k are stored, and nothing else of the list has changed.
use mathlib.Core.Path.{refl, ap}
use Prim.Native.Nat.{◌+◌}
use native.Mathlib.Omega.{arith}
use Rattle.theory_lists.proofs.CopyLaws.{copying-next}
use Rattle.quadtree_cells.proofs.leaves.put_candidates.Goals as goal

pub loop-k-preserved : goal.loop-k-preserved
loop-k-preserved c =
    copying-next c.loop-k.invariant c.loop-k-test.true (omega arith) refl (ap (λ i. c.args.head + i) c.from.ensures)
