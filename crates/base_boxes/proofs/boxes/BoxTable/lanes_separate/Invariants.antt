-- The first k boxes are separate from b.
use mathlib.Core.Path.{◌≡◌}
use Prim.Native.Nat.{◌+◌}
use Rattle.theory_lists.specs.Lists.{all, up_to}
use Rattle.base_geometry.specs.Bounds.{bounds_box}
use Rattle.base_boxes.specs.Boxes.{separate, box_at}
use Rattle.base_boxes.proofs.boxes.BoxTable.lanes_separate.Given as goal

abbrev pub invariant-loop-k : goal.invariant-loop-k
invariant-loop-k l = l.o ≡ all (λ n. separate (bounds_box l.b) (box_at l.self (l.j + n))) (up_to l.k)
