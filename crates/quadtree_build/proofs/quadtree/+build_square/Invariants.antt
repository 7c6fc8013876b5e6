-- The recursion on quarters: depth - level falls at each of them. The loop keeps that the entries of the first k quarters are built.
use mathlib.Core.List.{flat_map}
use Prim.Native.Nat.{◌-◌}
use lib.ListN.{take}
use Rattle.std.proofs.Common.{Some}
use Rattle.spec_squares.specs.Square.{depth, quarters}
use Rattle.spec_charts.specs.Cells.{entries_in}
use Rattle.quadtree_stopping.specs.Stopping.{corner_table}
use Rattle.quadtree_build.specs.Build.{Built}
use Rattle.quadtree_build.proofs.quadtree.+build_square.Given as goal

abbrev pub decreases-build_square : goal.decreases-build_square
decreases-build_square l = depth - l.s.square.level

abbrev pub invariant-loop-k : goal.invariant-loop-k
invariant-loop-k l =
    Built (flat_map (λ x. entries_in (corner_table l.shapes.corners.now) x) (take l.k (quarters l.s.square))) l.most l.at (Some l.next) l.top l.initial.out l.out l.initial.stack l.stack
