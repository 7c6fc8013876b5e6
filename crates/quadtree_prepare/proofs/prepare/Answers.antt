-- The numbers of the first i triangles are stored.
use native.Mathlib.Omega.{arith}
use Prim.Native.Nat.{◌+◌}
use Rattle.quadtree_prepare.proofs.PutLaws.{shapes-none, shapes-next, shapes_room}
use Rattle.quadtree_prepare.proofs.prepare.Goals as goal

pub loop-i-init : goal.loop-i-init
loop-i-init c =
    let a = c.args in
    shapes-none a.table.now a.shape.now a.offsets.now a.corners.now

pub loop-i-preserved : goal.loop-i-preserved
loop-i-preserved c =
    shapes-next c.args.table.now c.loop-i.i c.loop-i.invariant c.prepare_triangle.ensures

pub prepare_triangle-requires : goal.prepare_triangle-requires
prepare_triangle-requires c =
    let l = c.loop-i in
    record { rows = omega (arith, c.requires.rows); room = shapes_room (l.i + 1) c.args.n (omega arith) l.invariant c.requires.room }
