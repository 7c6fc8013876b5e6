-- The invariant: the rows copied so far stand behind those that the scratch table had.
use native.Mathlib.Omega.{arith}
use Rattle.edit_rows.proofs.CopyLaws.{appending-start, appending-next}
use Rattle.edit_rows.proofs.append_rows.Goals as goal

pub loop-i-init : goal.loop-i-init
loop-i-init c =
    let a = c.args in appending-start a.table.now a.first a.scratch.now a.m

pub loop-i-preserved : goal.loop-i-preserved
loop-i-preserved c =
    appending-next c.loop-i.invariant c.loop-i.auto.i (omega arith) c.triangle_at.ensures c.put_triangle.ensures
