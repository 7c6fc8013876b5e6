-- Keys are passed as long as they are below the end, and each that differs from the one before it starts a cell.
use mathlib.Core.Path.{◌∙◌}
use Prim.Native.Nat.{◌-◌}
use native.Mathlib.Omega.{arith}
use lib.Dec.{eqb}
use lib.ListN.{length, get_or}
use Rattle.overlay_merge.proofs.WalkLaws.{run-start, run_more, change-counted}
use Rattle.overlay_merge.proofs.runs.run_end.Goals as goal

pub loop-r-init : goal.loop-r-init
loop-r-init c =
    let a = c.args in
    run-start a.keys.now (length a.keys.now) a.p a.end c.requires.1 (omega arith)

pub loop-r-preserved : goal.loop-r-preserved
loop-r-preserved c =
    let a = c.args in
    let r = c.loop-r.r in
    let step = c.from-cells.ensures ∙ change-counted (eqb (get_or a.keys.now (r - 1) 0) (get_or a.keys.now r 0)) in
    run_more a.keys.now (length a.keys.now) a.p a.end c.loop-r.invariant c.loop-r-test.true (omega arith) (omega (arith, c.from.ensures, c.if-end-from.false)) step
