-- Triangle i has a common interior point with none of the first k listed.
use mathlib.Core.Path.{sym, ◌∙◌, ap}
use mathlib.Core.Bool.{not}
use native.Mathlib.Omega.{arith}
use lib.ListN.{length, get_or}
use Rattle.theory_lists.proofs.IndexLaws.{all-below-none, all-below-fails, all-below-passes}
use Rattle.spec_charts.specs.Table.{triangle_at}
use Rattle.base_interiors.proofs.InteriorsLaws.{handed-corners, told-corners}
use Rattle.laws_charts.proofs.SoundLaws.{triangles_disjoint}
use Rattle.call_soundness.proofs.disjoint.near_disjoint.Goals as goal

pub loop-j-init : goal.loop-j-init
loop-j-init c =
    let a = c.args in
    (all-below-none (λ n. triangles_disjoint a.table.now a.i (get_or a.near.now n 0)), handed-corners (triangle_at a.table.now a.i) c.triangle_at.ensures c.differences_of-sides.ensures)

pub returns-then-interiors_meet : goal.returns-then-interiors_meet
returns-then-interiors_meet c =
    let a = c.args in
    let l = c.loop-j in
    let s = triangle_at a.table.now a.i in
    let t = triangle_at a.table.now (get_or a.near.now l.j-index 0) in
    let meet = told-corners s t c.triangle_at-in-loop-j.ensures (c.interiors_meet.ensures.value s l.invariant.1.0) in
    all-below-fails (λ n. triangles_disjoint a.table.now a.i (get_or a.near.now n 0)) (length a.near.now) l.j-index (omega arith)
    (ap not (sym meet ∙ c.if-interiors_meet.true))

pub loop-j-preserved : goal.loop-j-preserved
loop-j-preserved c =
    let a = c.args in
    let l = c.loop-j in
    let s = triangle_at a.table.now a.i in
    let t = triangle_at a.table.now (get_or a.near.now l.j-index 0) in
    let meet = told-corners s t c.triangle_at-in-loop-j.ensures (c.interiors_meet.ensures.value s l.invariant.1.0) in
    (all-below-passes (λ n. triangles_disjoint a.table.now a.i (get_or a.near.now n 0)) l.j-index l.invariant.0 (ap not (sym meet ∙ c.if-interiors_meet.false)), l.invariant.1)
