-- Triangle i has a common interior point with none of the first k.
use mathlib.Core.Path.{sym, ◌∙◌, ap}
use mathlib.Core.Bool.{not}
use native.Mathlib.Omega.{arith}
use Rattle.theory_lists.proofs.IndexLaws.{all-below-none, all-below-fails, all-below-passes}
use Rattle.spec_charts.specs.Table.{triangle_at}
use Rattle.base_interiors.proofs.InteriorsLaws.{handed-corners, told-corners}
use Rattle.laws_charts.proofs.SoundLaws.{triangles_disjoint}
use Rattle.call_soundness.proofs.disjoint.each_disjoint.Goals as goal

pub loop-k-init : goal.loop-k-init
loop-k-init c =
    let a = c.args in
    (all-below-none (λ n. triangles_disjoint a.table.now a.i n), handed-corners (triangle_at a.table.now a.i) c.triangle_at.ensures c.differences_of-sides.ensures)

pub returns-then-interiors_meet : goal.returns-then-interiors_meet
returns-then-interiors_meet c =
    let a = c.args in
    let l = c.loop-k in
    let s = triangle_at a.table.now a.i in
    let t = triangle_at a.table.now l.k in
    let meet = told-corners s t c.triangle_at-in-loop-k.ensures (c.interiors_meet.ensures.value s l.invariant.1.0) in
    all-below-fails (λ n. triangles_disjoint a.table.now a.i n) a.i l.k (omega arith) (ap not (sym meet ∙ c.if-interiors_meet.true))

pub loop-k-preserved : goal.loop-k-preserved
loop-k-preserved c =
    let a = c.args in
    let l = c.loop-k in
    let s = triangle_at a.table.now a.i in
    let t = triangle_at a.table.now l.k in
    let meet = told-corners s t c.triangle_at-in-loop-k.ensures (c.interiors_meet.ensures.value s l.invariant.1.0) in
    (all-below-passes (λ n. triangles_disjoint a.table.now a.i n) l.k l.invariant.0 (ap not (sym meet ∙ c.if-interiors_meet.false)), l.invariant.1)
