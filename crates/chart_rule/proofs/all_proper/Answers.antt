-- So far every triangle before i has D > 0, or the answer is no.
use mathlib.Core.Path.{sym, ◌∙◌, ap}
use native.Mathlib.Omega.{arith}
use Rattle.theory_lists.specs.Lists.{all, up_to}
use Rattle.theory_lists.proofs.IndexLaws.{all-below-none, all-below-step, all_map}
use Rattle.spec_plane.specs.Triangle.{proper, triangle_of, corner_at}
use Rattle.spec_charts.specs.Table.{table_of, triangle_at}
use Rattle.chart_rule.proofs.all_proper.Goals as goal

pub loop-i-init : goal.loop-i-init
loop-i-init c = sym (all-below-none (λ k. proper (triangle_at c.args.table.now k)))

pub loop-i-preserved : goal.loop-i-preserved
unfolding triangle_of corner_at
loop-i-preserved c =
    let table = c.args.table.now in
    let l = c.loop-i in
    all-below-step (λ k. proper (triangle_at table k)) l.i l.invariant
    (c.is_proper-ok.ensures ∙ ap (λ t. proper (triangle_of t)) c.triangle_at.ensures)

pub returns : goal.returns
unfolding table_of
returns c =
    let table = c.args.table.now in
    let n = c.args.n in
    c.loop-i.invariant ∙ ap (λ k. all (λ j. proper (triangle_at table j)) (up_to k)) (omega arith)
    ∙ sym (all_map (λ t. proper t) (λ j. triangle_at table j) (up_to n))
