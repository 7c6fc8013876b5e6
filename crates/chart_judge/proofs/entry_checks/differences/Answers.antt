-- The loop keeps that what was found so far is 0 where each entry passed is the same, place by place.
use mathlib.Core.Path.{sym, ◌∙◌, ap}
use lib.Dec.{eqb}
use lib.ListN.{get_or}
use Rattle.theory_lists.proofs.IndexLaws.{all-below-none, all-below-step}
use Rattle.base_geometry.proofs.BitLaws.{or-zero, xor-zero}
use Rattle.chart_links.specs.Links.{entry_at}
use Rattle.chart_judge.specs.Places.{same_place}
use Rattle.chart_judge.proofs.entry_checks.differences.Goals as goal

pub loop-i-init : goal.loop-i-init
loop-i-init c =
    let a = c.args in
    sym (all-below-none (λ i. same_place a.entries.now a.keys.now a.levels.now a.items.now i))

pub loop-i-preserved : goal.loop-i-preserved
unfolding entry_at
loop-i-preserved c =
    let a = c.args in
    let l = c.loop-i in
    let x = get_or c.args.entries.now l.i 0 in
    or-zero l.found _
    ∙ all-below-step (λ i. same_place a.entries.now a.keys.now a.levels.now a.items.now i) l.i l.invariant (xor-zero x c.pack.result ∙ ap (eqb x) c.pack.ensures)
