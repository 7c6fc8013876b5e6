-- The count found is the lowest for which every item before the index fits.
use mathlib.Core.Path.{sym, ◌∙◌, ap}
use lib.Dec.{leb, leb-zero}
use lib.ListN.{get_or}
use Rattle.theory_lists.proofs.IndexLaws.{all-below-none, all-below-step}
use Rattle.chart_links.specs.Links.{item_fits}
use Rattle.theory_lists.proofs.TestLaws.{leb-max}
use Rattle.chart_rule.proofs.entry_chains.count_for_all.Goals as goal

pub loop-item-init : goal.loop-item-init
loop-item-init c =
    λ count. leb-zero count ∙ sym (all-below-none (λ k. item_fits count (get_or c.args.items.now k 0)))

pub loop-item-preserved : goal.loop-item-preserved
loop-item-preserved c =
    let items = c.args.items.now in
    let l = c.loop-item in
    let one = c.count_for in
    λ count. ap (λ m. leb m count) c.max-most.ensures ∙ leb-max l.most one.result count
    ∙ all-below-step (λ k. item_fits count (get_or items k 0)) l.item-index (l.invariant count) (one.ensures count)
