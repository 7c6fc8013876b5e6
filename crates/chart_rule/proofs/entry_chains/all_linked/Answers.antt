-- So far every entry before i is linked to the one beside it, or the answer is no.
use mathlib.Core.Path.{sym}
use lib.Dec.{leb, leb→le}
use lib.ListN.{get_or}
use Rattle.theory_lists.proofs.IndexLaws.{all-below-none, all-below-step, all-below-at}
use Rattle.spec_squares.specs.Square.{depth}
use Rattle.chart_links.specs.Links.{linked_at, entry_at}
use Rattle.chart_rule.proofs.entry_chains.all_linked.Goals as goal

pub loop-i-init : goal.loop-i-init
loop-i-init c =
    let a = c.args in
    sym (all-below-none (λ k. linked_at a.keys.now a.levels.now a.items.now a.next_keys.now a.next_levels.now a.next_items.now k))

pub is_linked-ok-requires : goal.is_linked-ok-requires
is_linked-ok-requires c =
    let levels = c.args.levels.now in
    let i = c.loop-i.i in
    leb→le (get_or levels i 0) depth (all-below-at (λ k. leb (get_or levels k 0) depth) c.requires.n_value c.loop-i-test.true)

pub loop-i-preserved : goal.loop-i-preserved
unfolding entry_at
loop-i-preserved c =
    let a = c.args in
    let l = c.loop-i in
    all-below-step
    (λ k. linked_at a.keys.now a.levels.now a.items.now a.next_keys.now a.next_levels.now a.next_items.now k)
    l.i l.invariant c.is_linked-ok.ensures
