-- The walk along both lists: at places a and b both are cut at one key, the rows mark what is listed together before it, and the sum is
-- the meetings before it. A block moves both places on, and the lists end together.
use native.Mathlib.Omega.{arith}
use Rattle.overlay_merge.proofs.StepLaws.{merging_start, merging-few, merging-next, merging-end, pairs-fit, both_below, not-both}
use Rattle.overlay_merge.specs.Merge.{keyed}
use Rattle.overlay_merge.proofs.mark_pairs.Goals as goal

pub loop-first_at-init : goal.loop-first_at-init
loop-first_at-init c =
    let first = keyed c.args.first in
    let second = keyed c.args.second in
    merging_start c.args.tree_end first second c.args.rows.now c.requires.empty_rows

pub overflow_add-meetings : goal.overflow_add-meetings
overflow_add-meetings c =
    let first = keyed c.args.first in
    let second = keyed c.args.second in
    let s = c.mark_block-next.ensures in
    let few = merging-few c.args.tree_end first second c.loop-first_at.invariant s in
    omega (arith, pairs-fit few (omega (arith, s.first.within, c.requires.entries_fit.few)) (omega (arith, s.second.within, c.requires.entries_fit_2.few)))

pub loop-first_at-preserved : goal.loop-first_at-preserved
loop-first_at-preserved c =
    let first = keyed c.args.first in
    let second = keyed c.args.second in
    let t = both_below c.loop-first_at-test.true in
    merging-next c.args.tree_end first second c.loop-first_at.invariant c.mark_block-next.ensures t.0 t.1

pub returns : goal.returns
returns c =
    let first = keyed c.args.first in
    let second = keyed c.args.second in
    merging-end c.args.tree_end first second c.loop-first_at.invariant c.requires.entries_fit c.requires.entries_fit_2 (not-both c.loop-first_at-test.false)
