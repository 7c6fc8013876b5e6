-- So far every level before the index is at most 16, or the answer is no.
use mathlib.Core.Path.{refl, sym}
use lib.Dec.{leb}
use lib.ListN.{get_or}
use Rattle.theory_lists.proofs.IndexLaws.{all-below-none, all-below-step}
use Rattle.spec_squares.specs.Square.{depth}
use Rattle.chart_rule.proofs.entry_chains.levels_fit.Goals as goal

pub loop-level-init : goal.loop-level-init
loop-level-init c = sym (all-below-none (λ k. leb (get_or c.args.levels.now k 0) depth))

pub loop-level-preserved : goal.loop-level-preserved
loop-level-preserved c = all-below-step (λ k. leb (get_or c.args.levels.now k 0) depth) c.loop-level.level-index c.loop-level.invariant refl
