-- So far every level before the index is at most 16, or the answer is no.
use mathlib.Core.Path.{◌≡◌}
use lib.Dec.{leb}
use lib.ListN.{get_or}
use Rattle.theory_lists.specs.Lists.{all, up_to}
use Rattle.spec_squares.specs.Square.{depth}
use Rattle.chart_rule.proofs.entry_chains.levels_fit.Given as goal

abbrev pub invariant-loop-level : goal.invariant-loop-level
invariant-loop-level l = l.ok ≡ all (λ k. leb (get_or l.levels k 0) depth) (up_to l.level-index)
