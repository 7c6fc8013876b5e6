-- The count found is the lowest for which every item before the index fits.
use mathlib.Core.Path.{◌≡◌}
use Prim.Native.Nat.{ℕ}
use lib.Dec.{leb}
use lib.ListN.{get_or}
use Rattle.theory_lists.specs.Lists.{all, up_to}
use Rattle.chart_links.specs.Links.{item_fits}
use Rattle.chart_rule.proofs.entry_chains.count_for_all.Given as goal

abbrev pub invariant-loop-item : goal.invariant-loop-item
invariant-loop-item l =
    (count : ℕ) → leb l.most count ≡ all (λ k. item_fits count (get_or l.items k 0)) (up_to l.item-index)
