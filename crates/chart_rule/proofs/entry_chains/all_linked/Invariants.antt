-- So far every entry before i is linked to the one beside it, or the answer is no.
use mathlib.Core.Path.{◌≡◌}
use Rattle.theory_lists.specs.Lists.{all, up_to}
use Rattle.chart_links.specs.Links.{linked_at}
use Rattle.chart_rule.proofs.entry_chains.all_linked.Given as goal

abbrev pub invariant-loop-i : goal.invariant-loop-i
invariant-loop-i l =
    l.ok ≡ all (λ k. linked_at l.keys l.levels l.items l.next_keys l.next_levels l.next_items k) (up_to l.i)
