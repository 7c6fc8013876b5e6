-- So far every triangle before i has D > 0, or the answer is no.
use mathlib.Core.Path.{◌≡◌}
use Rattle.theory_lists.specs.Lists.{all, up_to}
use Rattle.spec_plane.specs.Triangle.{proper}
use Rattle.spec_charts.specs.Table.{triangle_at}
use Rattle.chart_rule.proofs.all_proper.Given as goal

abbrev pub invariant-loop-i : goal.invariant-loop-i
invariant-loop-i l = l.ok ≡ all (λ k. proper (triangle_at l.table k)) (up_to l.i)
