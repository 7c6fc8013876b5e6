-- Triangle i has a common interior point with none of the first k listed.
use mathlib.Core.Path.{◌≡◌}
use mathlib.Core.Bool.{true}
use lib.ListN.{get_or}
use Rattle.theory_lists.specs.Lists.{all, up_to}
use Rattle.spec_charts.specs.Table.{triangle_at}
use Rattle.base_interiors.specs.Differences.{Handed}
use Rattle.laws_charts.proofs.SoundLaws.{triangles_disjoint}
use Rattle.call_soundness.proofs.disjoint.near_disjoint.Given as goal

abbrev pub invariant-loop-j : goal.invariant-loop-j
invariant-loop-j l =
    (all (λ n. triangles_disjoint l.table l.i (get_or l.near n 0)) (up_to l.j-index) ≡ true) × Handed (triangle_at l.table l.i) l.sides
