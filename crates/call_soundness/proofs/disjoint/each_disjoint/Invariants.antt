-- Triangle i has a common interior point with none of the first k.
use mathlib.Core.Path.{◌≡◌}
use mathlib.Core.Bool.{true}
use Rattle.theory_lists.specs.Lists.{all, up_to}
use Rattle.spec_charts.specs.Table.{triangle_at}
use Rattle.base_interiors.specs.Differences.{Handed}
use Rattle.laws_charts.proofs.SoundLaws.{triangles_disjoint}
use Rattle.call_soundness.proofs.disjoint.each_disjoint.Given as goal

abbrev pub invariant-loop-k : goal.invariant-loop-k
invariant-loop-k l =
    (all (λ n. triangles_disjoint l.table l.i n) (up_to l.k) ≡ true) × Handed (triangle_at l.table l.i) l.sides
