-- No listed triangle so far holds the point, so the first of the rest is the first of all.
use mathlib.Core.Path.{◌≡◌}
use lib.ListN.{drop}
use Rattle.theory_lists.specs.Lists.{first}
use Rattle.spec_plane.specs.Triangle.{holds}
use Rattle.spec_charts.specs.Table.{triangle_at}
use Rattle.call_locate.proofs.first_holding.Given as goal

abbrev pub invariant-loop-k : goal.invariant-loop-k
invariant-loop-k l =
    first (λ i. holds (triangle_at l.table i) l.p) l.list ≡ first (λ i. holds (triangle_at l.table i) l.p) (drop l.k l.list)
