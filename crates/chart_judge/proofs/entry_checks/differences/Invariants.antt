-- The loop keeps that what was found so far is 0 where each entry passed is the same, place by place.
use mathlib.Core.Path.{◌≡◌}
use lib.Dec.{eqb}
use Rattle.chart_judge.specs.Places.{same_places}
use Rattle.chart_judge.proofs.entry_checks.differences.Given as goal

abbrev pub invariant-loop-i : goal.invariant-loop-i
invariant-loop-i l = eqb l.found 0 ≡ same_places l.entries l.keys l.levels l.items l.i
