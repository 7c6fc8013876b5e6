-- The first i triangles are disjoint from those before them.
use mathlib.Core.Path.{◌≡◌}
use mathlib.Core.Bool.{true}
use lib.ListN.{length}
use Rattle.theory_lists.specs.Lists.{all, up_to}
use Rattle.laws_charts.proofs.SoundLaws.{triangles_disjoint}
use Rattle.call_soundness.proofs.disjoint.pairs_disjoint.Given as goal

abbrev pub invariant-loop-i : goal.invariant-loop-i
invariant-loop-i l =
    (length l.near ≡ length l.initial.near) × (all (λ k. all (λ j. triangles_disjoint l.table k j) (up_to k)) (up_to l.i) ≡ true)
