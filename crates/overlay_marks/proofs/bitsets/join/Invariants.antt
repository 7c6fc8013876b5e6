-- The first i words of the set are joined.
use Rattle.overlay_marks.specs.Bits.{Joined}
use Rattle.overlay_marks.proofs.bitsets.join.Given as goal

abbrev pub invariant-loop-i : goal.invariant-loop-i
invariant-loop-i l = Joined l.initial.words l.at l.set l.i l.words
