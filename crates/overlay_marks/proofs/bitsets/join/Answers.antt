-- The first i words of the set are joined.
use native.Mathlib.Omega.{arith}
use Rattle.overlay_marks.proofs.BitLaws.{joined-more}
use Rattle.overlay_marks.proofs.bitsets.join.Goals as goal

pub loop-i-preserved : goal.loop-i-preserved
loop-i-preserved c = joined-more c.loop-i.invariant (omega arith)
