-- After k numbers the first k of the list stand in the output, each after a space.
use Rattle.std.proofs.Common.{take}
use Rattle.spec_log.specs.Log.{spaced}
use Rattle.log_lines.specs.Bytes.{Wrote}
use Rattle.log_lines.proofs.put_spaced.Given as goal

abbrev pub invariant-loop-n : goal.invariant-loop-n
invariant-loop-n l = Wrote (spaced (take l.n-index l.numbers)) l.at l.next l.initial.out l.out
