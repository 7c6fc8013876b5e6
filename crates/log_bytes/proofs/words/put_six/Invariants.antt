-- After k numbers the first k are stored.
use Rattle.std.proofs.Common.{◌+◌, take, drop}
use Rattle.spec_log.specs.Log.{words_of}
use Rattle.log_lines.specs.Bytes.{Wrote}
use Rattle.log_bytes.proofs.words.put_six.Given as goal

abbrev pub invariant-loop-k : goal.invariant-loop-k
invariant-loop-k l = Wrote (take l.k (words_of 6 (drop 1 l.held))) l.at (l.at + l.k) l.initial.numbers l.numbers
