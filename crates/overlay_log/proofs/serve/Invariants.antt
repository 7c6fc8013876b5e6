-- The bytes that the offset counts and those that may still come are at most 2^63.
use Rattle.std.proofs.Common.{◌+◌, ◌^◌, ◌≤◌}
use Rattle.log_reader.specs.Reader.{Ready}
use Rattle.overlay_log.proofs.serve.Given as goal

abbrev pub invariant-loop-n : goal.invariant-loop-n
invariant-loop-n g l = record {
  ready : Ready l.kept;
  bound : l.kept.offset + l.kept.count + l.left ≤ 2 ^ 63;
}

abbrev pub decreases-loop-n : goal.decreases-loop-n
decreases-loop-n g l = l.left
