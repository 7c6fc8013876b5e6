-- After each part that was read the reader can go on; each turn reads something.
use Rattle.std.proofs.Common.{length, ◌+◌, ◌≤◌}
use Rattle.log_reader.specs.Reader.{Ready}
use Rattle.overlay_log.proofs.serve_portion.Given as goal

abbrev pub invariant-loop-left : goal.invariant-loop-left
invariant-loop-left g l = record {
  ready : Ready l.kept;
  grown : l.kept.offset + l.kept.count + length l.left ≤ l.initial.kept.offset + l.initial.kept.count + length l.input;
}

abbrev pub decreases-loop-left : goal.decreases-loop-left
decreases-loop-left g l = length l.left
