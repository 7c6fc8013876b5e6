-- After k pairs their lines stand in the output, of at most twelve bytes each.
use Rattle.std.proofs.Common.{◌+◌, ◌*◌, ◌≤◌}
use Rattle.log_lines.specs.Bytes.{Wrote, pair_lines, pair_bytes}
use Rattle.log_lines.proofs.put_pairs.Given as goal

abbrev pub invariant-loop-k : goal.invariant-loop-k
invariant-loop-k l =
    (l.next ≤ l.at + pair_bytes * l.k) × Wrote (pair_lines l.pairs l.k) l.at l.next l.initial.out l.out
