-- After `used` bytes what they print stands in the output, and the reader keeps the reading after them.
use Rattle.spec_calls.specs.Lent.{viewed_mut}
use Rattle.log_events.specs.Both.{SameBoth}
use Rattle.log_reader.proofs.ReadLaws.{Read}
use Rattle.log_reader.proofs.read_portion.Given as goal

abbrev pub invariant-loop-used : goal.invariant-loop-used
invariant-loop-used l = record {
  read : Read l.input l.initial.kept (viewed_mut l.initial.charts.first) (viewed_mut l.initial.charts.second) l.initial.waiting l.initial.out l.kept
      (viewed_mut l.charts.first) (viewed_mut l.charts.second) l.waiting l.out l.used l.at;
  same_lists : SameBoth l.initial.charts l.charts;
}
