-- Call after call: what is left of the list makes of the chart what the whole list makes of the chart at first.
use Rattle.std.proofs.Common.{◌≡◌, length}
use Rattle.spec_calls.specs.Lent.{viewed_mut, SameLists}
use Rattle.spec_calls.specs.History.{chart_after}
use Rattle.replay_calls.specs.Encoding.{decode}
use Rattle.replay_lists.proofs.run_calls.Given as goal

abbrev pub invariant-loop-size : goal.invariant-loop-size
invariant-loop-size l = record {
  ran : chart_after (decode l.left) (viewed_mut l.chart) ≡ chart_after (decode l.calls) (viewed_mut l.initial.chart);
  same_lists : SameLists l.initial.chart l.chart;
}

abbrev pub decreases-loop-size : goal.decreases-loop-size
decreases-loop-size l = length l.left
