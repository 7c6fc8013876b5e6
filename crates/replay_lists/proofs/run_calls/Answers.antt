use Rattle.std.proofs.Common.{sym, ◌∙◌, ap}
use Rattle.spec_calls.specs.Lent.{viewed_mut}
use Rattle.spec_calls.proofs.SameListsLaws.{same-lists}
use Rattle.replay_lists.proofs.RunLaws.{run-within, run-call, run-rest, run-none}
use Rattle.replay_lists.proofs.run_calls.Goals as goal

pub split_at-requires : goal.split_at-requires
split_at-requires c =
    let is = c.in-Some.ensures in run-within c.loop-size.left.now is.0 is.1

pub run_call-answer-requires : goal.run_call-answer-requires
run_call-answer-requires c =
    let is = c.in-Some.ensures in rw c.split_at.ensures.front (run-call c.loop-size.left.now is.0 is.1)

pub loop-size-preserved : goal.loop-size-preserved
loop-size-preserved c =
    let l = c.loop-size in
    let is = c.in-Some.ensures in
    let called = c.run_call-answer.ensures.called in
    record {
      ran =
          rw c.split_at.ensures.back
          (run-rest l.left.now is.0 is.1 (viewed_mut l.chart) (rw c.split_at.ensures.front at (ap (λ d. d.chart) called)) ∙ l.invariant.ran);
      same_lists = same-lists l.invariant.same_lists c.run_call-answer.ensures.same_lists;
    }

pub returns-clause-ran : goal.returns-clause-ran
returns-clause-ran c =
    let l = c.loop-size in
    sym (run-none l.left.now (viewed_mut l.chart) c.in_default.ensures) ∙ l.invariant.ran
