-- The call is made on the chart that c names; the other stays.
use Rattle.std.proofs.Common.{◌≡◌, arith}
use Rattle.spec_calls.specs.Lent.{viewed_mut}
use Rattle.replay_calls.specs.Encoding.{call_event}
use Rattle.log_events.proofs.EventLaws.{first-called, other-called}
use Rattle.log_events.proofs.change.Goals as goal

pub returns-then-c-eq0-clause-called : goal.returns-then-c-eq0-clause-called
returns-then-c-eq0-clause-called c =
    let a = c.args in
    first-called a.c (call_event a.call.now) (viewed_mut a.charts.now.first) (viewed_mut a.charts.now.second) (omega arith) c.run_call.ensures.called

pub returns-else-c-eq0-clause-called : goal.returns-else-c-eq0-clause-called
returns-else-c-eq0-clause-called c =
    let a = c.args in
    let not-0 : a.c ≡ 0 → ⊥ = omega arith in
    other-called a.c (call_event a.call.now) (viewed_mut a.charts.now.first) (viewed_mut a.charts.now.second) not-0 c.run_call-else-c-eq0.ensures.called
