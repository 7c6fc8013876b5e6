-- The call, then its line.
use Rattle.std.proofs.Common.{get_or}
use Rattle.replay_calls.specs.Encoding.{call_event}
use Rattle.log_events.proofs.EventLaws.{event-ran}
use Rattle.log_events.proofs.event_command.Goals as goal

pub returns-clause-ran_call : goal.returns-clause-ran_call
returns-clause-ran_call c =
    let a = c.args in
    event-ran (get_or a.call.now 0 0) a.c (call_event a.call.now) c.change-answer.ensures.called c.entry_count-entries.ensures c.put_told.ensures
