-- With the command and their number before them the waiting numbers are the call that loads them.
use mathlib.Core.Path.{sym, subst}
use mathlib.Core.List.{[]}
use Prim.Native.Nat.{◌+◌}
use native.Mathlib.Omega.{arith}
use lib.ListN.{take, set}
use Rattle.spec_log.specs.Log.{with_waiting}
use Rattle.replay_calls.specs.Encoding.{IsCall}
use Rattle.log_waiting.specs.Waiting.{call_head}
use Rattle.log_edits.proofs.EditLaws.{load-numbers, load-call, charts-emptied, load-ran}
use Rattle.log_edits.proofs.load_command.Goals as goal

pub event_command-requires : goal.event_command-requires
event_command-requires c =
    let few = c.requires.0.few in
    let n = c.args.waits in
    let w = c.args.waiting.now in
    (subst IsCall (sym (load-numbers n w (omega (arith, c.requires.1.0)))) (load-call n w (omega (arith, c.requires.1.0))), c.requires.1.1)

pub returns-clause-ran_load : goal.returns-clause-ran_load
returns-clause-ran_load c =
    let n = c.args.waits in
    let w = c.args.waiting.now in
    -- the numbers of the call
    let is_call = load-numbers n w (omega (arith, c.requires.1.0)) in
    let e = c.event_command.ensures.ran_call in
    λ s h. load-ran n w (take (call_head + n) (set (set w 0 2) 1 n)) is_call s h.waits c.args.c (e (with_waiting [] s) (charts-emptied s h.charts))
