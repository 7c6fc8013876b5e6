use Rattle.std.proofs.Common.{arith, sym, ◌∙◌}
use Rattle.replay_calls.proofs.EncodingLaws.{whole-fits, whole-cut, whole-short, whole_none}
use Rattle.replay_calls.proofs.whole_call.Goals as goal

pub returns-in_default : goal.returns-in_default
returns-in_default c = sym (whole-short c.args.calls.now (omega arith))

pub returns-in_err-size : goal.returns-in_err-size
returns-in_err-size c =
    rw c.from_residual.ensures (whole_none c.args.calls.now c.in_err-size.ensures)

pub returns-then-size-calls : goal.returns-then-size-calls
returns-then-size-calls c =
    let e = c.in_ok-size.ensures in (e.0, e.1 ∙ whole-fits c.args.calls.now (omega (arith, e.1)))

pub returns-else-size-calls : goal.returns-else-size-calls
returns-else-size-calls c =
    sym (whole-cut c.args.calls.now (omega (arith, c.in_ok-size.ensures.1)))
