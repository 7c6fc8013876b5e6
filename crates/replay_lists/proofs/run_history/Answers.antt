use mathlib.Core.Path.{◌∙◌, ap}
use Rattle.spec_calls.specs.History.{event_call, chart_after}
use Rattle.replay_calls.specs.Encoding.{decode}
use Rattle.replay_lists.proofs.run_history.Goals as goal

pub returns-clause-ran : goal.returns-clause-ran
unfolding chart_after event_call
returns-clause-ran c =
    c.run_calls.ensures.ran ∙ ap (λ d. chart_after (decode c.args.calls.now) d.chart) c.load-begun.ensures.loaded
