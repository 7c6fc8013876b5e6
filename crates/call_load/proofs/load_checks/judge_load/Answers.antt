use mathlib.Core.Path.{sym, ◌∙◌}
use Rattle.spec_charts.specs.Refusals.{refuse_if}
use Rattle.spec_calls.specs.Calls.{if_long}
use Rattle.call_load.proofs.load_checks.judge_load.Goals as goal

pub returns-then-too_short : goal.returns-then-too_short
unfolding if_long refuse_if
returns-then-too_short c = rw (sym c.too_short.ensures ∙ c.if-too_short.true)

pub returns : goal.returns
unfolding if_long refuse_if
returns c = rw (sym c.too_short.ensures ∙ c.if-too_short.false) c.judge_given.ensures
