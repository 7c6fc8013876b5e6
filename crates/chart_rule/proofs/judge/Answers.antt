use mathlib.Core.Path.{sym, ◌∙◌}
use Rattle.spec_charts.specs.Refusals.{done}
use Rattle.spec_calls.specs.Lent.{viewed}
use Rattle.laws_calls.proofs.JudgeLaws.{judged-short, judged-broken, chained-passes}
use Rattle.chart_rule.proofs.judge.Goals as goal

pub returns-then-too_short : goal.returns-then-too_short
returns-then-too_short c =
    sym (judged-short (viewed c.args.chart) (done tt) (sym c.too_short.ensures ∙ c.if-too_short.true))

pub chain_rule-requires : goal.chain_rule-requires
chain_rule-requires c = sym c.too_short.ensures ∙ c.if-too_short.false

pub returns-then-not-chain_rule : goal.returns-then-not-chain_rule
returns-then-not-chain_rule c =
    let long = sym c.too_short.ensures ∙ c.if-too_short.false in
    sym (judged-broken (viewed c.args.chart) (done tt) long (sym c.chain_rule.ensures ∙ c.if-not-chain_rule.true))

pub returns : goal.returns
returns c =
    let long = sym c.too_short.ensures ∙ c.if-too_short.false in
    sym (chained-passes (viewed c.args.chart) (done tt) long (sym c.chain_rule.ensures ∙ c.if-not-chain_rule.false))
