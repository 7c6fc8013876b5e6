use Rattle.spec_calls.specs.Lent.{viewed}
use Rattle.laws_calls.proofs.BufferLaws.{long-enough, rule-joined}
use Rattle.chart_rule.proofs.chain_rule.Goals as goal

pub table_rule-requires : goal.table_rule-requires
table_rule-requires c = (long-enough (viewed c.args.chart) c.requires).table

pub entries_rule-requires : goal.entries_rule-requires
entries_rule-requires c = (long-enough (viewed c.args.chart) c.requires).lists

pub returns : goal.returns
returns c = rule-joined (viewed c.args.chart) c.table_rule.ensures c.entries_rule.ensures
