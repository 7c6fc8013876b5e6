use native.Mathlib.Omega.{arith}
use Rattle.spec_calls.specs.Lent.{viewed}
use Rattle.laws_calls.proofs.BufferLaws.{entries-many, entries-chained}
use Rattle.chart_rule.proofs.entries_rule.Goals as goal

pub returns-then-chart-gt-MOST_ENTRIES : goal.returns-then-chart-gt-MOST_ENTRIES
returns-then-chart-gt-MOST_ENTRIES c = entries-many (viewed c.args.chart) (omega arith)

pub returns : goal.returns
returns c = entries-chained (viewed c.args.chart) (omega arith) c.chain_holds.ensures
