use borrow.Author.Rules.{rules}
use Rattle.spec_charts.specs.Table.{triangle_at}
use Rattle.base_tables.proofs.triangle_at.Goals as goal

pub returns : goal.returns
unfolding triangle_at
returns c = search rules
