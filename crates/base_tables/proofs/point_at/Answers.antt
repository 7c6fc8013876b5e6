use Rattle.spec_charts.specs.Table.{point_at}
use borrow.Author.Rules.{rules}
use Rattle.base_tables.proofs.point_at.Goals as goal

pub returns : goal.returns
unfolding point_at
returns c =
    search rules
