use borrow.Author.Rules.{rules}
use Rattle.quadtree_build.proofs.PackableLaws.{entries-packable}
use Rattle.chart_index.proofs.ListedLaws.{listed_some}
use Rattle.chart_index.proofs.list_within.Goals as goal

pub returns : goal.returns
returns g c =
    listed_some c.in_ok-m.ensures (entries-packable c.args.table.now c.args.n (search rules)) c.put_lists.ensures
