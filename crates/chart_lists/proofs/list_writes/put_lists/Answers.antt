use borrow.Author.Rules.{rules}
use Rattle.chart_lists.specs.Columns.{Columns}
use Rattle.chart_lists.proofs.ColumnLaws.{filled}
use Rattle.chart_lists.proofs.list_writes.put_lists.Goals as goal

pub returns : goal.returns
returns c =
    let a = c.args in
    let lent : Columns = record { keys = a.keys.now; levels = a.levels.now; items = a.items.now } in
    filled a.entries.now a.n lent (search rules) (search rules) (search rules) c.put_entries.ensures c.zero_lists.ensures
