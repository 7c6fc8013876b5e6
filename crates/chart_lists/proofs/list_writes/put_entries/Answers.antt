-- The three lists hold key, level and item of the entries before i, and else what they held.
use mathlib.Core.Path.{refl}
use native.Mathlib.Omega.{arith}
use lib.ListN.{length}
use Rattle.chart_lists.specs.Columns.{Columns}
use Rattle.chart_lists.proofs.ColumnLaws.{unpacking-next, unpacking-end}
use Rattle.chart_lists.proofs.list_writes.put_entries.Goals as goal

pub loop-i-preserved : goal.loop-i-preserved
loop-i-preserved c =
    let a = c.args in
    let lent : Columns = record { keys = a.keys.now; levels = a.levels.now; items = a.items.now } in
    unpacking-next a.entries.now (length a.entries.now) lent c.loop-i.invariant (omega arith) (omega arith) c.key_of.ensures c.level_of.ensures c.item_of.ensures

pub returns : goal.returns
returns c =
    let a = c.args in
    let lent : Columns = record { keys = a.keys.now; levels = a.levels.now; items = a.items.now } in
    unpacking-end a.entries.now (length a.entries.now) lent c.loop-i.invariant c.loop-i-test.false refl
