use native.Mathlib.Omega.{arith}
use Rattle.laws_calls.proofs.BufferLaws.{table-many, table-ruled}
use Rattle.chart_rule.proofs.table_rule.Goals as goal

pub returns-then-triangles-gt-MOST_TRIANGLES : goal.returns-then-triangles-gt-MOST_TRIANGLES
returns-then-triangles-gt-MOST_TRIANGLES c =
    let a = c.args in table-many a.table.now a.triangles (omega arith)

pub returns : goal.returns
returns c =
    let a = c.args in
    table-ruled a.table.now a.triangles (omega arith) c.all_proper.ensures
