-- Row after row: the pairs of the rows before row i are written.
use mathlib.Core.Path.{refl, ◌∙◌}
use native.Mathlib.Omega.{arith}
use Rattle.laws_charts.proofs.ProperLaws.{proper-at}
use Rattle.overlay_pairs.proofs.PairLaws.{rows_none, rows_more, rows-over}
use Rattle.overlay_pairs.proofs.pair_rows.put_rows.Goals as goal

pub loop-i-init : goal.loop-i-init
loop-i-init c =
    let a = c.args in
    record { kept = refl; wrote = rows_none a.first.now a.second.now a.marked.triangles a.marked.rows.now a.pairs.now }

pub put_row-requires-clause-triangle_in : goal.put_row-requires-clause-triangle_in
put_row-requires-clause-triangle_in c =
    let a = c.args in
    let drawn = c.requires.drawn in (
      record { few = omega (arith, drawn.few); room = omega (arith, drawn.room) },
      proper-at a.first.now a.first_triangles c.loop-i.i drawn.oriented (omega arith),
    )

pub loop-i-preserved : goal.loop-i-preserved
loop-i-preserved c =
    let a = c.args in
    let l = c.loop-i in
    let row = c.in_ok-found.ensures in
    record {
      kept = row.kept ∙ l.invariant.kept;
      wrote = rows_more a.first.now a.second.now a.marked.triangles a.marked.rows.now l.i l.invariant.wrote row.wrote;
    }

pub returns-in_err-found : goal.returns-in_err-found
returns-in_err-found c =
    let a = c.args in
    let l = c.loop-i in
    rw c.from_residual.ensures
    (rows-over a.first.now a.second.now a.marked.triangles a.marked.rows.now l.i l.invariant.wrote a.first_triangles (omega arith) c.in_err-found.ensures.wrote)
