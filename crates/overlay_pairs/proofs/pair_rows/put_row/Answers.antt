-- The pairs with the row's candidates are all its pairs.
use native.Mathlib.Omega.{arith}
use Rattle.overlay_pairs.proofs.PairLaws.{near-triangles, row_wrote}
use Rattle.overlay_pairs.proofs.pair_rows.put_row.Goals as goal

pub put_near-requires-clause-triangle_in : goal.put_near-requires-clause-triangle_in
put_near-requires-clause-triangle_in c =
    let a = c.args in
    let second = c.requires.second_table in
    let found = c.collect_row-d.ensures in (
      c.requires.triangle_in.0,
      near-triangles a.first.now a.marked.rows.now a.i c.requires.triangle_in.1 c.triangle_box-b.ensures second.boxed second.few found.near
          (omega (arith, found.near.few, found.kept, second.places.room)),
    )

pub returns : goal.returns
returns c =
    let a = c.args in
    let second = c.requires.second_table in
    let found = c.collect_row-d.ensures in
    record {
      wrote =
          row_wrote a.first.now a.marked.rows.now a.i c.requires.triangle_in.1 c.triangle_box-b.ensures second.boxed second.few found.near
          (omega (arith, found.near.few, found.kept, second.places.room)) c.put_near.ensures;
      kept = found.kept;
    }
