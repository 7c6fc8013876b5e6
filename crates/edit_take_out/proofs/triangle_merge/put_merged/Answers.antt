-- Three runs of rows, one behind the other, leave out rows j and k; then row i is written.
use native.Mathlib.Omega.{arith}
use Rattle.spec_plane.specs.Triangle.{triangle_of}
use Rattle.edit_take_out.specs.Places.{Ascending}
use Rattle.edit_take_out.proofs.MergeRows.{merged-rows}
use borrow.Author.Rules.{rules}
use Rattle.edit_take_out.proofs.triangle_merge.put_merged.Goals as goal

pub returns : goal.returns
returns c =
    let a = c.args in
    let places : Ascending a.at.first a.at.second a.at.third a.n = search rules in
    merged-rows a.table.now a.scratch.now _ _ _ a.n a.at.first a.at.second a.at.third (triangle_of a.merged) places (omega arith)
    c.append_rows.ensures c.append_rows-2.ensures c.append_rows-3.ensures
    c.put_triangle.ensures
