-- The place of the triangle is written with the first part, and the second is appended.
use Rattle.spec_plane.specs.Triangle.{triangle_of, corner_at}
use Rattle.spec_charts.specs.Edits.{triangle, side_split_at}
use Rattle.edit_side_split.proofs.SideSplitSteps.{row-split}
use borrow.Author.Rules.{rules}
use Rattle.edit_side_split.proofs.row_split.split_row.Goals as goal

pub returns : goal.returns
unfolding side_split_at triangle triangle_of corner_at
returns c =
    let a = c.args in
    let t = a.t in
    row-split a.rows.now a.n a.i (triangle (corner_at t 0) a.p (corner_at t 2)) (triangle a.p (corner_at t 1) (corner_at t 2))
    (search rules) (search rules) c.put_triangle.ensures c.put_triangle-2.ensures
