-- The place of the triangle is written with the first part, and the other two are appended.
use native.Mathlib.Omega.{arith}
use Rattle.spec_plane.specs.Triangle.{triangle_of, corner_at}
use Rattle.spec_charts.specs.Edits.{triangle, split_at}
use Rattle.edit_split.proofs.SplitLaws.{two-appended}
use Rattle.edit_split.proofs.triangle_split.put_split.Goals as goal

pub returns : goal.returns
unfolding split_at triangle triangle_of corner_at
returns c =
    let a = c.args in
    let s = a.s in
    two-appended _ a.n
    (triangle (corner_at s 1) (corner_at s 2) a.p) (triangle (corner_at s 2) (corner_at s 0) a.p) (omega arith)
    c.replace_row.ensures c.put_triangle.ensures c.put_triangle-2.ensures
