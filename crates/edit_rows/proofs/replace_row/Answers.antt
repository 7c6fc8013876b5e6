-- The rows are copied, and one of them is written again.
use native.Mathlib.Omega.{arith}
use Rattle.spec_plane.specs.Triangle.{triangle_of}
use Rattle.edit_rows.proofs.CopyLaws.{row-replaced}
use borrow.Author.Rules.{rules}
use Rattle.edit_rows.proofs.replace_row.Goals as goal

pub returns : goal.returns
returns c =
    let a = c.args in
    row-replaced a.table.now a.scratch.now _ a.n a.i (triangle_of a.x) (search rules) (omega arith) c.append_rows.ensures
    c.put_triangle.ensures
