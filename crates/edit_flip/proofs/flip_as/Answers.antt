-- One law of `flip_as` for each answer, by whether both new triangles have D > 0.
use mathlib.Core.Path.{sym, ◌∙◌, ap, ap₂}
use mathlib.Core.Bool.{◌&&◌}
use native.Mathlib.Omega.{arith}
use Rattle.spec_plane.specs.Triangle.{triangle_of, corner_at}
use Rattle.spec_charts.specs.Table.{table_of}
use Rattle.spec_charts.specs.Refusals.{done}
use Rattle.spec_charts.specs.Edits.{triangle}
use Rattle.edit_flip.proofs.FlipSteps.{as-refused, as-made, second-row}
use borrow.Author.Rules.{rules}
use Rattle.edit_flip.proofs.flip_as.Goals as goal

pub returns-then-not-is_proper-clause-scratch_after : goal.returns-then-not-is_proper-clause-scratch_after
unfolding triangle triangle_of corner_at
returns-then-not-is_proper-clause-scratch_after c =
    let a = c.args in
    let both = ap₂ ◌&&◌ c.is_proper.ensures c.is_proper-2.ensures in sym (as-refused (table_of a.table.now a.n) a.i a.j (triangle_of a.s) (triangle_of a.u)
    (sym both ∙ c.if-not-is_proper.true))

pub returns-clause-scratch_after : goal.returns-clause-scratch_after
unfolding triangle triangle_of corner_at
returns-clause-scratch_after c =
    let a = c.args in
    let s = a.s in
    let u = a.u in
    let both = ap₂ ◌&&◌ c.is_proper.ensures c.is_proper-2.ensures in
    let rows = second-row _ a.n a.j (triangle (corner_at u 2) (corner_at s 1) (corner_at s 2))
    (search rules) (omega arith) c.replace_row.ensures c.put_triangle.ensures in ap done rows
    ∙ sym (as-made (table_of a.table.now a.n) a.i a.j (triangle_of s) (triangle_of u)
    (sym both ∙ c.if-not-is_proper.false))
