-- The rows are copied, and one of them is split.
use mathlib.Core.Path.{◌∙◌, ap}
use Rattle.spec_plane.specs.Triangle.{triangle_of}
use Rattle.spec_charts.specs.Edits.{side_split_at}
use Rattle.edit_rows.proofs.CopyLaws.{whole_copy}
use Rattle.edit_side_split.proofs.row_split.put_split.Goals as goal

pub returns : goal.returns
returns c =
    let a = c.args in
    c.split_row.ensures
    ∙ ap (λ l. side_split_at l a.i (triangle_of a.t) a.p) (whole_copy a.table.now a.scratch.now _ a.n c.append_rows.ensures)
