use mathlib.Core.Path.{◌∙◌, ap}
use Rattle.spec_charts.specs.Table.{triangle_at}
use Rattle.spec_charts.specs.Edits.{ending_in}
use Rattle.edit_rows.proofs.CopyLaws.{triangle-read}
use Rattle.edit_star.proofs.row_ending_in.Goals as goal

pub returns : goal.returns
returns c =
    let a = c.args in
    c.ending_in.ensures ∙ ap (ending_in a.p) (triangle-read (triangle_at a.table.now a.i) c.triangle_at.ensures)
