-- One law of `split_row` for each answer.
use mathlib.Core.Path.{sym, ◌∙◌, ap}
use Rattle.spec_plane.specs.Triangle.{triangle_of}
use Rattle.spec_charts.specs.Refusals.{done}
use Rattle.edit_split.proofs.SplitLaws.{split-full, split-made}
use Rattle.edit_split.proofs.split_row.Goals as goal

pub returns-then-n-gt-MOST_TRIANGLES-clause-scratch_after : goal.returns-then-n-gt-MOST_TRIANGLES-clause-scratch_after
returns-then-n-gt-MOST_TRIANGLES-clause-scratch_after c =
    let a = c.args in
    sym (split-full a.table.now a.n a.i (triangle_of a.t) a.p c.if-n-gt-MOST_TRIANGLES.true)

pub returns-clause-scratch_after : goal.returns-clause-scratch_after
returns-clause-scratch_after c =
    let a = c.args in
    let room = c.if-n-gt-MOST_TRIANGLES.false in
    ap done c.put_split.ensures ∙ sym (split-made a.table.now a.n a.i (triangle_of a.t) a.p room)
