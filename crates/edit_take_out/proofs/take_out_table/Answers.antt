-- Where there are three triangles around the point they are merged, else the take-out is refused.
use mathlib.Core.Path.{sym, ◌∙◌}
use native.Mathlib.Omega.{arith}
use Rattle.spec_charts.specs.Table.{table_of}
use Rattle.spec_charts.specs.Edits.{merge_three}
use Rattle.edit_take_out.proofs.TakeOutSteps.{around-refused, around-three, row-ending}
use Rattle.edit_take_out.proofs.take_out_table.Goals as goal

pub returns-in_default-clause-scratch_after : goal.returns-in_default-clause-scratch_after
returns-in_default-clause-scratch_after c =
    sym (around-refused c.args.p (table_of c.args.table.now c.args.n) c.in_default.ensures)

pub returns-clause-scratch_after : goal.returns-clause-scratch_after
returns-clause-scratch_after c =
    let a = c.args in
    let at = c.in-Some.at in
    let places = c.in-Some.ensures.0 in
    let s = row-ending a.table.now a.n at.first a.p (omega arith) c.row_ending_in-s.ensures in
    let u = row-ending a.table.now a.n at.second a.p (omega arith) c.row_ending_in-u.ensures in
    let v = row-ending a.table.now a.n at.third a.p (omega arith) c.row_ending_in-v.ensures in
    c.merge_three.ensures.scratch_after
    ∙ (λ q. merge_three (table_of a.table.now a.n) at.first at.second at.third (s q) (u q) (v q))
    ∙ sym (around-three a.p (table_of a.table.now a.n) c.in-Some.ensures.1)
