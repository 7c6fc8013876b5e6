-- One law of `side_split_row` for each answer, by whether there is a neighbour and whether the table is full.
use mathlib.Core.Path.{sym, ◌∙◌, ap}
use native.Mathlib.Omega.{arith}
use Rattle.spec_plane.specs.Triangle.{triangle_of}
use Rattle.spec_charts.specs.Refusals.{done}
use Rattle.edit_side_split.proofs.SideSplitSteps.{neighbour-below, alone-full, alone-made, both-full, both-made}
use Rattle.edit_side_split.proofs.side_split_row.Goals as goal

pub returns-then-n-gt-MOST_TRIANGLES-clause-scratch_after : goal.returns-then-n-gt-MOST_TRIANGLES-clause-scratch_after
returns-then-n-gt-MOST_TRIANGLES-clause-scratch_after c =
    let a = c.args in
    sym (alone-full a.table.now a.n a.i (triangle_of a.t) a.p (sym c.in-None.ensures) c.if-n-gt-MOST_TRIANGLES.true)

pub returns-then-n-gt-MOST_TRIANGLES-2-clause-scratch_after : goal.returns-then-n-gt-MOST_TRIANGLES-2-clause-scratch_after
returns-then-n-gt-MOST_TRIANGLES-2-clause-scratch_after c =
    let a = c.args in
    sym (both-full a.table.now a.n a.i (triangle_of a.t) a.p (sym c.in-Some.ensures) c.if-n-gt-MOST_TRIANGLES-2.true)

-- what is found is one of the table
pub put_both-requires-clause-j_lt_n : goal.put_both-requires-clause-j_lt_n
put_both-requires-clause-j_lt_n c =
    neighbour-below c.args.table.now c.args.n c.args.i (triangle_of c.args.t) c.args.p (sym c.in-Some.ensures)

pub returns-else-n-gt-MOST_TRIANGLES-clause-scratch_after : goal.returns-else-n-gt-MOST_TRIANGLES-clause-scratch_after
returns-else-n-gt-MOST_TRIANGLES-clause-scratch_after c =
    let a = c.args in
    ap done c.put_split.ensures
    ∙ sym (alone-made a.table.now a.n a.i (triangle_of a.t) a.p (sym c.in-None.ensures) (omega (arith, c.if-n-gt-MOST_TRIANGLES.false)))

pub returns-else-n-gt-MOST_TRIANGLES-2-clause-scratch_after : goal.returns-else-n-gt-MOST_TRIANGLES-2-clause-scratch_after
returns-else-n-gt-MOST_TRIANGLES-2-clause-scratch_after c =
    let a = c.args in
    ap done c.put_both.ensures
    ∙ sym (both-made a.table.now a.n a.i (triangle_of a.t) a.p (sym c.in-Some.ensures) (omega (arith, c.if-n-gt-MOST_TRIANGLES-2.false)))
