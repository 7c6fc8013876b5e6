-- One law of `insert_in` for each answer, by the tests that led to it. The corners are those of the table's triangle i.
use mathlib.Core.Path.{◌≡◌, sym, ◌∙◌, ap}
use mathlib.Core.List.{List}
use mathlib.Core.Option.{Option}
use Rattle.spec_plane.specs.declared.Point.{Point}
use Rattle.spec_plane.specs.declared.Position.{Position}
use Rattle.spec_plane.specs.Triangle.{Triangle, triangle_of, corners}
use Rattle.spec_charts.specs.Table.{triangle_at, table_of}
use Rattle.spec_charts.specs.Edits.{side_first, split_row, side_split_row}
use Rattle.edit_rows.proofs.CopyLaws.{triangle-read}
use Rattle.edit_insert.proofs.InsertSteps.{into-inside, into-corner, into-side}
use Rattle.edit_insert.proofs.insert_in.Goals as goal

-- the rotation that is tried is of that triangle
tried : (q : Position) (t : Triangle) {s : List Point} {o : Option Triangle} → s ≡ corners t → side_first q (triangle_of s) ≡ o → side_first q t ≡ o
tried q t read e = sym (ap (side_first q) (triangle-read t read)) ∙ e

pub returns-then-is_inside-clause-scratch_after : goal.returns-then-is_inside-clause-scratch_after
returns-then-is_inside-clause-scratch_after c =
    let a = c.args in
    let table = table_of a.table.now a.n in
    c.split_row.ensures.scratch_after ∙ ap (λ t. split_row a.i t a.p table) (triangle-read _ c.triangle_at-t.ensures)
    ∙ sym (into-inside a.i (triangle_at a.table.now a.i) a.q a.p table (sym c.if-is_inside.ensures))

pub returns-in_default-clause-scratch_after : goal.returns-in_default-clause-scratch_after
returns-in_default-clause-scratch_after c =
    let a = c.args in
    let t = triangle_at a.table.now a.i in
    sym (into-corner a.i t a.q a.p (table_of a.table.now a.n) (sym c.if-is_inside.ensures)
    (tried a.q t c.triangle_at-t.ensures (c.in_default.ensures c.triangle_at-t.result)))

pub returns-clause-scratch_after : goal.returns-clause-scratch_after
returns-clause-scratch_after c =
    let a = c.args in
    let t = triangle_at a.table.now a.i in
    let table = table_of a.table.now a.n in
    c.side_split_row.ensures.scratch_after ∙ ap (λ v. side_split_row a.i (triangle_of v) a.p table) c.rotated.ensures
    ∙ sym (into-side a.i t a.q a.p table (sym c.if-is_inside.ensures)
    (tried a.q t c.triangle_at-t.ensures ((c.in-Some.ensures c.triangle_at-t.result).1)))
