-- The triangle that is found is split, and where there is none the insert is refused.
use mathlib.Core.Path.{sym, ◌∙◌, ap}
use Rattle.spec_charts.specs.Table.{triangle_at, table_of}
use Rattle.spec_charts.specs.Edits.{insert_in}
use Rattle.edit_insert.proofs.InsertSteps.{insert-nobody, taken-below, insert-taken}
use Rattle.edit_insert.proofs.insert_table.Goals as goal

-- the triangle that is found
pub insert_in-requires-clause-i_lt_n : goal.insert_in-requires-clause-i_lt_n
insert_in-requires-clause-i_lt_n c = taken-below c.args.table.now c.args.n c.args.p c.in-Some.ensures.0

pub returns-in_default-clause-scratch_after : goal.returns-in_default-clause-scratch_after
returns-in_default-clause-scratch_after c = sym (insert-nobody c.args.table.now c.args.n c.args.p c.in_default.ensures)

pub returns-clause-scratch_after : goal.returns-clause-scratch_after
returns-clause-scratch_after c =
    let a = c.args in
    let found = c.in-Some.ensures in
    let ns = a.table.now in
    let j = c.in-Some.holder.number in
    c.insert_in.ensures.scratch_after
    ∙ ap (λ q. insert_in j (triangle_at ns j) q a.p (table_of ns a.n)) found.1
    ∙ sym (insert-taken ns a.n a.p found.0)
