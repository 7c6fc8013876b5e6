-- Each edit's own function answers what its event proposes.
use mathlib.Core.Path.{sym, ◌∙◌, ap}
use mathlib.Core.List.{List}
use Prim.Native.Nat.{ℕ}
use Rattle.spec_charts.specs.Table.{table_of}
use Rattle.spec_charts.specs.Refusals.{Outcome}
use Rattle.spec_charts.specs.Table.{Table}
use Rattle.spec_charts.specs.Edits.{proposed}
use Rattle.edit_steps.specs.declared.Edit.{Edit}
use Rattle.edit_steps.specs.Edit.{event_of}
use Rattle.edit_steps.proofs.edit_table.Goals as goal

-- what an edit proposes for the table given
abbrev proposal : List ℕ → ℕ → Edit → Outcome Table
proposal ns n e = proposed (event_of e) (table_of ns n)

pub returns-in-Insert-clause-scratch_after : goal.returns-in-Insert-clause-scratch_after
unfolding proposed
returns-in-Insert-clause-scratch_after c =
    c.insert_table.ensures.scratch_after ∙ ap (proposal c.args.table.now c.args.n) (sym c.in-Insert.is)

pub returns-in-TakeOut-clause-scratch_after : goal.returns-in-TakeOut-clause-scratch_after
unfolding proposed
returns-in-TakeOut-clause-scratch_after c =
    c.take_out_table.ensures.scratch_after ∙ ap (proposal c.args.table.now c.args.n) (sym c.in-TakeOut.is)

pub returns-in-Flip-clause-scratch_after : goal.returns-in-Flip-clause-scratch_after
unfolding proposed
returns-in-Flip-clause-scratch_after c =
    c.flip_table.ensures.scratch_after ∙ ap (proposal c.args.table.now c.args.n) (sym c.in-Flip.is)
