-- What is made is stored, which answers 11 or 0; a refusal is answered with lists and counts as they were.
use mathlib.Core.Path.{sym, ◌∙◌, ap, subst}
use mathlib.Core.List.{List}
use Prim.Native.Nat.{ℕ}
use Rattle.std.specs.Prelude.{Result}
use Rattle.spec_charts.specs.Table.{Drawn}
use Rattle.spec_charts.specs.declared.Refusal.{Refusal}
use Rattle.spec_charts.specs.Refusals.{and_then}
use Rattle.spec_charts.specs.Edits.{within_limit}
use Rattle.spec_calls.specs.Buffers.{Chart}
use Rattle.spec_calls.specs.Lent.{viewed_mut}
use Rattle.spec_calls.specs.Calls.{changed_by, Changed}
use Rattle.edit_rows.specs.Edited.{edited_outcome, edited_count}
use Rattle.edit_steps.proofs.finish.Goals as goal

-- what the call answers, by how the edit went
abbrev answer : Chart → List ℕ → Result ℕ Refusal → Changed
answer chart ns e =
    changed_by chart (and_then (edited_outcome e ns) (λ t. within_limit t))

pub store-requires-clause-drawn : goal.store-requires-clause-drawn
store-requires-clause-drawn c = subst (λ e. Drawn c.args.scratch.now (edited_count e)) c.in-Ok.is c.requires.drawn

pub returns-in-Ok-clause-finished : goal.returns-in-Ok-clause-finished
unfolding and_then
returns-in-Ok-clause-finished c =
    c.store.ensures.stored ∙ ap (answer (viewed_mut c.args.chart.now) c.args.scratch.now) (sym c.in-Ok.is)

pub returns-in-Err-clause-finished : goal.returns-in-Err-clause-finished
unfolding and_then changed_by
returns-in-Err-clause-finished c = ap (answer (viewed_mut c.args.chart.now) c.args.scratch.now) (sym c.in-Err.is)
