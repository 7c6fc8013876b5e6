-- Judged, made, stored: one proof for every edit, since `event_of` says which event it is.
use mathlib.Core.Path.{◌≡◌, sym, ◌∙◌, ap, subst}
use mathlib.Core.Bool.{true, false}
use Rattle.std.proofs.lemmas.Result.{err_from_is_err_and}
use native.Mathlib.Omega.{arith}
use Rattle.spec_charts.specs.Refusals.{Outcome, done, and_then}
use Rattle.spec_charts.specs.Edits.{within_limit}
use Rattle.laws_charts.proofs.CountedLaws.{event-limited}
use Rattle.spec_calls.specs.Buffers.{Chart, chart_table, too_short, chain_rule}
use Rattle.spec_calls.specs.Calls.{changed_by, if_indexed, edit_call}
use Rattle.spec_calls.specs.Lent.{viewed, viewed_mut}
use Rattle.laws_calls.proofs.BufferLaws.{rule-drawn}
use Rattle.laws_calls.proofs.JudgeLaws.{indexed-passed}
use Rattle.laws_calls.proofs.EditCalls.{edit-judged, edit-refused}
use Rattle.edit_rows.specs.Edited.{edited_outcome}
use Rattle.edit_steps.specs.Edit.{event_of}
use Rattle.edit_steps.proofs.MadeLaws.{made-drawn}
use Rattle.call_edits.proofs.chart_edit.edit_chart.Goals as goal

-- a chart that nothing is against is long enough and holds to the chain rule
fine : (chart : Chart) → done (tt {0}) ≡ if_indexed chart (done tt) → (too_short chart ≡ false) × (chain_rule chart ≡ true)
fine chart judged =
    let p = indexed-passed chart judged in (p.0, p.1.0)

-- refusals 1, 2 and 3 by themselves
abbrev judged : Chart → Outcome (Unit {0})
judged chart = if_indexed chart (done tt)

pub returns-in_err-judge_edit-clause-edited : goal.returns-in_err-judge_edit-clause-edited
unfolding changed_by
returns-in_err-judge_edit-clause-edited c =
    let p = err_from_is_err_and c.from_residual.result c.from_residual.ensures.1 in
    rw (p.1, p.2) (edit-refused (viewed_mut c.args.chart.now) (event_of c.args.edit) (c.in_err-judge_edit.ensures ∙ ap judged c.view-before.ensures))

pub edit_table-made-requires : goal.edit_table-made-requires
edit_table-made-requires c =
    let chart = viewed c.view-before.result in
    let long = fine chart c.in_ok-judge_edit.ensures in
    let h = rule-drawn chart long.0 long.1 in
    record { few = h.few; room = h.room; scratch = omega arith }

pub finish-requires-clause-drawn : goal.finish-requires-clause-drawn
finish-requires-clause-drawn c =
    let chart = viewed c.view-before.result in
    let long = fine chart c.in_ok-judge_edit.ensures in
    let made = c.edit_table-made in
    made-drawn (rule-drawn chart long.0 long.1) (event_of c.args.edit) made.result _ (omega arith) made.ensures.scratch_after made.ensures.result_bound

pub finish-requires-clause-long : goal.finish-requires-clause-long
finish-requires-clause-long c =
    (fine (viewed_mut c.args.chart.now) (c.in_ok-judge_edit.ensures ∙ ap judged c.view-before.ensures)).0

pub returns-clause-edited : goal.returns-clause-edited
unfolding chart_table
returns-clause-edited c =
    let chart = viewed c.view-before.result in
    let e = event_of c.args.edit in
    let next = and_then (edited_outcome c.edit_table-made.result c.edit_table-made.new.scratch) (λ t. within_limit t) in
    let edited : changed_by chart next ≡ edit_call e chart =
    ap (changed_by chart) (ap (λ o. and_then o (λ t. within_limit t)) c.edit_table-made.ensures.scratch_after ∙ sym (event-limited e (chart_table chart)))
    ∙ edit-judged chart e c.in_ok-judge_edit.ensures
    in
    c.finish.ensures.finished ∙ subst (λ k. changed_by k next ≡ edit_call e k) c.view-before.ensures edited
