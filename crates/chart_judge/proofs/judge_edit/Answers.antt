-- Refusals 1 and 2 are what `judge` finds; where it finds none, comparing the entries decides 3.
use mathlib.Core.Path.{sym, ◌∙◌}
use mathlib.Core.Bool.{not}
use Rattle.std.proofs.lemmas.Result.{err_from_is_err_and}
use Rattle.spec_charts.specs.declared.Refusal.TheVariants.{StaleEntries}
use Rattle.spec_charts.specs.Refusals.{done, refuse_if}
use Rattle.spec_calls.specs.Buffers.{chart_table, chart_entries, indexed}
use Rattle.spec_calls.specs.Calls.{if_indexed}
use Rattle.spec_calls.specs.Lent.{viewed}
use Rattle.laws_calls.proofs.BufferLaws.{ruled, rule-drawn, searchable}
use Rattle.laws_calls.proofs.JudgeLaws.{chained-passed, chained_refused, indexed-passes, judged-stale}
use Rattle.chart_judge.proofs.judge_edit.Goals as goal

pub returns-in_err-judge : goal.returns-in_err-judge
unfolding if_indexed
returns-in_err-judge c =
    let chart = viewed c.args.chart in
    let p = err_from_is_err_and c.from_residual.result c.from_residual.ensures.1 in
    rw (p.1, p.2) (chained_refused chart (refuse_if (not (indexed chart)) StaleEntries (done tt)) c.in_err-judge.ensures)

pub entries_match-requires : goal.entries_match-requires
entries_match-requires c =
    let chart = viewed c.args.chart in
    let fine = chained-passed chart c.in_ok-judge.ensures in
    record { drawn = rule-drawn chart fine.0 fine.1; few = ((ruled chart fine.1).entries, (searchable chart fine.0 fine.1).0) }

pub returns-then-entries_match : goal.returns-then-entries_match
unfolding indexed chart_table chart_entries
returns-then-entries_match c =
    let chart = viewed c.args.chart in
    let fine = chained-passed chart c.in_ok-judge.ensures in
    sym (indexed-passes chart (done tt) fine.0 fine.1 (sym c.entries_match.ensures ∙ c.if-entries_match.true))

pub returns-else-entries_match : goal.returns-else-entries_match
unfolding indexed chart_table chart_entries
returns-else-entries_match c =
    let chart = viewed c.args.chart in
    let fine = chained-passed chart c.in_ok-judge.ensures in
    sym (judged-stale chart (done tt) fine.0 fine.1 (sym c.entries_match.ensures ∙ c.if-entries_match.false))
