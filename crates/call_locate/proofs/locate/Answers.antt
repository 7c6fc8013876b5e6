use mathlib.Core.Path.{◌≡◌}
use Rattle.std.proofs.lemmas.Result.{err_from_is_err_and}
use Rattle.spec_charts.specs.Reading.{listing}
use Rattle.spec_calls.specs.Buffers.{chart_entries}
use Rattle.laws_calls.proofs.JudgeLaws.{chained-passed}
use Rattle.laws_calls.proofs.ReaderLaws.{locate-refused, table-holds}
use Rattle.spec_calls.specs.Lent.{viewed}
use Rattle.read_cells.proofs.PointLaws.{part-listed}
use Rattle.call_locate.proofs.CallLaws.{lists-chained, lists-searchable, locate-done}
use Rattle.call_locate.proofs.locate.Goals as goal

pub listing-listed-requires : goal.listing-listed-requires
listing-listed-requires c =
    let a = c.args in
    let chart = viewed a.chart in
    let fine = chained-passed chart c.in_ok-judge.ensures in
    lists-searchable chart a.p fine.0 fine.1

pub first_holding-requires : goal.first_holding-requires
unfolding chart_entries
first_holding-requires c =
    let a = c.args in
    let chart = viewed a.chart in
    let fine = chained-passed chart c.in_ok-judge.ensures in
    let listed : c.listing-listed.result.now ≡ listing (chart_entries chart) a.p = part-listed (lists-chained chart a.p fine.0 fine.1) a.p c.listing-listed.ensures in
    table-holds chart fine.0 fine.1 a.p listed

pub returns : goal.returns
unfolding chart_entries
returns c =
    let a = c.args in
    let chart = viewed a.chart in
    let fine = chained-passed chart c.in_ok-judge.ensures in
    let listed : c.listing-listed.result.now ≡ listing (chart_entries chart) a.p = part-listed (lists-chained chart a.p fine.0 fine.1) a.p c.listing-listed.ensures in
    locate-done chart a.p fine.0 fine.1 listed c.first_holding.ensures

pub returns-in_err-judge : goal.returns-in_err-judge
returns-in_err-judge c =
    let p = err_from_is_err_and c.from_residual.result c.from_residual.ensures.1 in rw (p.1, p.2) (locate-refused (viewed c.args.chart) c.in_err-judge.ensures c.args.p)
