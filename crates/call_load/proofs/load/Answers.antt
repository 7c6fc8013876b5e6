-- Judged, then stored: nothing is written before the store.
use mathlib.Core.Path.{◌≡◌, ◌∙◌, ap}
use native.Mathlib.Omega.{arith}
use Rattle.std.proofs.lemmas.Result.{err_from_is_err_and}
use Rattle.spec_charts.specs.Refusals.{done}
use Rattle.spec_charts.specs.Edits.{given_table}
use Rattle.spec_calls.specs.Calls.{changed_by}
use Rattle.spec_calls.specs.Lent.{viewed_mut}
use Rattle.call_load.proofs.LoadLaws.{judged_load, load-refused, load-judged, load-accepted, load-rest}
use Rattle.call_load.proofs.load.Goals as goal

pub returns-in_err-judged-clause-loaded : goal.returns-in_err-judged-clause-loaded
unfolding changed_by
returns-in_err-judged-clause-loaded c =
    let ns = c.args.numbers.now in
    let chart = viewed_mut c.args.chart.now in
    let p = err_from_is_err_and c.from_residual.result c.from_residual.ensures.1 in
    rw (p.1, p.2) (load-refused ns chart (c.in_err-judged.ensures ∙ ap (judged_load ns) c.view.ensures))

-- nothing is against the load
pub store-requires-clause-drawn : goal.store-requires-clause-drawn
unfolding given_table
store-requires-clause-drawn c =
    let ns = c.args.numbers.now in
    let given = load-accepted ns (viewed_mut c.args.chart.now) (c.in_ok-judged.ensures ∙ ap (judged_load ns) c.view.ensures) in
    record { few = omega (arith, given.few); room = omega arith; oriented = given.oriented }

pub store-requires-clause-long : goal.store-requires-clause-long
store-requires-clause-long c =
    let ns = c.args.numbers.now in
    (load-judged ns (viewed_mut c.args.chart.now) (c.in_ok-judged.ensures ∙ ap (judged_load ns) c.view.ensures)).0

pub returns-clause-loaded : goal.returns-clause-loaded
unfolding given_table
returns-clause-loaded c =
    let ns = c.args.numbers.now in
    c.store.ensures.stored ∙ load-rest ns (viewed_mut c.args.chart.now) (c.in_ok-judged.ensures ∙ ap (judged_load ns) c.view.ensures)
