-- Where judging refuses, nothing is read; else the table is drawn.
use mathlib.Core.Path.{◌∙◌}
use Rattle.std.proofs.lemmas.Result.{err_from_is_err_and}
use Rattle.spec_calls.specs.Buffers.{chart_table}
use Rattle.spec_calls.specs.Lent.{viewed}
use Rattle.laws_calls.proofs.BufferLaws.{rule-drawn}
use Rattle.laws_calls.proofs.JudgeLaws.{chained-passed}
use Rattle.laws_calls.proofs.ReaderLaws.{sound-refused, sound-done}
use Rattle.call_soundness.proofs.soundness.Goals as goal

pub returns-in_err-judge : goal.returns-in_err-judge
returns-in_err-judge c =
    let p = err_from_is_err_and c.from_residual.result c.from_residual.ensures.1 in rw (p.1, p.2) (sound-refused (viewed c.args.chart) c.in_err-judge.ensures)

pub all_disjoint-requires : goal.all_disjoint-requires
all_disjoint-requires c =
    let fine = chained-passed (viewed c.args.chart) c.in_ok-judge.ensures in rule-drawn (viewed c.args.chart) fine.0 fine.1

pub returns : goal.returns
unfolding chart_table
returns c =
    let fine = chained-passed (viewed c.args.chart) c.in_ok-judge.ensures in
    let e = c.all_disjoint.ensures in
    (λ i. record { number = 0; is_sound = e i }) ∙ sound-done (viewed c.args.chart) fine.0 fine.1
