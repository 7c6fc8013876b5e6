use mathlib.Core.Path.{sym, ◌∙◌, ap}
use native.Mathlib.Omega.{arith}
use Rattle.spec_charts.specs.declared.Refusal.TheVariants.{FaultyTriangle}
use Rattle.spec_charts.specs.Refusals.{Outcome, refused, done, and_then}
use Rattle.spec_charts.specs.Table.{Table}
use Rattle.spec_charts.specs.Edits.{given_table}
use Rattle.call_load.proofs.GivenLaws.{given-length, given-faulty, given-done}
use Rattle.call_load.proofs.load_checks.judge_given.Goals as goal

-- what a load makes of the numbers, by itself
abbrev judged : Outcome Table → Outcome (Unit {0})
judged o = and_then o (λ t. done tt)

pub returns-then-numbers : goal.returns-then-numbers
unfolding and_then
returns-then-numbers c =
    sym (ap judged (given-length c.args.numbers.now c.if-numbers.true))

pub returns-in-Some : goal.returns-in-Some
unfolding and_then given_table
returns-in-Some c =
    let e = c.in-Some.ensures in
    ap (λ i. refused (FaultyTriangle i)) e.0 ∙ sym (ap judged (given-faulty c.args.numbers.now c.if-numbers.false (omega (arith, e.0, e.1))))

pub returns-in-None : goal.returns-in-None
unfolding and_then given_table
returns-in-None c = sym (ap judged (given-done c.args.numbers.now c.if-numbers.false c.in-None.ensures))
