-- What is printed goes by the number of the call: 0, 5 or another.
use Rattle.std.proofs.Common.{◌∙◌, refl, ap₂, arith}
use Rattle.spec_charts.specs.Refusals.{outcome_value}
use Rattle.spec_log.specs.Log.{line}
use Rattle.base_answers.specs.Outcomes.{outcome_of}
use Rattle.log_lines.proofs.LineLaws.{wrote_as}
use Rattle.log_events.proofs.EventLaws.{told-done, told-faulty, told-other, room-two, room-three}
use Rattle.log_events.proofs.put_told.Goals as goal

pub put_line-requires : goal.put_line-requires
put_line-requires c =
    omega (arith, room-three c.from-first.result c.from-number.result c.args.entries (omega arith) (omega arith) (omega arith))

pub returns-in-0 : goal.returns-in-0
returns-in-0 c =
    let v = outcome_value (outcome_of c.args.answer) in
    let number = c.from-number.ensures ∙ c.number.ensures in
    wrote_as (ap₂ line c.from-first.ensures (told-done v number (omega (arith, c.in-0.is)) refl)) c.put_line.ensures

pub put_line-requires-in-5 : goal.put_line-requires-in-5
put_line-requires-in-5 c =
    omega (arith, room-three c.from-first.result c.from-number.result c.value-triangle.result (omega arith) (omega arith) (omega arith))

pub returns-in-5 : goal.returns-in-5
returns-in-5 c =
    let number = c.from-number.ensures ∙ c.number.ensures in
    wrote_as (ap₂ line c.from-first.ensures (told-faulty c.args.entries number (omega (arith, c.in-5.is)) c.value-triangle.ensures)) c.put_line-in-5.ensures

pub put_line-requires-in_default : goal.put_line-requires-in_default
put_line-requires-in_default c =
    omega (arith, room-two c.from-first.result c.from-number.result (omega arith) (omega arith))

pub returns-in_default : goal.returns-in_default
returns-in_default c =
    let v = outcome_value (outcome_of c.args.answer) in
    let number = c.from-number.ensures ∙ c.number.ensures in
    wrote_as (ap₂ line c.from-first.ensures (told-other v c.args.entries number (omega arith) (omega arith))) c.put_line-in_default.ensures
