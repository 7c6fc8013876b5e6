-- What is printed goes by the answer: its counts and its pairs, or the number of its refusal.
use mathlib.Core.Path.{◌≡◌, ◌∙◌, ap}
use Prim.Native.Nat.{◌≤◌}
use native.Mathlib.Omega.{arith}
use Rattle.spec_charts.specs.Overlay.{max_pairs}
use Rattle.spec_charts.specs.Refusals.{outcome_number}
use Rattle.base_answers.specs.Outcomes.{outcome_of}
use Rattle.log_lines.proofs.LineLaws.{wrote_as, wrote-join, wrote-length}
use Rattle.log_events.proofs.EventLaws.{room-two, room-four}
use Rattle.log_readers.proofs.ReaderCommandLaws.{lines-done, lines-refused}
use Rattle.log_readers.proofs.put_overlaid.Goals as goal

pub put_line-next-requires : goal.put_line-next-requires
put_line-next-requires c =
    let o = c.in-Ok.counts in
    omega (arith, room-four 7 c.from-number.result o.pairs o.meetings (omega arith) (omega arith) (omega arith) (omega arith))

pub put_pairs-requires : goal.put_pairs-requires
put_pairs-requires c =
    let o = c.in-Ok.counts in
    let few : o.pairs ≤ max_pairs = rw c.in-Ok.is at c.requires.0 in
    let w = c.put_line-next.ensures in
    let short = room-four 7 c.from-number.result o.pairs o.meetings (omega arith) (omega arith) (omega arith) (omega arith) in
    (omega (arith, few), omega (arith, few, short, w.end, wrote-length w))

pub returns-in-Ok : goal.returns-in-Ok
returns-in-Ok c =
    let number = c.from-number.ensures ∙ c.number.ensures ∙ ap (λ r. outcome_number (outcome_of r)) c.in-Ok.is in
    rw c.in-Ok.is (wrote_as (lines-done c.in-Ok.counts c.args.pairs.now number) (wrote-join c.put_line-next.ensures c.put_pairs.ensures))

pub put_line-requires : goal.put_line-requires
put_line-requires c =
    omega (arith, room-two 7 c.from-number.result (omega arith) (omega arith))

pub returns-in-Err : goal.returns-in-Err
returns-in-Err c =
    let number = c.from-number.ensures ∙ c.number.ensures ∙ ap (λ r. outcome_number (outcome_of r)) c.in-Err.is in
    rw c.in-Err.is (wrote_as (lines-refused c.in-Err.field-0 c.args.pairs.now number) c.put_line.ensures)
