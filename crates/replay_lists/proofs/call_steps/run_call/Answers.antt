-- The first number of a call says which call it is, and each is the call of its event.
use Rattle.std.proofs.Common.{◌≡◌, ◌∙◌, arith, get_or}
use Rattle.spec_calls.specs.Lent.{viewed_mut}
use Rattle.replay_lists.proofs.CallLaws.{load-long, edit-long, load-event, insert-event, take_out-event, flip-event}
use Rattle.replay_lists.proofs.call_steps.run_call.Goals as goal

pub slice_bounds-load-count : goal.slice_bounds-load-count
slice_bounds-load-count c = omega (arith, load-long c.args.call.now c.requires c.in-2.is)

pub slice_bounds-load-start : goal.slice_bounds-load-start
slice_bounds-load-start c = omega (arith, load-long c.args.call.now c.requires c.in-2.is)

pub returns-in-2-clause-called : goal.returns-in-2-clause-called
returns-in-2-clause-called c =
    let a = c.args in
    c.load.ensures.loaded ∙ load-event a.call.now (viewed_mut a.chart.now) c.in-2.is

-- the numbers of an edit are three
pub point_at-p-requires : goal.point_at-p-requires
point_at-p-requires c =
    let not-2 : get_or c.args.call.now 0 0 ≡ 2 → ⊥ = omega (arith, c.in-3.is) in
    omega (arith, edit-long c.args.call.now c.requires not-2)

pub returns-in-3-clause-called : goal.returns-in-3-clause-called
returns-in-3-clause-called c =
    let a = c.args in
    c.insert.ensures.inserted
    ∙ insert-event a.call.now (viewed_mut a.chart.now) c.point_at-p.ensures c.in-3.is

pub point_at-p-requires-in-4 : goal.point_at-p-requires-in-4
point_at-p-requires-in-4 c =
    let not-2 : get_or c.args.call.now 0 0 ≡ 2 → ⊥ = omega (arith, c.in-4.is) in
    omega (arith, edit-long c.args.call.now c.requires not-2)

pub returns-in-4-clause-called : goal.returns-in-4-clause-called
returns-in-4-clause-called c =
    let a = c.args in
    c.take_out.ensures.taken_out
    ∙ take_out-event a.call.now (viewed_mut a.chart.now) c.point_at-p-in-4.ensures c.in-4.is

-- any other number is a flip's
pub bounds-call-1 : goal.bounds-call-1
bounds-call-1 c =
    let not-2 : get_or c.args.call.now 0 0 ≡ 2 → ⊥ = omega arith in
    omega (arith, edit-long c.args.call.now c.requires not-2)

pub bounds-call-2 : goal.bounds-call-2
bounds-call-2 c =
    let not-2 : get_or c.args.call.now 0 0 ≡ 2 → ⊥ = omega arith in
    omega (arith, edit-long c.args.call.now c.requires not-2)

pub returns-in_default-clause-called : goal.returns-in_default-clause-called
returns-in_default-clause-called c =
    let a = c.args in
    let not-2 : get_or a.call.now 0 0 ≡ 2 → ⊥ = omega arith in
    let not-3 : get_or a.call.now 0 0 ≡ 3 → ⊥ = omega arith in
    let not-4 : get_or a.call.now 0 0 ≡ 4 → ⊥ = omega arith in
    c.flip.ensures.flipped
    ∙ flip-event a.call.now (viewed_mut a.chart.now) c.from-i.ensures c.from-j.ensures not-2 not-3 not-4
