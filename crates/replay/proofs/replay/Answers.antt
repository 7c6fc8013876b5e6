-- Both histories, then the overlay of the charts that they left: demand 3 of the buffers as they were lent.
use mathlib.Core.Path.{◌∙◌, ap₂}
use Rattle.spec_calls.specs.Calls.{overlay_call}
use Rattle.replay.proofs.ReplayLaws.{replayed}
use Rattle.replay.proofs.replay.Goals as goal

pub returns-clause-replayed : goal.returns-clause-replayed
returns-clause-replayed c =
    let words0 = c.type_inv.calls0 in
    let words1 = c.type_inv.calls1 in
    replayed (λ i. (words0 i).fits) (λ i. (words1 i).fits) c.run_history.ensures.ran c.run_history-2.ensures.ran
    (c.overlay.ensures ∙ ap₂ (λ x y. overlay_call x y c.args.pairs.now) c.view.ensures c.view-2.ensures)
