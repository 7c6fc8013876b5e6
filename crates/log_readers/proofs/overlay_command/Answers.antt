-- The overlay, then its lines.
use mathlib.Core.Path.{sym, ◌∙◌, ap, ap₂, subst}
use Prim.Native.Nat.{◌≤◌}
use native.Mathlib.Omega.{arith}
use Rattle.spec_charts.specs.Overlay.{max_pairs}
use Rattle.spec_calls.specs.Calls.{overlay_call}
use Rattle.spec_calls.specs.Lent.{viewed_mut}
use Rattle.log_lines.proofs.LineLaws.{wrote_as}
use Rattle.log_readers.proofs.ReaderCommandLaws.{overlay-few, overlay-printed}
use Rattle.log_readers.proofs.overlay_command.Goals as goal

pub put_overlaid-requires : goal.put_overlaid-requires
put_overlaid-requires c =
    let a = c.args in
    let b = a.charts.now in
    let laid = c.overlay-overlaid.ensures ∙ ap₂ (λ x y. overlay_call x y a.pairs.now) c.view.ensures c.view-2.ensures in
    let few = subst (λ n. n ≤ max_pairs) (sym (ap (λ o. o.pair_count) laid)) (overlay-few (viewed_mut b.first) (viewed_mut b.second) a.pairs.now) in
    (few, (omega (arith, c.requires.0, c.overlay-overlaid.auto.pairs), c.requires.1))

pub returns-clause-prints : goal.returns-clause-prints
returns-clause-prints c =
    let a = c.args in
    let laid = c.overlay-overlaid.ensures ∙ ap₂ (λ x y. overlay_call x y a.pairs.now) c.view.ensures c.view-2.ensures in
    λ s h. wrote_as (overlay-printed a.pairs.now c.requires.0 laid s h) c.put_overlaid.ensures
