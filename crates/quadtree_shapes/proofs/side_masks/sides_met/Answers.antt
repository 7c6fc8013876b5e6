use mathlib.Core.Path.{sym, ap, ap₂}
use mathlib.Core.List.{[], ◌∷◌}
use Rattle.quadtree_shapes.specs.Shape.{frame_box}
use Rattle.quadtree_shapes.specs.Masks.{sides_met}
use Rattle.theory_lists.proofs.MaskLaws.{mask-three}
use Rattle.quadtree_shapes.proofs.side_masks.sides_met.Goals as goal

pub returns : goal.returns
unfolding sides_met
returns c =
    let a = c.args in
    mask-three c.side_meets-ab.result c.side_meets-bc.result c.side_meets-ca.result (sides_met a.shape.now a.offsets.now (frame_box a.f) a.i)
    (sym (ap₂ ◌∷◌ c.side_meets-ab.ensures (ap₂ ◌∷◌ c.side_meets-bc.ensures (ap (λ b. b ∷ []) c.side_meets-ca.ensures))))
