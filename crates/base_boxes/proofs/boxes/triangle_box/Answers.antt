use mathlib.Core.Path.{◌∙◌, ap}
use Rattle.spec_plane.specs.Triangle.{triangle_of, corner_at}
use Rattle.spec_plane.specs.Box.{triangle_box}
use Rattle.base_boxes.proofs.boxes.triangle_box.Goals as goal

pub returns : goal.returns
unfolding triangle_of corner_at
returns c =
    c.triangle_bounds.ensures ∙ ap (λ t. triangle_box (triangle_of t)) c.triangle_at.ensures
