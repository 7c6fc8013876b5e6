-- A triangle with a corner in the window meets it.
use mathlib.Core.Path.{sym, ◌∙◌, ap₂}
use mathlib.Core.Bool.{◌||◌}
use Rattle.spec_plane.specs.Triangle.{triangle_of, corner_at}
use Rattle.base_geometry.specs.Bounds.{bounds_box}
use Rattle.window_triangles.proofs.CornerLaws.{corner-meets}
use Rattle.window_triangles.proofs.meets.Goals as goal

pub returns-then-is_within : goal.returns-then-is_within
unfolding triangle_of corner_at
returns-then-is_within c =
    c.if-is_within.true
    ∙ sym (corner-meets (triangle_of c.args.t) (rw c.requires.1 tt) (bounds_box c.args.w)
    (sym (ap₂ ◌||◌ (ap₂ ◌||◌ c.is_within.ensures c.is_within-2.ensures) c.is_within-3.ensures) ∙ c.if-is_within.true))
