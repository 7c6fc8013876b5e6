-- D is at least 0, and is 0, as its two sums compare.
use mathlib.Core.Path.{◌∙◌, ap₂}
use mathlib.Core.Bool.{◌&&◌}
use Rattle.spec_plane.specs.Triangle.{holds, triangle_of, corner_at}
use Rattle.spec_plane.specs.Position.{on_line, position_of, position}
use Rattle.base_geometry.proofs.Sums.{sums-nonneg, sums-zero}
use Rattle.base_positions.proofs.position_in.Goals as goal

pub returns : goal.returns
unfolding position on_line holds triangle_of corner_at
returns c =
    let x = c.orientation-ab.result in
    let y = c.orientation-bc.result in
    let z = c.orientation-ca.result in
    let ex = c.orientation-ab.ensures.low_value in
    let ey = c.orientation-bc.ensures.low_value in
    let ez = c.orientation-ca.ensures.low_value in
    let held = ap₂ ◌&&◌ (ap₂ ◌&&◌ (sums-nonneg x.high x.low ex) (sums-nonneg y.high y.low ey)) (sums-nonneg z.high z.low ez) in
    c.position_by.ensures
    ∙ (λ i. position_of (held i) (sums-zero x.high x.low ex i) (sums-zero y.high y.low ey i) (sums-zero z.high z.low ez i))
