use native.Mathlib.Omega.{arith}
use Rattle.spec_plane.specs.Triangle.{triangle_of, corner_at}
use Rattle.call_area.proofs.AreaLaws.{doubled_area-value}
use Rattle.call_area.proofs.doubled.Goals as goal

pub overflow_sub-result : goal.overflow_sub-result
unfolding triangle_of corner_at
overflow_sub-result c =
    let d = c.orientation-d in
    let v = doubled_area-value (triangle_of c.args.t) d.result.high d.result.low d.ensures.low_value c.requires in
    omega arith

pub returns : goal.returns
unfolding triangle_of corner_at
returns c =
    let d = c.orientation-d in
    let v = doubled_area-value (triangle_of c.args.t) d.result.high d.result.low d.ensures.low_value c.requires in
    (v.1, omega arith)
