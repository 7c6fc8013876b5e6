-- A triangle whose box is separate has no common interior point, so that those listed decide.
use mathlib.Core.Path.{◌∙◌}
use Prim.Native.Nat.{◌≤◌}
use native.Mathlib.Omega.{arith}
use lib.ListN.{length}
use Rattle.base_boxes.proofs.NearLaws.{near_before, near-sound}
use Rattle.call_soundness.proofs.disjoint.is_disjoint.Goals as goal

pub near_disjoint-requires : goal.near_disjoint-requires
near_disjoint-requires c =
    let a = c.args in
    let call = c.collect_before-c in
    let listed : call.result ≤ length call.new.near = omega (arith, call.ensures.near.few, call.ensures.same, c.requires.1) in
    record { row = c.requires.0.rows; below = near_before _ a.table.now a.boxes.now _ a.i call.result call.ensures.near listed }

pub returns-clause-value : goal.returns-clause-value
returns-clause-value c =
    let a = c.args in
    let call = c.collect_before-c in
    let listed : call.result ≤ length call.new.near = omega (arith, call.ensures.near.few, call.ensures.same, c.requires.1) in
    c.near_disjoint.ensures ∙ near-sound _ a.table.now a.boxes.now _ a.i call.result call.ensures.near listed c.requires.0 c.triangle_box-b.ensures
