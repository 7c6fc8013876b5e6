-- The invariant: the rotations before number k do not share the side.
use mathlib.Core.Path.{◌≡◌, sym, ◌∙◌, ap}
use mathlib.Core.Bool.{Bool}
use mathlib.Core.List.{List}
use Prim.Native.Nat.{ℕ}
use Rattle.spec_plane.specs.declared.Point.{Point}
use Rattle.spec_plane.specs.Triangle.{triangle_of, rotated}
use Rattle.spec_charts.specs.Edits.{shares_side}
use Rattle.edit_sides.specs.Sharing.{first_sharing}
use Rattle.edit_sides.proofs.RotationSteps.{skipped-next, sharing-miss, sharing-found, sharing-absent}
use Rattle.edit_sides.proofs.sharing_rotation.Goals as goal

-- the test is of rotation k
tested : (s u : List Point) (k : ℕ) {v : List Point} {z : Bool} → v ≡ rotated u k → z ≡ shares_side (triangle_of s) (triangle_of v)
    → shares_side (triangle_of s) (triangle_of (rotated u k)) ≡ z
tested s u k read e = sym (e ∙ ap (λ w. shares_side (triangle_of s) (triangle_of w)) read)

pub returns-then-shares_side : goal.returns-then-shares_side
returns-then-shares_side c =
    let a = c.args in
    (c.loop-k-test.true, sharing-found (triangle_of a.s) a.u c.loop-k.invariant c.loop-k-test.true (tested a.s a.u _ c.rotated.ensures c.if-shares_side.ensures))

pub loop-k-preserved : goal.loop-k-preserved
loop-k-preserved c =
    let a = c.args in
    let s = triangle_of a.s in
    skipped-next (first_sharing s) a.u c.loop-k.invariant c.loop-k-test.true
    (sharing-miss s (triangle_of (rotated a.u c.loop-k.k)) (tested a.s a.u _ c.rotated.ensures c.if-shares_side.ensures))

pub returns : goal.returns
returns c =
    let a = c.args in
    sharing-absent (triangle_of a.s) a.u c.loop-k.invariant c.loop-k-test.false c.loop-k.auto.k-end
