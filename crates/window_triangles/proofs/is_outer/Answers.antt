-- D at the farthest corner, as the difference of two sums.
use mathlib.Core.Path.{◌≡◌, ◌∙◌, ap₂}
use mathlib.Core.Bool.{cond}
use native.Mathlib.Omega.{arith}
use borrow.Author.Tests.{le-leb, lt-leb}
use lib.Dec.{leb}
use Rattle.spec_plane.specs.Point.{orient}
use Rattle.base_geometry.specs.Bounds.{bounds_box}
use Rattle.window_triangles.proofs.OuterLaws.{outer-corner}
use Rattle.window_triangles.proofs.is_outer.Goals as goal
use Rattle.window_triangles.proofs.is_outer.Goals.{then-q-p, else-q-p, then-p-q, else-p-q}

pub returns : goal.returns
returns c =
    let a = c.args in
    let d = c.orientation-d.result in
    let x : c.if-q-p.x ≡ cond (leb a.q.y a.p.y) a.w.right a.w.left =
    elim c.if-q-p.branch [
      | then-q-p w ↦ rw (le-leb a.q.y a.p.y w.if-q-p.true) w.x-is
      | else-q-p w ↦ rw (lt-leb a.q.y a.p.y w.if-q-p.false) w.x-is
    ]
    in
    let y : c.if-p-q.y ≡ cond (leb a.p.x a.q.x) a.w.bottom a.w.top =
    elim c.if-p-q.branch [
      | then-p-q w ↦ rw (le-leb a.p.x a.q.x w.if-p-q.true) w.y-is
      | else-p-q w ↦ rw (lt-leb a.p.x a.q.x w.if-p-q.false) w.y-is
    ]
    in
    outer-corner a.p a.q (record { x = omega (arith, c.well_formed); y = omega (arith, c.well_formed) }) (bounds_box a.w) c.requires d.high d.low
    (c.orientation-d.ensures.low_value ∙ ap₂ (λ x y. orient a.p a.q (record { x = x; y = y })) x y)
