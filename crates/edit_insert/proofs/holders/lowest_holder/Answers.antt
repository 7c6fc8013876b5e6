-- The invariant: no triangle before number i holds the point.
use mathlib.Core.Path.{◌≡◌, sym, ◌∙◌, ap}
use mathlib.Core.Bool.{Bool}
use mathlib.Core.List.{List}
use Rattle.spec_plane.specs.declared.Point.{Point}
use Rattle.spec_plane.specs.declared.Position.{Position}
use Rattle.spec_plane.specs.Triangle.{Triangle, triangle_of, corners, holds}
use Rattle.spec_plane.specs.Position.{position, is_held}
use Rattle.spec_plane.proofs.PositionLaws.{position-held}
use Rattle.edit_rows.proofs.CopyLaws.{triangle-read}
use Rattle.edit_insert.proofs.InsertSteps.{unheld-next, unheld-found, unheld-all}
use Rattle.edit_insert.proofs.holders.lowest_holder.Goals as goal

-- the position is that by the table's triangle
placed : (p : Point) (t : Triangle) {s : List Point} {q : Position} → s ≡ corners t → q ≡ position (triangle_of s) p → q ≡ position t p
placed p t read e = e ∙ ap (λ u. position u p) (triangle-read t read)

-- so the test is whether that triangle holds the point
tested : (p : Point) (t : Triangle) {q : Position} {z : Bool} → q ≡ position t p → z ≡ is_held q → holds t p ≡ z
tested p t e test = sym (test ∙ ap is_held e ∙ position-held t p)

pub returns-then-is_held : goal.returns-then-is_held
returns-then-is_held c =
    let a = c.args in
    let here = placed a.p _ c.triangle_at.ensures c.position_in-q.ensures in
    (unheld-found a.table.now a.n a.p c.loop-i.invariant c.loop-i-test.true (tested a.p _ here c.if-is_held.ensures), here)

pub loop-i-preserved : goal.loop-i-preserved
loop-i-preserved c =
    let a = c.args in
    unheld-next a.table.now a.n a.p c.loop-i.invariant
    (tested a.p _ (placed a.p _ c.triangle_at.ensures c.position_in-q.ensures) c.if-is_held.ensures)

pub returns : goal.returns
returns c = unheld-all c.args.table.now c.args.n c.args.p c.loop-i.invariant c.loop-i-test.false
