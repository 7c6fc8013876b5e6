-- The invariant: from the first number on, no triangle before number i has the corner.
use mathlib.Core.Path.{◌≡◌, sym, ◌∙◌, ap}
use mathlib.Core.Bool.{Bool}
use mathlib.Core.List.{List}
use Rattle.spec_plane.specs.declared.Point.{Point}
use Rattle.spec_plane.specs.Triangle.{Triangle, triangle_of, corners}
use Rattle.spec_charts.specs.Edits.{has_corner}
use Rattle.edit_rows.proofs.CopyLaws.{triangle-read}
use Rattle.edit_star.proofs.AroundSteps.{skipped-next, skipped-found, skipped-all}
use Rattle.edit_star.proofs.next_around.Goals as goal

-- the test is of the table's triangle i
tested : (p : Point) {t : Triangle} {s : List Point} {z : Bool} → s ≡ corners t → z ≡ has_corner p (triangle_of s) → has_corner p t ≡ z
tested p {t} read e = sym (e ∙ ap (has_corner p) (triangle-read t read))

pub returns-then-has_corner : goal.returns-then-has_corner
returns-then-has_corner c =
    let a = c.args in
    skipped-found a.p a.table.now a.n c.loop-i.invariant c.loop-i.auto.i c.loop-i-test.true (tested a.p c.triangle_at.ensures c.if-has_corner.ensures)

pub loop-i-preserved : goal.loop-i-preserved
loop-i-preserved c =
    let a = c.args in
    skipped-next a.p a.table.now a.n c.loop-i.invariant c.loop-i-test.true (tested a.p c.triangle_at.ensures c.if-has_corner.ensures)

pub returns : goal.returns
returns c =
    let a = c.args in
    skipped-all a.p a.table.now a.n c.loop-i.invariant c.loop-i-test.false
