-- No listed triangle so far holds the point, so the first of the rest is the first of all.
use mathlib.Core.Path.{◌≡◌, sym, ◌∙◌, ap}
use native.Mathlib.Omega.{arith}
use Prim.Native.Nat.{ℕ}
use mathlib.Core.Bool.{Bool}
use mathlib.Core.List.{List}
use lib.ListN.{get_or}
use Rattle.std.specs.Prelude.{Some}
use Rattle.spec_plane.specs.declared.Point.{Point}
use Rattle.spec_plane.specs.declared.Position.{Position}
use Rattle.spec_plane.specs.Triangle.{holds, triangle_of, corner_at}
use Rattle.spec_plane.specs.Position.{position, is_held}
use Rattle.spec_plane.proofs.PositionLaws.{position-held}
use Rattle.spec_charts.specs.Table.{triangle_at}
use Rattle.call_locate.specs.Holding.{found_of}
use Rattle.theory_lists.proofs.FirstLaws.{first-over, first-here, first-later}
use Rattle.call_locate.proofs.first_holding.Goals as goal

-- whether the listed triangle holds the point, by where the point lies by it
tested : (ns : List ℕ) (p : Point) (i : ℕ) {q : Position} {b : Bool} → q ≡ position (triangle_at ns i) p → b ≡ is_held q → b ≡ holds (triangle_at ns i) p
tested ns p i e h = h ∙ ap is_held e ∙ position-held _ _

pub returns-then-is_held : goal.returns-then-is_held
unfolding triangle_of corner_at
returns-then-is_held c =
    let a = c.args in
    let l = c.loop-k in
    let i = get_or a.list.now l.k 0 in
    let placed = c.position_in-position.ensures ∙ ap (λ t. position (triangle_of t) a.p) c.triangle_at-t.ensures ∙ ap (λ i. position (triangle_at a.table.now i) a.p) c.from.ensures in
    let held = tested a.table.now a.p i placed c.is_held.ensures in
    ap (λ q. Some (record { triangle = i; position = q })) placed
    ∙ sym (ap (found_of _) (l.invariant ∙ first-here (λ i. holds (triangle_at a.table.now i) a.p) a.list.now l.k (omega arith) (sym held ∙ c.if-is_held.true)))

pub loop-k-preserved : goal.loop-k-preserved
unfolding triangle_of corner_at
loop-k-preserved c =
    let a = c.args in
    let l = c.loop-k in
    let i = get_or a.list.now l.k 0 in
    let placed = c.position_in-position.ensures ∙ ap (λ t. position (triangle_of t) a.p) c.triangle_at-t.ensures ∙ ap (λ i. position (triangle_at a.table.now i) a.p) c.from.ensures in
    let held = tested a.table.now a.p i placed c.is_held.ensures in
    l.invariant ∙ first-later (λ i. holds (triangle_at a.table.now i) a.p) a.list.now l.k (omega arith) (sym held ∙ c.if-is_held.false)

pub returns : goal.returns
returns c =
    let a = c.args in
    let l = c.loop-k in
    sym (ap (found_of _) (l.invariant ∙ first-over (λ i. holds (triangle_at a.table.now i) a.p) a.list.now l.k (omega arith)))
