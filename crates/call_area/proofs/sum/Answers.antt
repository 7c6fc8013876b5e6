-- So far the sum is that of the triangles before i, each of them below 2^34, so it fits 64 bits.
use mathlib.Core.Path.{sym, ◌∙◌, ap, ap₂}
use Prim.Native.Nat.{◌+◌}
use native.Mathlib.Omega.{arith}
use borrow.Author.Rules.{rules}
use Rattle.spec_plane.specs.Triangle.{triangle_of, corner_at, proper, doubled_area}
use Rattle.laws_charts.proofs.ProperLaws.{proper-at}
use Rattle.laws_charts.proofs.AreaLaws.{total_area-none, total_area-more}
use Rattle.call_area.proofs.sum.Goals as goal

pub loop-i-init : goal.loop-i-init
loop-i-init c =
    (search rules, total_area-none c.args.table.now)

pub doubled-s-requires : goal.doubled-s-requires
unfolding triangle_of corner_at
doubled-s-requires c =
    let a = c.args in
    let i = c.loop-i.i in
    ap (λ t. proper (triangle_of t)) c.triangle_at.ensures ∙ proper-at a.table.now a.n i c.requires.oriented (omega arith)

pub loop-i-preserved : goal.loop-i-preserved
unfolding triangle_of corner_at
loop-i-preserved c =
    let table = c.args.table.now in
    let l = c.loop-i in
    let area = c.doubled-s.ensures.0 ∙ ap (λ t. doubled_area (triangle_of t)) c.triangle_at.ensures in
    (omega arith, ap₂ ◌+◌ l.invariant.1 area ∙ sym (total_area-more table l.i))
