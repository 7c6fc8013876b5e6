use mathlib.Core.Path.{◌≡◌, refl, ◌∙◌, ap}
use mathlib.Core.Bool.{Bool, true, false, not, cond}
use Prim.Native.Nat.{ℕ, ◌+◌}
use native.Mathlib.Nat.{add-zero}
use native.Mathlib.Omega.{arith}
use Rattle.std.specs.Int.{from_bool}
use Rattle.spec_plane.specs.Triangle.{triangle_of, corner_at, proper}
use Rattle.spec_plane.specs.Box.{triangle_meets}
use Rattle.laws_charts.proofs.ProperLaws.{proper-at}
use Rattle.base_geometry.specs.Bounds.{bounds_box}
use Rattle.window_triangles.specs.Listed.{is_in}
use Rattle.window_triangles.proofs.append_if_in.Goals as goal
use Rattle.window_triangles.proofs.append_if_in.Goals.{then-near-i, else-near-i}

-- one more where it counts
counted : (c : ℕ) (b : Bool) → c + from_bool b ≡ cond (not b) c (c + 1)
counted c true = refl
counted c false = add-zero c

pub meets-counts-requires : goal.meets-counts-requires
unfolding triangle_of corner_at
meets-counts-requires c =
    let a = c.args in (
      c.requires.0.framed,
      ap (λ t. proper (triangle_of t)) c.triangle_at.ensures ∙ proper-at a.table.now (a.i + 1) a.i c.requires.0.drawn.oriented (omega arith),
    )

pub returns-clause-value : goal.returns-clause-value
unfolding triangle_of corner_at
returns-clause-value c =
    let a = c.args in
    let w = bounds_box a.w in
    let tested : c.if-near-i.counts ≡ is_in a.table.now w a.near.now a.i =
    elim c.if-near-i.branch [
      | then-near-i w' ↦ rw w'.if-near-i.true (w'.counts-is ∙ w'.meets-counts.ensures ∙ ap (λ t. triangle_meets (triangle_of t) w) w'.triangle_at.ensures)
      | else-near-i w' ↦ rw w'.if-near-i.false (w'.counts-is ∙ w'.if-near-i.false)
    ]
    in
    ap (λ n. a.c + n) c.from.ensures ∙ counted a.c c.if-near-i.counts ∙ ap (λ b. cond (not b) a.c (a.c + 1)) tested
