-- The invariant: rotations of triangle i before number k share no side with triangle j.
use mathlib.Core.Path.{◌≡◌, sym, ◌∙◌, ap, ap₂}
use mathlib.Core.List.{List}
use mathlib.Core.Option.{Option}
use Prim.Native.Nat.{ℕ}
use Rattle.spec_plane.specs.declared.Point.{Point}
use Rattle.spec_plane.specs.Triangle.{Triangle, triangle_of, rotated}
use Rattle.spec_charts.specs.Table.{table_of}
use Rattle.spec_charts.specs.Edits.{rotations, flip_as}
use Rattle.edit_sides.specs.Sharing.{first_sharing}
use Rattle.edit_flip.proofs.FlipSteps.{tried-hit, tried-next, tried-end, flip-beyond, flip-begun}
use Rattle.edit_flip.proofs.flip_table.Goals as goal

-- the rotation that is tried is rotation k
tried : (us : List Triangle) (s : List Point) (k : ℕ) {v : List Point} {o : Option Triangle} → v ≡ rotated s k
    → first_sharing (triangle_of v) us ≡ o → first_sharing (triangle_of (rotated s k)) us ≡ o
tried us s k read e = sym (ap (λ w. first_sharing (triangle_of w) us) read) ∙ e

pub returns-then-i-n-clause-scratch_after : goal.returns-then-i-n-clause-scratch_after
returns-then-i-n-clause-scratch_after c = sym (flip-beyond c.args.table.now c.args.n c.args.i c.args.j c.if-i-n.true)

pub returns-in-Some-clause-scratch_after : goal.returns-in-Some-clause-scratch_after
returns-in-Some-clause-scratch_after c =
    let a = c.args in
    let s = c.triangle_at-s.result in
    let us = rotations (triangle_of c.triangle_at-u.result) in
    let table = table_of a.table.now a.n in
    c.flip_as.ensures.scratch_after
    ∙ ap₂ (λ v w. flip_as table a.i a.j (triangle_of v) (triangle_of w)) c.rotated-v.ensures c.rotated.ensures
    ∙ sym (tried-hit table a.i a.j us s c.loop-k.invariant _ c.loop-k-test.true (tried us s c.loop-k.k c.rotated-v.ensures c.in-Some.ensures.1))
    ∙ sym (flip-begun a.table.now a.n a.i a.j c.triangle_at-s.ensures c.triangle_at-u.ensures c.if-i-n.false)

pub loop-k-preserved : goal.loop-k-preserved
loop-k-preserved c =
    let a = c.args in
    let s = c.triangle_at-s.result in
    let us = rotations (triangle_of c.triangle_at-u.result) in
    tried-next (table_of a.table.now a.n) a.i a.j us s c.loop-k.invariant c.loop-k-test.true
    (tried us s c.loop-k.k c.rotated-v.ensures c.in_default.ensures)

pub returns-clause-scratch_after : goal.returns-clause-scratch_after
returns-clause-scratch_after c =
    let a = c.args in
    let us = rotations (triangle_of c.triangle_at-u.result) in
    sym (flip-begun a.table.now a.n a.i a.j c.triangle_at-s.ensures c.triangle_at-u.ensures c.if-i-n.false
    ∙ tried-end (table_of a.table.now a.n) a.i a.j us c.triangle_at-s.result c.loop-k.invariant c.loop-k-test.false c.loop-k.auto.k-end)
