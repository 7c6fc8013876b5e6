-- Every triangle before i has D > 0, so the first that has not is the lowest.
use mathlib.Core.Path.{◌≡◌, sym, ◌∙◌, ap}
use native.Mathlib.Omega.{arith}
use borrow.Author.Count.{below_more}
use Rattle.spec_plane.specs.Triangle.{proper, triangle_of, corner_at}
use Rattle.call_load.proofs.FaultyLaws.{faulty-found}
use Rattle.call_load.proofs.load_checks.first_faulty.Goals as goal

pub returns-then-not-is_proper : goal.returns-then-not-is_proper
unfolding triangle_of corner_at
returns-then-not-is_proper c =
    let a = c.args in
    let l = c.loop-i in
    let flat = sym (c.is_proper.ensures ∙ ap (λ t. proper (triangle_of t)) c.triangle_at.ensures) ∙ c.if-not-is_proper.true in
    (faulty-found a.table.now a.n l.i (omega arith) l.invariant (λ h. flat), omega arith)

pub loop-i-preserved : goal.loop-i-preserved
unfolding triangle_of corner_at
loop-i-preserved c =
    let l = c.loop-i in
    below_more _ l.i l.invariant (sym (c.is_proper.ensures ∙ ap (λ t. proper (triangle_of t)) c.triangle_at.ensures) ∙ c.if-not-is_proper.false)

pub returns : goal.returns
returns c =
    let a = c.args in
    let l = c.loop-i in
    let e : a.n ≡ l.i = omega arith in
    omega (arith, e, faulty-found a.table.now a.n l.i (omega arith) l.invariant (λ h. absurd (omega arith)))
