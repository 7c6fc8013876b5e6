-- The first i triangles are disjoint from those before them.
use mathlib.Core.Path.{sym, ◌∙◌, ap}
use native.Mathlib.Omega.{arith}
use Rattle.theory_lists.specs.Lists.{all, up_to}
use Rattle.theory_lists.proofs.IndexLaws.{all-below-none, all-below-fails, all-below-passes}
use Rattle.laws_charts.proofs.SoundLaws.{triangles_disjoint, sound-below}
use Rattle.call_soundness.proofs.disjoint.few_disjoint.Goals as goal

pub loop-i-init : goal.loop-i-init
loop-i-init c =
    let table = c.args.table.now in all-below-none (λ i. all (λ j. triangles_disjoint table i j) (up_to i))

pub returns-then-not-each_disjoint : goal.returns-then-not-each_disjoint
returns-then-not-each_disjoint c =
    let a = c.args in
    let table = a.table.now in
    let call = c.each_disjoint in
    all-below-fails (λ i. all (λ j. triangles_disjoint table i j) (up_to i)) a.n c.loop-i.i (omega arith)
    (sym call.ensures ∙ c.if-not-each_disjoint.true)
    ∙ sound-below table a.n

pub loop-i-preserved : goal.loop-i-preserved
loop-i-preserved c =
    let table = c.args.table.now in
    all-below-passes (λ i. all (λ j. triangles_disjoint table i j) (up_to i)) c.loop-i.i c.loop-i.invariant
    (sym c.each_disjoint.ensures ∙ c.if-not-each_disjoint.false)

pub returns : goal.returns
returns c =
    let a = c.args in
    let table = a.table.now in
    sym c.loop-i.invariant ∙ ap (λ k. all (λ i. all (λ j. triangles_disjoint table i j) (up_to i)) (up_to k)) (omega arith)
    ∙ sound-below table a.n
