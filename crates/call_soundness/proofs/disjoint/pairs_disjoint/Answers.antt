-- The first i triangles are disjoint from those before them.
use mathlib.Core.Path.{refl, sym, ◌∙◌, ap}
use Prim.Native.Nat.{◌+◌}
use native.Mathlib.Omega.{arith}
use Rattle.theory_lists.specs.Lists.{all, up_to}
use Rattle.theory_lists.proofs.IndexLaws.{all-below-none, all-below-fails, all-below-passes}
use Rattle.laws_charts.proofs.SoundLaws.{triangles_disjoint, sound-below}
use Rattle.base_boxes.proofs.BoxesLaws.{boxed-fewer}
use Rattle.call_soundness.proofs.disjoint.pairs_disjoint.Goals as goal

pub loop-i-init : goal.loop-i-init
loop-i-init c =
    let table = c.args.table.now in
    (refl, all-below-none (λ i. all (λ j. triangles_disjoint table i j) (up_to i)))

pub is_disjoint-requires : goal.is_disjoint-requires
is_disjoint-requires c =
    let a = c.args in
    let l = c.loop-i in (
      boxed-fewer a.table.now a.boxes.now (l.i + 1) a.n (omega arith) c.requires.0,
      omega (arith, l.invariant.0, c.requires.1),
    )

pub returns-then-not-is_disjoint : goal.returns-then-not-is_disjoint
returns-then-not-is_disjoint c =
    let a = c.args in
    let table = a.table.now in
    let call = c.is_disjoint in
    all-below-fails (λ i. all (λ j. triangles_disjoint table i j) (up_to i)) a.n c.loop-i.i (omega arith)
    (sym call.ensures.value ∙ c.if-not-is_disjoint.true)
    ∙ sound-below table a.n

pub loop-i-preserved : goal.loop-i-preserved
loop-i-preserved c =
    let table = c.args.table.now in
    let l = c.loop-i in
    let call = c.is_disjoint in (
      call.ensures.near_len_unchanged ∙ l.invariant.0,
      all-below-passes (λ i. all (λ j. triangles_disjoint table i j) (up_to i)) l.i l.invariant.1
          (sym call.ensures.value ∙ c.if-not-is_disjoint.false),
    )

pub returns : goal.returns
returns c =
    let a = c.args in
    let table = a.table.now in
    sym c.loop-i.invariant.1 ∙ ap (λ k. all (λ i. all (λ j. triangles_disjoint table i j) (up_to i)) (up_to k)) (omega arith)
    ∙ sound-below table a.n
