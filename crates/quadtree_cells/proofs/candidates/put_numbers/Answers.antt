-- The numbers below i are stored.
use mathlib.Core.Path.{refl, sym, ◌∙◌, ap}
use mathlib.Core.List.{[], ◌∷◌}
use native.Mathlib.Numerals.{add-one}
use native.Mathlib.Omega.{arith}
use lib.Seq.{sets}
use Rattle.theory_lists.specs.Lists.{up_to, count_from}
use Rattle.theory_lists.proofs.ListsLaws.{sets-join}
use Rattle.theory_lists.proofs.IndexLaws.{up_to-suc, up_to-length}
use Rattle.quadtree_cells.proofs.candidates.put_numbers.Goals as goal

pub loop-i-init : goal.loop-i-init
unfolding up_to count_from
loop-i-init c = refl

pub loop-i-preserved : goal.loop-i-preserved
loop-i-preserved c =
    let l = c.args.stack.now in
    let i = c.loop-i.i in
    ap (λ x. sets x i (i ∷ [])) c.loop-i.invariant
    ∙ sets-join l 0 i (up_to i) (i ∷ []) (omega (arith, up_to-length i))
    ∙ ap (sets l 0) (sym (up_to-suc i) ∙ ap up_to (sym (add-one i)))
