use mathlib.Core.Path.{◌≡◌, sym, ◌∙◌}
use mathlib.Core.Bool.{false, true≢false, false≢true}
use native.Mathlib.Omega.{arith}
use Rattle.test_build.proofs.BuildableLaws.{lengths-fit, buildable-both, buildable-lengths, buildable-proper}
use Rattle.test_build.specs.Buildable.{buildable}
use Rattle.test_build.proofs.build_table.Goals as goal
use Rattle.test_build.proofs.build_table.Goals.{else-lengths_fit-via-then-lengths_fit+else-all_proper, else-lengths_fit-via-else-lengths_fit}

pub build_into-requires : goal.build_into-requires
build_into-requires c =
    let a = c.args in
    let fit = lengths-fit a.table.now a.keys.now a.levels.now a.items.now c.lengths_fit.ensures c.if-lengths_fit.true in
    record {
      drawn = record { few = omega (arith, fit.numbers); room = omega arith; oriented = sym c.all_proper.ensures ∙ c.if-all_proper.true };
      roomy = fit.lists;
    }

pub returns-then-all_proper-clause-value : goal.returns-then-all_proper-clause-value
returns-then-all_proper-clause-value c =
    let a = c.args in
    let yes = buildable-both a.table.now a.keys.now a.levels.now a.items.now c.lengths_fit.ensures c.if-lengths_fit.true c.all_proper.ensures c.if-all_proper.true in
    λ h. absurd (true≢false (sym yes ∙ h))

pub returns-clause-listed_in : goal.returns-clause-listed_in
returns-clause-listed_in c =
    let a = c.args in
    let no : buildable a.table.now a.keys.now a.levels.now a.items.now ≡ false = elim c.else-lengths_fit.branch [
      | else-lengths_fit-via-then-lengths_fit+else-all_proper w ↦
          buildable-proper a.table.now a.keys.now a.levels.now a.items.now w.all_proper.ensures w.if-all_proper.false
      | else-lengths_fit-via-else-lengths_fit w ↦
          buildable-lengths a.table.now a.keys.now a.levels.now a.items.now c.lengths_fit.ensures w.if-lengths_fit.false
    ] in
    λ h. absurd (false≢true (sym no ∙ h))
