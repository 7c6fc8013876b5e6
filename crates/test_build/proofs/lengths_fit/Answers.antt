use mathlib.Core.Path.{refl}
use Rattle.test_build.specs.Buildable.{lengths_fit}
use Rattle.test_build.proofs.lengths_fit.Goals as goal

pub returns : goal.returns
unfolding lengths_fit
returns c =
    refl
